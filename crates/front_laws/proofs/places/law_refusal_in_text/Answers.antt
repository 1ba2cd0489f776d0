-- The law is the lemma.
use Rattle.front_laws.proofs.Files.{refusal_in}
use Rattle.front_laws.proofs.places.law_refusal_in_text.Goals as goal

pub returns : goal.returns
returns c = refusal_in
