-- The law is the lemma.
use Rattle.front_laws.proofs.Files.{prelude_refusal_in}
use Rattle.front_laws.proofs.places.law_refusal_of_prelude.Goals as goal

pub returns : goal.returns
returns c = prelude_refusal_in
