-- The law is the lemma.
use Rattle.front_laws.specs.Places.{InText}
use Rattle.front_laws.proofs.Texts.{after_in, stop_in}
use Rattle.front_laws.proofs.places.law_stop_in_text.Goals as goal

pub returns : goal.returns
returns c = stop_in InText after_in
