-- What holds of all places of a datum holds of each.
use Rattle.front_laws.specs.Places.{InText}
use Rattle.front_laws.proofs.Parts.{all_then_each}
use Rattle.front_laws.proofs.Texts.{after_in, next_in}
use Rattle.front_laws.proofs.places.law_data_in_text.Goals as goal

pub returns : goal.returns
returns c = λ names text p q d after h r i. all_then_each InText d (next_in InText after_in names text p d after h r) q i
