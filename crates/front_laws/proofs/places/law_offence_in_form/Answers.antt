-- The law is the lemma.
use Rattle.front_laws.proofs.Judging.{offence_in_form}
use Rattle.front_laws.proofs.places.law_offence_in_form.Goals as goal

pub returns : goal.returns
returns c = offence_in_form
