use Rattle.back_calling.proofs.Inner.{form_looking_law}
use Rattle.back_calling.proofs.laws.law_form_looking.Goals as goal

pub returns : goal.returns
returns c = form_looking_law
