use Rattle.back_calling.proofs.Inner.{going_on_law}
use Rattle.back_calling.proofs.laws.law_going_on.Goals as goal

pub returns : goal.returns
returns c = going_on_law
