use Rattle.back_calling.proofs.Inner.{passing_law}
use Rattle.back_calling.proofs.laws.law_passing.Goals as goal

pub returns : goal.returns
returns c = passing_law
