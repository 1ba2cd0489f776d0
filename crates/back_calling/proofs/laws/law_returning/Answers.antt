use Rattle.back_calling.proofs.Inner.{returning_law}
use Rattle.back_calling.proofs.laws.law_returning.Goals as goal

pub returns : goal.returns
returns c = returning_law
