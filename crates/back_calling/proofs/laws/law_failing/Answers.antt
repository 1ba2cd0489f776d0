use Rattle.back_calling.proofs.Sited.{failing_law}
use Rattle.back_calling.proofs.laws.law_failing.Goals as goal

pub returns : goal.returns
returns c = failing_law
