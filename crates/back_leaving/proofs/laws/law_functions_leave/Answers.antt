use Rattle.back_leaving.proofs.Leaving.{functions_leave_law}
use Rattle.back_leaving.proofs.laws.law_functions_leave.Goals as goal

pub returns : goal.returns
returns c = functions_leave_law
