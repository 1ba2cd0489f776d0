use Rattle.back_conditions.proofs.Raising.{handled_errors_law}
use Rattle.back_conditions.proofs.laws.law_handled_errors.Goals as goal

pub returns : goal.returns
returns c = handled_errors_law
