use Rattle.back_conditions.proofs.Combined.{errors_law}
use Rattle.back_conditions.proofs.laws.law_errors.Goals as goal

pub returns : goal.returns
returns c = errors_law
