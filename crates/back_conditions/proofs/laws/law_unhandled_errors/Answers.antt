use Rattle.back_conditions.proofs.Combined.{unhandled_errors_law}
use Rattle.back_conditions.proofs.laws.law_unhandled_errors.Goals as goal

pub returns : goal.returns
returns c = unhandled_errors_law
