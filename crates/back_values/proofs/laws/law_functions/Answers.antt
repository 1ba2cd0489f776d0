use Rattle.back_values.proofs.Functions.{functions_law}
use Rattle.back_values.proofs.laws.law_functions.Goals as goal

pub returns : goal.returns
returns c = functions_law
