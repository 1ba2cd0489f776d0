use Rattle.back_generics.proofs.Functions.{functions_law}
use Rattle.back_generics.proofs.laws.law_functions.Goals as goal

pub returns : goal.returns
returns c = functions_law
