use Rattle.back_generics.proofs.Functions.{function_claims_law}
use Rattle.back_generics.proofs.laws.law_function_claims.Goals as goal

pub returns : goal.returns
returns c = function_claims_law
