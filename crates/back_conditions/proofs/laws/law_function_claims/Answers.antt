use Rattle.back_conditions.proofs.FunctionTests.{function_claims_law}
use Rattle.back_conditions.proofs.laws.law_function_claims.Goals as goal

pub returns : goal.returns
returns c = function_claims_law
