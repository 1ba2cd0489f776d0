use Rattle.back_conditions.proofs.FunctionTests.{function_tests_law}
use Rattle.back_conditions.proofs.laws.law_function_tests.Goals as goal

pub returns : goal.returns
returns c = function_tests_law
