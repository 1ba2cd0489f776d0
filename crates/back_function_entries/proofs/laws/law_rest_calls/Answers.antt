use Rattle.back_function_entries.proofs.RestCalls.{rest_calls_law}
use Rattle.back_function_entries.proofs.laws.law_rest_calls.Goals as goal

pub returns : goal.returns
returns c = rest_calls_law
