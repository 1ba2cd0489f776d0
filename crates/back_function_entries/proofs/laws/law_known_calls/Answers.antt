use Rattle.back_function_entries.proofs.KnownCalls.{known_calls_law}
use Rattle.back_function_entries.proofs.laws.law_known_calls.Goals as goal

pub returns : goal.returns
returns c = known_calls_law
