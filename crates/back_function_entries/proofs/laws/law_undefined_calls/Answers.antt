use Rattle.back_function_entries.proofs.Undefined.{undefined_calls_law}
use Rattle.back_function_entries.proofs.laws.law_undefined_calls.Goals as goal

pub returns : goal.returns
returns c = undefined_calls_law
