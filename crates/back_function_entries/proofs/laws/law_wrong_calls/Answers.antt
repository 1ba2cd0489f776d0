use Rattle.back_function_entries.proofs.Wrong.{wrong_calls_law}
use Rattle.back_function_entries.proofs.laws.law_wrong_calls.Goals as goal

pub returns : goal.returns
returns c = wrong_calls_law
