use Rattle.back_function_entries.proofs.WholeEntries.{entries_law}
use Rattle.back_function_entries.proofs.laws.law_entries.Goals as goal

pub returns : goal.returns
returns c = entries_law
