use Rattle.back_function_entries.proofs.WholeEntries.{lent_entries_law}
use Rattle.back_function_entries.proofs.laws.law_lent_entries.Goals as goal

pub returns : goal.returns
returns c = lent_entries_law
