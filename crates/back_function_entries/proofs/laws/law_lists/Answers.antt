use Rattle.back_function_entries.proofs.EntryLists.{lists_law}
use Rattle.back_function_entries.proofs.laws.law_lists.Goals as goal

pub returns : goal.returns
returns c = lists_law
