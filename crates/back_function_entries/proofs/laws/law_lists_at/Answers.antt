use Rattle.back_function_entries.proofs.Lists.{lists_at_law}
use Rattle.back_function_entries.proofs.laws.law_lists_at.Goals as goal

pub returns : goal.returns
returns c = lists_at_law
