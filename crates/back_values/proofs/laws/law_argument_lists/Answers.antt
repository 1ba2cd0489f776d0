use Rattle.back_values.proofs.Lists.{argument_lists_law}
use Rattle.back_values.proofs.laws.law_argument_lists.Goals as goal

pub returns : goal.returns
returns c = argument_lists_law
