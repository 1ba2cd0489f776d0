use Rattle.back_values.proofs.Arguments.{judged_arguments_law}
use Rattle.back_values.proofs.laws.law_judged_arguments.Goals as goal

pub returns : goal.returns
returns c = judged_arguments_law
