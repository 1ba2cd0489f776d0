use Rattle.back_values.proofs.Arguments.{arguments_law}
use Rattle.back_values.proofs.laws.law_arguments.Goals as goal

pub returns : goal.returns
returns c = arguments_law
