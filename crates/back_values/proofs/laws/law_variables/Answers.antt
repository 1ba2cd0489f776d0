use Rattle.back_values.proofs.Variables.{variables_law}
use Rattle.back_values.proofs.laws.law_variables.Goals as goal

pub returns : goal.returns
returns c = variables_law
