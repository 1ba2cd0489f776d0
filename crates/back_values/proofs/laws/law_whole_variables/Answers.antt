use Rattle.back_values.proofs.Wholes.{whole_variables}
use Rattle.back_values.proofs.laws.law_whole_variables.Goals as goal

pub returns : goal.returns
returns c = whole_variables
