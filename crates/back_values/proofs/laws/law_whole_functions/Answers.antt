use Rattle.back_values.proofs.Wholes.{whole_functions}
use Rattle.back_values.proofs.laws.law_whole_functions.Goals as goal

pub returns : goal.returns
returns c = whole_functions
