use Rattle.back_values.proofs.Constants.{constants_law}
use Rattle.back_values.proofs.laws.law_constants.Goals as goal

pub returns : goal.returns
returns c = constants_law
