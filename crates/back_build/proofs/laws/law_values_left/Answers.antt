use Rattle.back_build.proofs.Values.{law_of_values_left}
use Rattle.back_build.proofs.laws.law_values_left.Goals as goal

pub returns : goal.returns
returns c = law_of_values_left
