use Rattle.back_build.proofs.Left.{law_of_left}
use Rattle.back_build.proofs.laws.law_left.Goals as goal

pub returns : goal.returns
returns c = law_of_left
