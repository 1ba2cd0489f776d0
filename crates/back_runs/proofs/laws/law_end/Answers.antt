use Rattle.back_runs.proofs.Images.{law_of_end}
use Rattle.back_runs.proofs.laws.law_end.Goals as goal

pub returns : goal.returns
returns c = law_of_end
