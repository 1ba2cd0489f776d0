use Rattle.back_runs.proofs.Images.{law_of_image_runs}
use Rattle.back_runs.proofs.laws.law_image_runs.Goals as goal

pub returns : goal.returns
returns c = law_of_image_runs
