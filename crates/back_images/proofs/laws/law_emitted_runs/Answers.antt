use Rattle.back_images.proofs.Images.{law_of_emitted_runs}
use Rattle.back_images.proofs.laws.law_emitted_runs.Goals as goal

pub returns : goal.returns
returns c = law_of_emitted_runs
