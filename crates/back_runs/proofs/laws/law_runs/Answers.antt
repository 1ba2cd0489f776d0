use Rattle.back_runs.proofs.Following.{law_of_runs}
use Rattle.back_runs.proofs.laws.law_runs.Goals as goal

pub returns : goal.returns
returns c = law_of_runs
