use Rattle.back_runs.proofs.Programs.{law_of_known_runs}
use Rattle.back_runs.proofs.laws.law_known_runs.Goals as goal

pub returns : goal.returns
returns c = law_of_known_runs
