use Rattle.back_levels.proofs.Runs.{runs_law}
use Rattle.back_levels.proofs.laws.law_runs.Goals as goal

pub returns : goal.returns
returns c = runs_law
