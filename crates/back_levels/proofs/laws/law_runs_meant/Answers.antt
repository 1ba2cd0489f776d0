use Rattle.back_levels.proofs.RunsMeant.{runs_meant_law}
use Rattle.back_levels.proofs.laws.law_runs_meant.Goals as goal

pub returns : goal.returns
returns c = runs_meant_law
