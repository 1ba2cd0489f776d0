use Rattle.back_levels.proofs.Laid.{laid_runs_law}
use Rattle.back_levels.proofs.laws.law_laid_runs.Goals as goal

pub returns : goal.returns
returns c = laid_runs_law
