use Rattle.back_levels.proofs.StartSteps.{start_steps_law}
use Rattle.back_levels.proofs.laws.law_start_steps.Goals as goal

pub returns : goal.returns
returns c = start_steps_law
