use Rattle.back_levels.proofs.MainSteps.{main_steps_law}
use Rattle.back_levels.proofs.laws.law_main_steps.Goals as goal

pub returns : goal.returns
returns c = main_steps_law
