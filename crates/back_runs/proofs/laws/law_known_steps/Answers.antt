use Rattle.back_runs.proofs.Doing.{law_of_known_steps}
use Rattle.back_runs.proofs.laws.law_known_steps.Goals as goal

pub returns : goal.returns
returns c = law_of_known_steps
