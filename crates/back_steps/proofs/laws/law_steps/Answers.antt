use Rattle.back_steps.proofs.AllLines.{law_of_steps}
use Rattle.back_steps.proofs.laws.law_steps.Goals as goal

pub returns : goal.returns
returns c = law_of_steps
