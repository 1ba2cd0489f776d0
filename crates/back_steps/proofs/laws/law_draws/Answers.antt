use Rattle.back_steps.proofs.DrawingLaws.{law_of_draws}
use Rattle.back_steps.proofs.laws.law_draws.Goals as goal

pub returns : goal.returns
returns c = law_of_draws
