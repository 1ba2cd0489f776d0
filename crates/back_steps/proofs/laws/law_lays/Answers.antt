use Rattle.back_steps.proofs.BlockLaws.{law_of_lays}
use Rattle.back_steps.proofs.laws.law_lays.Goals as goal

pub returns : goal.returns
returns c = law_of_lays
