use Rattle.back_steps.proofs.BlockLaws.{law_of_lends}
use Rattle.back_steps.proofs.laws.law_lends.Goals as goal

pub returns : goal.returns
returns c = law_of_lends
