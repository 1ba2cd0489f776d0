use Rattle.back_steps.proofs.CutLaws.{law_of_cuts}
use Rattle.back_steps.proofs.laws.law_cuts.Goals as goal

pub returns : goal.returns
returns c = law_of_cuts
