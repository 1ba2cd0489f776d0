use Rattle.back_levels.proofs.Levels.{lowering_law}
use Rattle.back_levels.proofs.laws.law_lowering.Goals as goal

pub returns : goal.returns
returns c = lowering_law
