use Rattle.back_exits.proofs.Once.{unwound_law}
use Rattle.back_exits.proofs.laws.law_unwound.Goals as goal

pub returns : goal.returns
returns c = unwound_law
