use Rattle.back_exits.proofs.Once.{whole_unwound_law}
use Rattle.back_exits.proofs.laws.law_whole_unwound.Goals as goal

pub returns : goal.returns
returns c = whole_unwound_law
