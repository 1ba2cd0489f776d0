use Rattle.back_exits.proofs.Whole.{whole_blocks_law}
use Rattle.back_exits.proofs.laws.law_whole_blocks.Goals as goal

pub returns : goal.returns
returns c = whole_blocks_law
