use Rattle.back_exits.proofs.Blocks.{blocks_law}
use Rattle.back_exits.proofs.laws.law_blocks.Goals as goal

pub returns : goal.returns
returns c = blocks_law
