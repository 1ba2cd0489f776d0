use Rattle.mid_code.proofs.Blocks.{law_of_blocks}
use Rattle.mid_code.proofs.laws.law_blocks.Goals as goal

pub returns : goal.returns
returns c = law_of_blocks
