use Rattle.back_places.specs.StepLaw.{Known}
use Rattle.back_emission.proofs.NewBlocks.{block_laid}
use Rattle.back_emission.proofs.laws.law_new_blocks.Goals as goal

pub returns : goal.returns
returns c = λ program l known first. block_laid program l (Known known) first
