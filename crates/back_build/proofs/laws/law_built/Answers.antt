-- By the laws of the crates below, and by what images of whole programs mean.
use Rattle.back_build.proofs.ImagesMade.{built_law}
use Rattle.back_build.proofs.laws.law_built.Goals as goal

pub returns : goal.returns
returns c =
    built_law (record {
      compiled = c.law_compiled.ensures;
      placed_laid_out = c.law_placed_laid_out.ensures;
      images = c.law_images.ensures;
      first_of_image = c.law_first_of_image.ensures;
    })
