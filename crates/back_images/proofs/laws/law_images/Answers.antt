use Rattle.back_images.proofs.Images.{law_of_images}
use Rattle.back_images.proofs.laws.law_images.Goals as goal

pub returns : goal.returns
returns c = law_of_images
