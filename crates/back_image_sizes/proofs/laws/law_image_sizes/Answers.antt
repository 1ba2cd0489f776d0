use Rattle.back_image_sizes.proofs.Images.{law_of_image_sizes}
use Rattle.back_image_sizes.proofs.laws.law_image_sizes.Goals as goal

pub returns : goal.returns
returns c = law_of_image_sizes
