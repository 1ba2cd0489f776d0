use Rattle.back_image_sizes.proofs.Uses.{law_of_use_sizes}
use Rattle.back_image_sizes.proofs.laws.law_use_sizes.Goals as goal

pub returns : goal.returns
returns c = law_of_use_sizes
