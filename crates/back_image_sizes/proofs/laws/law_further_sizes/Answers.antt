use Rattle.back_image_sizes.proofs.Further.{law_of_further_sizes}
use Rattle.back_image_sizes.proofs.laws.law_further_sizes.Goals as goal

pub returns : goal.returns
returns c = law_of_further_sizes
