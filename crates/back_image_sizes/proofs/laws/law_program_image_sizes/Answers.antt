use Rattle.back_image_sizes.proofs.Flat.{law_of_program_image_sizes}
use Rattle.back_image_sizes.proofs.laws.law_program_image_sizes.Goals as goal

pub returns : goal.returns
returns c = law_of_program_image_sizes
