use Rattle.back_program_code.proofs.ShapedImage.{law_of_shaped_image}
use Rattle.back_program_code.proofs.laws.law_shaped_image.Goals as goal

pub returns : goal.returns
returns c = law_of_shaped_image
