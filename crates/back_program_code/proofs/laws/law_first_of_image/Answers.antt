use Rattle.back_program_code.proofs.Made.{law_of_first_of_image}
use Rattle.back_program_code.proofs.laws.law_first_of_image.Goals as goal

pub returns : goal.returns
returns c = law_of_first_of_image
