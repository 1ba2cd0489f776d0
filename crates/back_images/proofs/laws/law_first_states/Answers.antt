use Rattle.back_images.proofs.Images.{law_of_first_states}
use Rattle.back_images.proofs.laws.law_first_states.Goals as goal

pub returns : goal.returns
returns c = law_of_first_states
