use Rattle.back_code_sizes.proofs.Forms.{law_of_form_sizes}
use Rattle.back_code_sizes.proofs.laws.law_form_sizes.Goals as goal

pub returns : goal.returns
returns c = law_of_form_sizes
