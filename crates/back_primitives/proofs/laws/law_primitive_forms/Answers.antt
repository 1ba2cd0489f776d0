use Rattle.back_primitives.proofs.Forms.{primitive_forms_law}
use Rattle.back_primitives.proofs.laws.law_primitive_forms.Goals as goal

pub returns : goal.returns
returns c = primitive_forms_law
