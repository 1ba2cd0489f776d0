use Rattle.back_levels.proofs.Forms.{forms_law}
use Rattle.back_levels.proofs.laws.law_forms.Goals as goal

pub returns : goal.returns
returns c = forms_law
