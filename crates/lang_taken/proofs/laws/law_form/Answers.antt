use Rattle.lang_taken.proofs.Forms.{law_of_form}
use Rattle.lang_taken.proofs.laws.law_form.Goals as goal

pub returns : goal.returns
returns c = law_of_form
