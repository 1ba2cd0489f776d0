use Rattle.mid_lines.proofs.Checking.{law_of_form}
use Rattle.mid_lines.proofs.laws.law_form.Goals as goal

pub returns : goal.returns
returns c = law_of_form
