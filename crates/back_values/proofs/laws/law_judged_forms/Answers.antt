use Rattle.back_values.proofs.Wholes.{judged_forms}
use Rattle.back_values.proofs.laws.law_judged_forms.Goals as goal

pub returns : goal.returns
returns c = judged_forms
