-- All other forms are judged by their value.
use Rattle.std.proofs.Common.{subst}
use Rattle.back_forms.specs.Judgings.{JudgesValue}
use Rattle.back_forms.proofs.JudgedValues.{value_is_judged}
use Rattle.back_forms.proofs.judging.judging_of.Goals as goal

pub returns-in_default : goal.returns-in_default
returns-in_default c = subst JudgesValue c.form.view_is (value_is_judged c.form.inside.form c.in_default.not-Prim c.in_default.not-Sited)
