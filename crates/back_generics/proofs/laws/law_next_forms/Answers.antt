use Rattle.back_generics.proofs.NextForms.{next_forms_law}
use Rattle.back_generics.proofs.laws.law_next_forms.Goals as goal

pub returns : goal.returns
returns c = next_forms_law
