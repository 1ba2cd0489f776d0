use Rattle.back_function_entries.proofs.RestForms.{rest_forms_law}
use Rattle.back_function_entries.proofs.laws.law_rest_forms.Goals as goal

pub returns : goal.returns
returns c = rest_forms_law
