use Rattle.back_calling.proofs.Formed.{form_calls_law}
use Rattle.back_calling.proofs.laws.law_form_calls.Goals as goal

pub returns : goal.returns
returns c = form_calls_law
