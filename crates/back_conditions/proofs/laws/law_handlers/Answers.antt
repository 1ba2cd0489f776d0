use Rattle.back_conditions.proofs.HandlerForms.{handlers_law}
use Rattle.back_conditions.proofs.laws.law_handlers.Goals as goal

pub returns : goal.returns
returns c = handlers_law
