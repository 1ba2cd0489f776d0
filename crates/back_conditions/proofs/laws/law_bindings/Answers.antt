use Rattle.back_conditions.proofs.BindingWalk.{bindings_law}
use Rattle.back_conditions.proofs.laws.law_bindings.Goals as goal

pub returns : goal.returns
returns c = bindings_law
