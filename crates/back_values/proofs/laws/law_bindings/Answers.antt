use Rattle.back_values.proofs.Bindings.{bindings_law}
use Rattle.back_values.proofs.laws.law_bindings.Goals as goal

pub returns : goal.returns
returns c = bindings_law
