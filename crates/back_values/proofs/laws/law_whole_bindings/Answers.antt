use Rattle.back_values.proofs.Wholes.{whole_bindings}
use Rattle.back_values.proofs.laws.law_whole_bindings.Goals as goal

pub returns : goal.returns
returns c = whole_bindings
