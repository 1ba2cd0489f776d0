use Rattle.flat_ends.proofs.Final.{law_of_signals_behind}
use Rattle.flat_ends.proofs.laws.law_signals_behind.Goals as goal

pub returns : goal.returns
returns c = law_of_signals_behind
