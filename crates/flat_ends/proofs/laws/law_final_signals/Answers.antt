use Rattle.flat_ends.proofs.Final.{law_of_final_signals}
use Rattle.flat_ends.proofs.laws.law_final_signals.Goals as goal

pub returns : goal.returns
returns c = law_of_final_signals
