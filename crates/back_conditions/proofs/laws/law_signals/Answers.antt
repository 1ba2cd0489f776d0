use Rattle.back_conditions.proofs.Combined.{signals_law}
use Rattle.back_conditions.proofs.laws.law_signals.Goals as goal

pub returns : goal.returns
returns c = signals_law
