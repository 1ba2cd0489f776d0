use Rattle.back_conditions.proofs.TwoWords.{signals_law}
use Rattle.back_conditions.proofs.laws.law_signal_forms.Goals as goal

pub returns : goal.returns
returns c = signals_law
