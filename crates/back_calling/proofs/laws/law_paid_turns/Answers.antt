use Rattle.back_calling.proofs.Entered.{paid_turns_law}
use Rattle.back_calling.proofs.laws.law_paid_turns.Goals as goal

pub returns : goal.returns
returns c = paid_turns_law
