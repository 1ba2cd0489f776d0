use Rattle.back_calling.proofs.Entered.{turns_law}
use Rattle.back_calling.proofs.laws.law_turns.Goals as goal

pub returns : goal.returns
returns c = turns_law
