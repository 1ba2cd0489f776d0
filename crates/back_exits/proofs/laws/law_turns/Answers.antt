use Rattle.back_exits.proofs.Turns.{turns_law}
use Rattle.back_exits.proofs.laws.law_turns.Goals as goal

pub returns : goal.returns
returns c = turns_law
