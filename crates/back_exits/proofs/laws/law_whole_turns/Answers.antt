use Rattle.back_exits.proofs.WholeTagbodies.{whole_turns_law}
use Rattle.back_exits.proofs.laws.law_whole_turns.Goals as goal

pub returns : goal.returns
returns c = whole_turns_law
