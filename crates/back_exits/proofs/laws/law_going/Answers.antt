use Rattle.back_exits.proofs.Moving.{going_law}
use Rattle.back_exits.proofs.laws.law_going.Goals as goal

pub returns : goal.returns
returns c = going_law
