use Rattle.back_exits.proofs.Inside.{surroundings_law}
use Rattle.back_exits.proofs.laws.law_surroundings.Goals as goal

pub returns : goal.returns
returns c = surroundings_law
