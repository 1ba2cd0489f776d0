use Rattle.back_exits.proofs.Inside.{bodies_law}
use Rattle.back_exits.proofs.laws.law_bodies.Goals as goal

pub returns : goal.returns
returns c = bodies_law
