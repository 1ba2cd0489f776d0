use Rattle.back_exits.proofs.Touching.{touching_law}
use Rattle.back_exits.proofs.laws.law_touching.Goals as goal

pub returns : goal.returns
returns c = touching_law
