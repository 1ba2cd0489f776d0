use Rattle.back_conditions.proofs.Unhandled.{unhandled_law}
use Rattle.back_conditions.proofs.laws.law_unhandled.Goals as goal

pub returns : goal.returns
returns c = unhandled_law
