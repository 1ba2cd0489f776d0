use Rattle.back_emit.proofs.PlacedNear.{law_of_placed_near}
use Rattle.back_emit.proofs.laws.law_placed_near.Goals as goal

pub returns : goal.returns
returns c = law_of_placed_near
