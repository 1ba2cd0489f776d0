use Rattle.back_emit.proofs.PlacedRests.{law_of_placed_rests}
use Rattle.back_emit.proofs.laws.law_placed_rests.Goals as goal

pub returns : goal.returns
returns c = law_of_placed_rests
