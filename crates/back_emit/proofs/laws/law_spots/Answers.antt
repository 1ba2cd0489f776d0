use Rattle.back_emit.proofs.FromSpots.{law_of_spots}
use Rattle.back_emit.proofs.laws.law_spots.Goals as goal

pub returns : goal.returns
returns c = law_of_spots
