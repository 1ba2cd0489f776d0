use Rattle.back_layout.proofs.LaidOut.{law_of_positions}
use Rattle.back_layout.proofs.laws.law_positions.Goals as goal

pub returns : goal.returns
returns c = law_of_positions
