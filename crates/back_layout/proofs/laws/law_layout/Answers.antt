use Rattle.back_layout.proofs.LaidOut.{law_of_layout}
use Rattle.back_layout.proofs.laws.law_layout.Goals as goal

pub returns : goal.returns
returns c = law_of_layout
