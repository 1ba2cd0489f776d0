use Rattle.back_frames.proofs.Bodies.{mains_paid}
use Rattle.back_frames.proofs.laws.law_mains_paid.Goals as goal

pub returns : goal.returns
returns c = mains_paid
