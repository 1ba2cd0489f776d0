use Rattle.back_frames.proofs.Bodies.{bodies_paid}
use Rattle.back_frames.proofs.laws.law_bodies_paid.Goals as goal

pub returns : goal.returns
returns c = bodies_paid
