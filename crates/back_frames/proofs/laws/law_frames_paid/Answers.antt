use Rattle.back_frames.proofs.Whole.{frames_paid}
use Rattle.back_frames.proofs.laws.law_frames_paid.Goals as goal

pub returns : goal.returns
returns c = frames_paid
