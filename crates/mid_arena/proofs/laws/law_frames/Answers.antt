use Rattle.mid_arena.proofs.EachPrimitive.{each_in_frames}
use Rattle.mid_arena.proofs.laws.law_frames.Goals as goal

pub returns : goal.returns
returns c = each_in_frames
