-- The segments made so far stand in front of those still to be made.
use Rattle.std.proofs.Common.{◌≡◌, drop}
use Rattle.front_profile.specs.Elaborations.{make_segments}
use Rattle.front_elaboration.proofs.MakingGroups.{segments_before}
use Rattle.front_elaboration.proofs.elaborate.lists.segment_list.Given as goal

abbrev pub invariant-loop-length : goal.invariant-loop-length
invariant-loop-length l = segments_before l.list (make_segments (drop l.length-index l.lengths) l.queue) ≡ make_segments l.lengths l.fn.forms
