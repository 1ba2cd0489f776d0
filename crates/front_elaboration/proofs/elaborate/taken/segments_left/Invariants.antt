-- What is left behind all is left behind the rest.
use Rattle.std.proofs.Common.{◌≡◌, drop}
use Rattle.front_elaboration.specs.Taken.{segments_left}
use Rattle.front_elaboration.proofs.elaborate.taken.segments_left.Given as goal

abbrev pub invariant-loop-length : goal.invariant-loop-length
invariant-loop-length l = segments_left (drop l.length-index l.lengths) l.left ≡ segments_left l.lengths l.forms
