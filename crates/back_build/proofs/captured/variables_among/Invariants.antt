-- What was counted, with what is left, is what there is.
use Rattle.std.proofs.Common.{◌≡◌, ◌+◌, drop}
use Rattle.flat_boxes.specs.Boxes.{variables_among}
use Rattle.back_build.proofs.captured.variables_among.Given as goal

abbrev pub invariant-loop-at : goal.invariant-loop-at
invariant-loop-at l = l.count + variables_among (drop l.at l.parts) ≡ variables_among l.parts
