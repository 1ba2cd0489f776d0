-- What was counted, with what is left, is what there is; and there are no more boxes than homes.
use Rattle.std.proofs.Common.{◌≡◌, ◌+◌, ◌≤◌, drop}
use Rattle.flat_boxes.specs.Boxes.{boxes}
use Rattle.back_build.proofs.boxes.boxes_among.Given as goal

abbrev pub invariant-loop-at : goal.invariant-loop-at
invariant-loop-at l = (l.count + boxes (drop l.at l.homes) ≡ boxes l.homes) × (l.count ≤ l.at)
