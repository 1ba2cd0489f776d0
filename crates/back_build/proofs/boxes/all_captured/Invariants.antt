-- Of those in front all were found so.
use Rattle.std.proofs.Common.{◌≡◌, drop}
use Rattle.std.specs.List.{list_all}
use Rattle.back_build.specs.Counted.{has_boxes_captured}
use Rattle.back_build.proofs.boxes.all_captured.Given as goal

abbrev pub invariant-loop-at : goal.invariant-loop-at
invariant-loop-at l = list_all has_boxes_captured (drop l.at l.procedures) ≡ list_all has_boxes_captured l.procedures
