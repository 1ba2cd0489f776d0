-- Where one function more captures its boxes, all do where those that are left do; where one does not, not all do.
use Rattle.std.specs.List.{list_all}
use Rattle.back_build.specs.Counted.{has_boxes_captured}
use Rattle.back_build.proofs.Listed.{holds_of, fails_of, next_listed}
use Rattle.back_build.proofs.boxes.all_captured.Goals as goal

pub loop-at-preserved : goal.loop-at-preserved
loop-at-preserved c =
    holds_of (list_all has_boxes_captured) has_boxes_captured (next_listed has_boxes_captured) c.args.procedures.now c.loop-at.at c.in-Some.procedure.now
    c.in_ok-are.are c.in-Some.ensures c.in_ok-are.ensures c.if-not-are.false c.loop-at.invariant

pub returns-then-not-are : goal.returns-then-not-are
returns-then-not-are c =
    fails_of (list_all has_boxes_captured) has_boxes_captured (next_listed has_boxes_captured) c.args.procedures.now c.loop-at.at c.in-Some.procedure.now
    c.in_ok-are.are c.in-Some.ensures c.in_ok-are.ensures c.if-not-are.true c.loop-at.invariant
