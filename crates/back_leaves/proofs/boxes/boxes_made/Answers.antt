-- One variable more.
use Rattle.back_leaves.proofs.Boxing.{boxed_step}
use Rattle.back_leaves.proofs.boxes.boxes_made.Goals as goal

pub loop-i-preserved : goal.loop-i-preserved
loop-i-preserved c =
    boxed_step _ c.loop-i.code c.box_made.new.code c.args.homes.now c.args.d c.args.t c.loop-i.i c.in-Some.home.now
    c.in-Some.ensures c.loop-i.invariant c.in_ok-box_made.ensures
