-- One home more is counted; it has one box or none.
use Rattle.std.proofs.Common.{◌≤◌, [], ◌∷◌, arith}
use Rattle.flat_language.specs.declared.place.Home.{Home}
use Rattle.flat_language.specs.declared.place.Home.TheVariants.{Slot, Boxed}
use Rattle.flat_boxes.specs.Boxes.{boxes}
use Rattle.back_build.proofs.Counted.{next_counted, next_box}
use Rattle.back_build.proofs.boxes.boxes_among.Goals as goal

one_box : (h : Home) → boxes (h ∷ []) ≤ 1
one_box Slot = omega arith
one_box Boxed = omega arith

pub loop-at-preserved : goal.loop-at-preserved
loop-at-preserved c = (
  next_counted boxes (λ (h : Home). boxes (h ∷ [])) next_box c.args.homes.now c.loop-at.at c.in-Some.home.now c.loop-at.count c.box_of-count.result
      c.in-Some.ensures c.box_of-count.ensures c.loop-at.invariant.0,
  omega (arith, c.box_of-count.ensures, one_box c.in-Some.home.now, c.loop-at.invariant.1),
)
