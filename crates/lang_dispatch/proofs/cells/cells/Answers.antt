-- Each turn counts a generic function; past the limit nothing is counted.
use Rattle.std.proofs.Common.{◌≡◌, ◌+◌, drop, arith}
use Rattle.std.specs.List.{sum_by}
use Rattle.lang_meaning.specs.Cells.{generic_cells}
use Rattle.lang_dispatch.specs.OfClasses.{with_classes}
use Rattle.base.specs.bridge.Counted.{sum_left, one_counted}
use Rattle.lang_dispatch.proofs.Picking.{item_at}
use Rattle.lang_dispatch.proofs.cells.cells.Goals as goal

pub returns-then-sum-eq-CELLS_LIMIT : goal.returns-then-sum-eq-CELLS_LIMIT
returns-then-sum-eq-CELLS_LIMIT c =
    let there = item_at c.as_slice-generic-items.result.now c.args.generics.now c.loop-generic.generic-index c.generic-item.result c.as_slice-generic-items.ensures c.loop-generic-test.true c.generic-item.is in
    let f = generic_cells (with_classes c.args.classes.now) in
    let left : sum_by f (drop c.loop-generic.generic-index c.args.generics.now) ≡ f c.generic-item.result + sum_by f (drop (c.loop-generic.generic-index + 1) c.args.generics.now) =
    sum_left f c.args.generics.now c.loop-generic.generic-index c.generic-item.result there in
    let counted = one_counted c.loop-generic.sum (f c.generic-item.result) c.in_ok-generic_cells.field-0 _ _ _ c.capped_sum-sum.result 262145
    left c.in_ok-generic_cells.ensures c.capped_sum-sum.ensures c.loop-generic.invariant.counted in
    omega (arith, counted)

pub loop-generic-preserved : goal.loop-generic-preserved
loop-generic-preserved c =
    let there = item_at c.as_slice-generic-items.result.now c.args.generics.now c.loop-generic.generic-index c.generic-item.result c.as_slice-generic-items.ensures c.loop-generic-test.true c.generic-item.is in
    let f = generic_cells (with_classes c.args.classes.now) in
    let left : sum_by f (drop c.loop-generic.generic-index c.args.generics.now) ≡ f c.generic-item.result + sum_by f (drop (c.loop-generic.generic-index + 1) c.args.generics.now) =
    sum_left f c.args.generics.now c.loop-generic.generic-index c.generic-item.result there in
    record {
      fits = omega (arith, c.capped_sum-sum.ensures);
      counted = one_counted c.loop-generic.sum (f c.generic-item.result) c.in_ok-generic_cells.field-0 _ _ _ c.capped_sum-sum.result 262145
          left c.in_ok-generic_cells.ensures c.capped_sum-sum.ensures c.loop-generic.invariant.counted;
    }
