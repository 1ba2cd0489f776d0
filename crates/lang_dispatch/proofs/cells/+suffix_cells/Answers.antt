-- Each turn counts the tuples that begin with one class; past the limit nothing is counted.
use Rattle.std.proofs.Common.{◌≡◌, ◌+◌, ◌-◌, ℕ, List, filter, length, drop, take, min, arith}
use Rattle.std.specs.List.{sum_by}
use Rattle.lang_meaning.specs.Cells.{tuples}
use Rattle.lang_dispatch.specs.OfClasses.{with_classes}
use Rattle.lang_dispatch.specs.Suffixes.{rest_cells, passes}
use Rattle.base.specs.bridge.Counted.{one_counted}
use Rattle.lang_dispatch.proofs.SuffixCells.{rest_ended, no_lists, fan_turn, fan_of_first}
use Rattle.lang_dispatch.proofs.cells.+suffix_cells.Goals as goal

pub returns-in_default : goal.returns-in_default
returns-in_default t c =
    let program = with_classes c.args.classes.now in
    omega (
      arith,
      no_lists (rest_cells program c.args.argument c.args.methods.now) c.args.lists.now c.in_default.len_below,
      rest_ended program c.args.argument c.args.methods.now,
      c.capped_sum.ensures,
      c.ended_count.ensures,
    )

pub returns-then-sum-eq-CELLS_LIMIT : goal.returns-then-sum-eq-CELLS_LIMIT
returns-then-sum-eq-CELLS_LIMIT t c =
    let program = with_classes c.args.classes.now in
    let f = rest_cells program c.args.argument c.args.methods.now in
    let ts : List (List ℕ) = tuples (take (length c.args.lists.now - 1) (drop 1 c.args.lists.now)) in
    let few = filter (passes program c.args.argument c.in-Some.class.now) c.args.methods.now in
    let item : c.in_ok-more.more ≡ min (sum_by (rest_cells program (c.args.argument + 1) few) ts) 262145 = rw c.in_ok-few.ensures at c.in_ok-more.ensures in
    let counted = one_counted c.loop-at.sum (sum_by (rest_cells program (c.args.argument + 1) few) ts) c.in_ok-more.more _ _ _ c.capped_sum-sum.result 262145
    (fan_turn program c.args.argument c.args.methods.now c.firsts-item.result ts c.loop-at.at c.in-Some.class.now c.in-Some.ensures)
    item c.capped_sum-sum.ensures c.loop-at.invariant.counted in
    omega (arith, counted, fan_of_first f c.args.lists.now c.firsts-item.result c.in-len1-up.len_at_least c.firsts-item.is)

pub loop-at-preserved : goal.loop-at-preserved
loop-at-preserved t c =
    let program = with_classes c.args.classes.now in
    let ts : List (List ℕ) = tuples (take (length c.args.lists.now - 1) (drop 1 c.args.lists.now)) in
    let few = filter (passes program c.args.argument c.in-Some.class.now) c.args.methods.now in
    let item : c.in_ok-more.more ≡ min (sum_by (rest_cells program (c.args.argument + 1) few) ts) 262145 = rw c.in_ok-few.ensures at c.in_ok-more.ensures in
    record {
      fits = omega (arith, c.capped_sum-sum.ensures);
      counted = one_counted c.loop-at.sum (sum_by (rest_cells program (c.args.argument + 1) few) ts) c.in_ok-more.more _ _ _ c.capped_sum-sum.result 262145
          (fan_turn program c.args.argument c.args.methods.now c.firsts-item.result ts c.loop-at.at c.in-Some.class.now c.in-Some.ensures)
          item c.capped_sum-sum.ensures c.loop-at.invariant.counted;
    }
