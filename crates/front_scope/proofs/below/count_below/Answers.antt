-- A class more, and none.
use Rattle.std.proofs.Common.{◌≡◌, length, ap, rules, arith}
use Rattle.front_scope.specs.Below.{AreRaised}
use Rattle.front_scope.proofs.ClassCounts.{one_below, all_below, item_at}
use Rattle.front_scope.proofs.below.count_below.Goals as goal

pub loop-row-preserved : goal.loop-row-preserved
loop-row-preserved c =
    let items : c.as_slice-row-items.result.now ≡ c.args.classes.now.rows = search rules in
    let there = item_at c.as_slice-row-items.result.now c.args.classes.now.rows c.loop-row.row-index c.row-item.result items c.loop-row-test.true c.row-item.is in
    let raised : AreRaised c.row-item.result.precedence c.loop-row.counts c.raise_all.new.counts = search rules in
    one_below c.args.classes.now.rows c.loop-row.row-index c.row-item.result c.loop-row.counts c.raise_all.new.counts there raised c.loop-row.invariant

pub returns : goal.returns
returns c = λ _.
    let items : c.as_slice-row-items.result.now ≡ c.args.classes.now.rows = search rules in
    let same = ap length items in
    all_below c.args.classes.now.rows c.loop-row.row-index c.loop-row.counts (omega (arith, c.loop-row-test.false)) c.loop-row.invariant
