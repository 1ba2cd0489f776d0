-- List by list.
use Rattle.std.proofs.Common.{length, ap, arith}
use Rattle.lang_dispatch.proofs.Picking.{item_at}
use Rattle.lang_dispatch.proofs.Decoding.{some_left, next_left, decoding_more, decoding_all}
use Rattle.lang_dispatch.proofs.tuples.tuple_at.Goals as goal

pub nonzero_div-left : goal.nonzero_div-left
nonzero_div-left c =
    let there = item_at c.as_slice-list-items.result.now c.args.lists.now c.loop-list.list-index c.list-item.result c.as_slice-list-items.ensures c.loop-list-test.true c.list-item.is in
    rw c.len-left.ensures ((some_left _ _ _ _ _ _ c.list-item.result c.loop-list.invariant there).0)

pub nonzero_div-place : goal.nonzero_div-place
nonzero_div-place c =
    let there = item_at c.as_slice-list-items.result.now c.args.lists.now c.loop-list.list-index c.list-item.result c.as_slice-list-items.ensures c.loop-list-test.true c.list-item.is in
    rw c.len-left.ensures ((next_left _ _ _ _ _ _ c.list-item.result c.loop-list.invariant there).1)

pub unreachable-requires : goal.unreachable-requires
unreachable-requires c =
    let there = item_at c.as_slice-list-items.result.now c.args.lists.now c.loop-list.list-index c.list-item.result c.as_slice-list-items.ensures c.loop-list-test.true c.list-item.is in
    let past = rw c.len-left.ensures at c.in_default.ensures in
    omega (arith, past, (next_left _ _ _ _ _ _ c.list-item.result c.loop-list.invariant there).2)

pub nonzero_rem-place : goal.nonzero_rem-place
nonzero_rem-place c =
    let there = item_at c.as_slice-list-items.result.now c.args.lists.now c.loop-list.list-index c.list-item.result c.as_slice-list-items.ensures c.loop-list-test.true c.list-item.is in
    rw c.len-left.ensures ((next_left _ _ _ _ _ _ c.list-item.result c.loop-list.invariant there).1)

pub loop-list-preserved : goal.loop-list-preserved
loop-list-preserved c =
    let there = item_at c.as_slice-list-items.result.now c.args.lists.now c.loop-list.list-index c.list-item.result c.as_slice-list-items.ensures c.loop-list-test.true c.list-item.is in
    let got = rw c.len-left.ensures at c.in-Some.ensures in
    rw (c.len-left.ensures, c.in_ok-push.ensures.ok) (decoding_more _ _ _ _ _ _ c.list-item.result c.in-Some.class.now c.loop-list.invariant there got)

pub returns : goal.returns
returns c = decoding_all _ _ _ _ _ _ c.loop-list.invariant (omega (arith, ap length c.as_slice-list-items.ensures))
