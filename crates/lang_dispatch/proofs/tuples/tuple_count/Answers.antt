-- One list more.
use Rattle.std.proofs.Common.{◌≡◌, ◌+◌, ◌*◌, min, length, drop, ◌∙◌, ap, arith}
use Rattle.lang_meaning.specs.Cells.{tuples}
use Rattle.base.specs.model.DataRest.{rest_at}
use Rattle.lang_dispatch.proofs.Picking.{item_at}
use Rattle.lang_dispatch.proofs.TuplePlaces.{length-tuples}
use Rattle.lang_dispatch.proofs.Decoding.{one_multiplied}
use Rattle.lang_dispatch.proofs.tuples.tuple_count.Goals as goal

pub loop-list-preserved : goal.loop-list-preserved
loop-list-preserved c =
    let there = item_at c.as_slice-list-items.result.now c.args.lists.now c.loop-list.list-index c.list-item.result c.as_slice-list-items.ensures c.loop-list-test.true c.list-item.is in
    let left : length (tuples (drop c.loop-list.list-index c.args.lists.now)) ≡ length c.list-item.result * length (tuples (drop (c.loop-list.list-index + 1) c.args.lists.now)) =
    ap (λ lists. length (tuples lists)) (rest_at c.args.lists.now c.loop-list.list-index c.list-item.result there)
    ∙ length-tuples c.list-item.result (drop (c.loop-list.list-index + 1) c.args.lists.now) in
    let next : c.saturating_mul-count.result ≡ min (c.loop-list.count * length c.list-item.result) 18446744073709551615 = c.saturating_mul-count.ensures ∙ ap (λ n. min (c.loop-list.count * n) 18446744073709551615) c.len.ensures in
    record {
      fits = omega (arith, next);
      counted = one_multiplied c.loop-list.count c.saturating_mul-count.result (length c.list-item.result) _ _ _ 18446744073709551615 left next c.loop-list.invariant.counted;
    }
