-- A loop counts a datum at each turn, and at its end nothing is left.
use Rattle.std.proofs.Common.{◌≡◌, ℕ, ◌+◌, ◌≤◌, List, Some, length, drop, slice_get, refl, ap, arith}
use Rattle.std.proofs.lemmas.List.{drop_all}
use Rattle.base.specs.Data.{Item, items_of}
use Rattle.base.specs.model.DataRest.{items_at}
use Rattle.base.specs.DataMeasures.{size_of, sizes_of}
use Rattle.base.specs.bridge.Counted.{one_counted, all_counted}
use Rattle.base.proofs.datum.+size.Goals as goal

sizes_at : (ds : List Item) (i : ℕ) (d : Item) → slice_get ds i ≡ Some d
    → sizes_of (items_of (drop i ds)) ≡ size_of d + sizes_of (items_of (drop (i + 1) ds))
unfolding sizes_of
sizes_at ds i d h = ap sizes_of (items_at ds i d h)

sizes_end : (ds : List Item) (i : ℕ) → length ds ≤ i → sizes_of (items_of (drop i ds)) ≡ 0
unfolding sizes_of
sizes_end ds i h = rw (drop_all i ds h) refl

pub measures::sizes-loop-at-preserved : goal.measures::sizes-loop-at-preserved
measures::sizes-loop-at-preserved t c = record {
  fits = omega (arith, c.saturating_add-total.ensures);
  counted = one_counted c.loop-at.total (size_of c.in-Some.item.now) c.size.result _ _ _ _ 18446744073709551615
      (sizes_at c.args.items.now c.loop-at.at c.in-Some.item.now c.in-Some.ensures) c.size.ensures c.saturating_add-total.ensures c.loop-at.invariant.counted;
}

pub measures::sizes-returns : goal.measures::sizes-returns
measures::sizes-returns t c =
    let past : length c.args.items.now ≤ c.loop-at.at = omega (arith, c.len-at-end.ensures) in
    all_counted c.loop-at.total _ _ 18446744073709551615 (sizes_end c.args.items.now c.loop-at.at past) c.loop-at.invariant.fits c.loop-at.invariant.counted
