-- A loop measures a datum at each turn, and at its end nothing is left.
use Rattle.std.proofs.Common.{◌≡◌, ℕ, ◌+◌, ◌≤◌, max, min, List, Some, length, drop, slice_get, refl, ap, arith}
use Rattle.std.proofs.lemmas.List.{drop_all}
use Rattle.base.specs.Data.{Item, items_of}
use Rattle.base.specs.model.DataRest.{items_at}
use Rattle.base.specs.DataMeasures.{depth_of, depths_of}
use Rattle.base.proofs.datum.+depth.Goals as goal

depths_at : (ds : List Item) (i : ℕ) (d : Item) → slice_get ds i ≡ Some d
    → depths_of (items_of (drop i ds)) ≡ max (depth_of d) (depths_of (items_of (drop (i + 1) ds)))
unfolding depths_of
depths_at ds i d h = ap depths_of (items_at ds i d h)

depths_end : (ds : List Item) (i : ℕ) → length ds ≤ i → depths_of (items_of (drop i ds)) ≡ 0
unfolding depths_of
depths_end ds i h = rw (drop_all i ds h) refl

one_measured : (deepest depth item rest left whole next m : ℕ) → left ≡ max depth rest → item ≡ min depth m → next ≡ max deepest item
    → min (max deepest left) m ≡ whole → min (max next rest) m ≡ whole
one_measured deepest depth item rest left whole next m a b e f = omega arith

all_measured : (deepest left whole m : ℕ) → left ≡ 0 → deepest ≤ m → min (max deepest left) m ≡ whole → deepest ≡ whole
all_measured deepest left whole m a b e = omega arith

pub measures::depths-loop-at-preserved : goal.measures::depths-loop-at-preserved
measures::depths-loop-at-preserved t c = record {
  fits = omega (arith, c.max-deepest.ensures, c.depth.ensures);
  counted = one_measured c.loop-at.deepest (depth_of c.in-Some.item.now) c.depth.result _ _ _ _ 4294967295
      (depths_at c.args.items.now c.loop-at.at c.in-Some.item.now c.in-Some.ensures) c.depth.ensures c.max-deepest.ensures c.loop-at.invariant.counted;
}

pub measures::depths-returns : goal.measures::depths-returns
measures::depths-returns t c =
    let past : length c.args.items.now ≤ c.loop-at.at = omega (arith, c.len-at-end.ensures) in
    all_measured c.loop-at.deepest _ _ 4294967295 (depths_end c.args.items.now c.loop-at.at past) c.loop-at.invariant.fits c.loop-at.invariant.counted
