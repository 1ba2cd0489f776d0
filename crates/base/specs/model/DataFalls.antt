-- Each part of a datum is smaller than the datum.
use Rattle.std.specs.Prelude.{◌+◌, ◌≤◌, max, List as Seq, [], ◌∷◌, Some, None}
use Rattle.std.proofs.Common.{arith}
use denote.Param.Weighed.{most}
use Rattle.base.specs.declared.place.Place.{Place}
use Rattle.base.specs.Data.{Item, item_size, items_size, items_of}
use Rattle.base.specs.model.DataView.{view_item}
use Rattle.base.specs.declared.datum.Kind.{Kind}
use Rattle.base.specs.declared.datum.Kind.TheVariants.{Int, Char, Sym, Str, Vector, Nil, List}
use Rattle.base.specs.declared.datum.Datum.TheDeep.{deep-Kind}

items_fall : (ds : Seq Item) → most (λ d. item_size d + 1) ds ≤ items_size (items_of ds)
items_fall [] = omega arith
items_fall (d ∷ ds) = omega (arith, items_fall ds)

pub falls : (p : Place) (k : Kind) → max (deep-Kind k) 0 ≤ item_size (view_item p k)
falls p (Int n) = omega arith
falls p (Char c) = omega arith
falls p (Sym s) = omega arith
falls p (Str bytes) = omega arith
falls p (Vector ds) = omega (arith, items_fall ds)
falls p Nil = omega arith
falls p (List ds None) = omega (arith, items_fall ds)
falls p (List ds (Some b)) = omega (arith, items_fall ds)
