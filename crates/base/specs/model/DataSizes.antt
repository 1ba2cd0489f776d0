-- What stands in a list of data is smaller than the list: a recursion over data ends.
use Rattle.std.specs.Prelude.{◌≡◌, ℕ, zero, suc, ◌<◌, List, [], ◌∷◌, Some, slice_get, slice_index_or, length}
use Rattle.std.proofs.Common.{arith}
use Rattle.base.specs.Data.{Item, item_size, items_size, items_of}

-- a size is never nothing
items_size_above : (ds : List Item) → 0 < items_size (items_of ds)
items_size_above [] = omega arith
items_size_above (d ∷ ds) = omega arith

-- a datum of a list is smaller than the list
pub item_in_smaller : (ds : List Item) (i : ℕ) (d : Item) → slice_get ds i ≡ Some d
    → item_size d < items_size (items_of ds)
item_in_smaller [] i d h = absurd (cc)
item_in_smaller (e ∷ es) zero d h =
    let same : item_size e ≡ item_size d = cc in
    omega (arith, items_size_above es)
item_in_smaller (e ∷ es) (suc i) d h = omega (arith, item_in_smaller es i d h)

-- so is what a loop over the list looks at
pub item_turn : (ds : List Item) (i : ℕ) (d : Item) → i < length ds → d ≡ slice_index_or ds i d → item_size d < items_size (items_of ds)
item_turn [] i d h e = absurd (omega (arith, h))
item_turn (x ∷ xs) zero d h e =
    let same : item_size d ≡ item_size x = cc e in
    omega (arith, items_size_above xs, same)
item_turn (x ∷ xs) (suc i) d h e = omega (arith, item_turn xs i d (omega (arith, h)) e)
