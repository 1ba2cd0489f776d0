-- What is left of a list from an item on, and what is passed: the turns of a loop over the list, of data or of anything else.
use Rattle.std.specs.Prelude.{◌≡◌, ℕ, zero, suc, ◌+◌, List, [], ◌∷◌, Some, slice_get, take, drop, ◌++◌}
use Rattle.std.proofs.Common.{◌∙◌, ap, add-one}
use Rattle.base.specs.Data.{Item, item_and, items_of}

-- the item, and then what is left after it
pub rest_at : {X : Type 0} (xs : List X) (i : ℕ) (x : X) → slice_get xs i ≡ Some x
    → drop i xs ≡ x ∷ drop (i + 1) xs
rest_at [] i x h = absurd (cc)
rest_at (y ∷ ys) zero x h = let e : y ≡ x = cc in ap (λ z. z ∷ ys) e
rest_at (y ∷ ys) (suc i) x h =
    rw (add-one (suc i)) (rest_at ys i x h ∙ ap (λ n. x ∷ drop n ys) (add-one i))

-- what is passed, with the item
pub take_at : {X : Type 0} (xs : List X) (i : ℕ) (x : X) → slice_get xs i ≡ Some x
    → take (i + 1) xs ≡ take i xs ++ x ∷ []
take_at [] i x h = absurd (cc)
take_at (y ∷ ys) zero x h = let e : y ≡ x = cc in ap (λ z. z ∷ []) e
take_at (y ∷ ys) (suc i) x h = rw (add-one (suc i)) (ap (λ zs. y ∷ zs) (rw (add-one i) at (take_at ys i x h)))

pub items_at : (ds : List Item) (i : ℕ) (d : Item) → slice_get ds i ≡ Some d
    → items_of (drop i ds) ≡ item_and d (items_of (drop (i + 1) ds))
items_at ds i d h = ap items_of (rest_at ds i d h)
