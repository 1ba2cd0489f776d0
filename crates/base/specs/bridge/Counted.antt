-- A loop that counts a list from a place on, up to a limit: what is counted so far, and what is left to count.
use Rattle.std.proofs.Common.{◌≡◌, ℕ, ◌+◌, ◌≤◌, min, List, [], ◌∷◌, Some, length, drop, slice_get, refl, ap, arith, ◌∙◌}
use Rattle.std.specs.List.{sum_by}
use Rattle.std.proofs.lemmas.List.{drop_all}
use Rattle.std.proofs.lemmas.List.Sums.{sum_by-cons}
use Rattle.base.specs.model.DataRest.{rest_at}

-- the item, and then what is left after it
pub sum_left : {X : Type 0} (f : X → ℕ) (xs : List X) (i : ℕ) (x : X) → slice_get xs i ≡ Some x
    → sum_by f (drop i xs) ≡ f x + sum_by f (drop (i + 1) xs)
sum_left f xs i x h = ap (sum_by f) (rest_at xs i x h) ∙ sum_by-cons f x (drop (i + 1) xs)

pub no_sum_left : {X : Type 0} (f : X → ℕ) (xs : List X) (i : ℕ) → length xs ≤ i → sum_by f (drop i xs) ≡ 0
no_sum_left f xs i h = rw (drop_all i xs h) refl

pub one_counted : (counted size item rest left whole next m : ℕ) → left ≡ size + rest → item ≡ min size m → next ≡ min (counted + item) m
    → min (counted + left) m ≡ whole → min (next + rest) m ≡ whole
one_counted counted size item rest left whole next m a b e f = omega arith

pub all_counted : (counted left whole m : ℕ) → left ≡ 0 → counted ≤ m → min (counted + left) m ≡ whole → counted ≡ whole
all_counted counted left whole m a b e = omega arith

-- what is counted of a list in 64 bits, from a place on up to an item
pub record IsCounted {X : Type 0} (f : X → ℕ) (xs : List X) (from i so_far : ℕ) : Type 0 where
  pub fits : so_far ≤ 18446744073709551615
  pub counted : min (so_far + sum_by f (drop i xs)) 18446744073709551615 ≡ min (sum_by f (drop from xs)) 18446744073709551615

pub none_counted : {X : Type 0} (f : X → ℕ) (xs : List X) (from : ℕ) → IsCounted f xs from from 0
none_counted f xs from = record { fits = omega arith; counted = omega arith }

pub one_more : {X : Type 0} (f : X → ℕ) (xs : List X) (from i : ℕ) (x : X) (so_far item next : ℕ) → slice_get xs i ≡ Some x
    → item ≡ min (f x) 18446744073709551615 → next ≡ min (so_far + item) 18446744073709551615
    → IsCounted f xs from i so_far → IsCounted f xs from (i + 1) next
one_more f xs from i x so_far item next h e n c = record {
  fits = omega (arith, n);
  counted = one_counted so_far (f x) item _ _ _ next 18446744073709551615 (sum_left f xs i x h) e n c.counted;
}

pub all_there : {X : Type 0} (f : X → ℕ) (xs : List X) (from i so_far : ℕ) → length xs ≤ i → IsCounted f xs from i so_far
    → so_far ≡ min (sum_by f (drop from xs)) 18446744073709551615
all_there f xs from i so_far h c = all_counted so_far _ _ 18446744073709551615 (no_sum_left f xs i h) c.fits c.counted

-- two measures that agree on each item
pub sum_alike : {X : Type 0} (f g : X → ℕ) → ((x : X) → f x ≡ g x) → (xs : List X) → sum_by f xs ≡ sum_by g xs
sum_alike f g same [] = refl
sum_alike f g same (x ∷ xs) = omega (arith, sum_by-cons f x xs, sum_by-cons g x xs, same x, sum_alike f g same xs)
