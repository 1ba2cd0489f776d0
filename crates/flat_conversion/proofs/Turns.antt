-- Loops that make one item of each item, or go through a list from its end.
use Rattle.std.proofs.Common.{◌≡◌, ℕ, zero, suc, ◌+◌, ◌-◌, List, [], ◌∷◌, ◌++◌, sym, ap, ◌∙◌, Some, take, drop, arith}
use Rattle.std.specs.Prelude.{slice_get, option_map, ◌<◌}
use Rattle.base.specs.model.DataRest.{take_at, rest_at}

-- what is made of a list item by item
module _ {X Y : Type 0} (made_of : List X → List Y) (one : X → Y) (none : made_of [] ≡ []) (first : (x : X) (xs : List X) → made_of (x ∷ xs) ≡ one x ∷ made_of xs) where
  of_more : (xs : List X) (x : X) → made_of (xs ++ x ∷ []) ≡ made_of xs ++ one x ∷ []
  of_more [] x = first x [] ∙ ap (λ ys. one x ∷ ys) none ∙ ap (λ ys. ys ++ one x ∷ []) (sym none)
  of_more (y ∷ ys) x = first y (ys ++ x ∷ []) ∙ ap (λ zs. one y ∷ zs) (of_more ys x) ∙ ap (λ zs. zs ++ one x ∷ []) (sym (first y ys))

  -- a turn
  pub turn : (made : List Y) (xs : List X) (i : ℕ) (x : X) → slice_get xs i ≡ Some x → made ≡ made_of (take i xs) → made ++ one x ∷ [] ≡ made_of (take (i + 1) xs)
  turn made xs i x h e = ap (λ ys. ys ++ one x ∷ []) e ∙ sym (of_more (take i xs) x) ∙ ap made_of (sym (take_at xs i x h))

  -- those of the first items
  pub first_of : (i : ℕ) (xs : List X) → made_of (take i xs) ≡ take i (made_of xs)
  first_of zero xs = none
  first_of (suc i) [] = none ∙ ap (take (suc i)) (sym none)
  first_of (suc i) (x ∷ xs) = first x (take i xs) ∙ ap (λ ys. one x ∷ ys) (first_of i xs) ∙ ap (take (suc i)) (sym (first x xs))

  -- the items themselves
  pub item : (xs : List X) (i : ℕ) → slice_get (made_of xs) i ≡ option_map one (slice_get xs i)
  item [] i = ap (λ ys. slice_get ys i) none
  item (x ∷ xs) zero = ap (λ ys. slice_get ys 0) (first x xs)
  item (x ∷ xs) (suc i) = ap (λ ys. slice_get ys (suc i)) (first x xs) ∙ item xs i

-- an item, and those behind it, where a loop goes to the front
pub rest_before : {X : Type 0} (xs : List X) (at : ℕ) (x : X) → 0 < at → slice_get xs (at - 1) ≡ Some x → drop (at - 1) xs ≡ x ∷ drop at xs
rest_before xs at x low h =
    rest_at xs (at - 1) x h ∙ (let i : (at - 1) + 1 ≡ at = omega arith in ap (λ k. x ∷ drop k xs) i)
