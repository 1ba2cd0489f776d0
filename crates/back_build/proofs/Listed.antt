-- A test of a list, item by item: where it holds of those that are left as of all.
use Rattle.std.proofs.Common.{◌≡◌, ℕ, suc, ◌+◌, ◌≤◌, Bool, true, false, ◌&&◌, List, [], ◌∷◌, Some, length, drop, slice_get, refl, ap, sym, ◌∙◌, add-one}
use Rattle.std.specs.List.{list_all}
use Rattle.base.specs.Data.{Item, items_of}
use Rattle.back_lowering.proofs.Rests.{there, past}
use Rattle.back_build.specs.Named.{is_named, are_named}

module _ {X : Type 0} (all : List X → Bool) (one : X → Bool) (next : (x : X) (xs : List X) → all (x ∷ xs) ≡ (one x && all xs)) where
  at_next : (xs : List X) (i : ℕ) (x : X) (b : Bool) → slice_get xs i ≡ Some x → b ≡ one x → all (drop i xs) ≡ (b && all (drop (i + 1) xs))
  at_next xs i x b here is =
      ap all (there xs i x here) ∙ next x (drop (suc i) xs) ∙ ap (λ (c : Bool). c && all (drop (suc i) xs)) (sym is)
      ∙ sym (ap (λ (k : ℕ). b && all (drop k xs)) (add-one i))

  -- it holds of this one
  pub holds_of : (xs : List X) (i : ℕ) (x : X) (b : Bool) → slice_get xs i ≡ Some x → b ≡ one x → b ≡ true → all (drop i xs) ≡ all xs
      → all (drop (i + 1) xs) ≡ all xs
  holds_of xs i x b here is holds before = sym (at_next xs i x b here is ∙ ap (λ (c : Bool). c && all (drop (i + 1) xs)) holds) ∙ before

  -- it fails of this one, and so of all
  pub fails_of : (xs : List X) (i : ℕ) (x : X) (b : Bool) → slice_get xs i ≡ Some x → b ≡ one x → b ≡ false → all (drop i xs) ≡ all xs
      → false ≡ all xs
  fails_of xs i x b here is fails before = sym (at_next xs i x b here is ∙ ap (λ (c : Bool). c && all (drop (i + 1) xs)) fails) ∙ before

  -- none is left
  pub holds_of_all : (xs : List X) (i : ℕ) → length xs ≤ i → all [] ≡ true → all (drop i xs) ≡ all xs → true ≡ all xs
  holds_of_all xs i end none before = sym none ∙ sym (ap all (past xs i end)) ∙ before

pub next_listed : {X : Type 0} (f : X → Bool) (x : X) (xs : List X) → list_all f (x ∷ xs) ≡ (f x && list_all f xs)
next_listed f x xs = refl

pub next_named : (n : ℕ) (d : Item) (ds : List Item) → are_named n (items_of (d ∷ ds)) ≡ (is_named n d && are_named n (items_of ds))
unfolding is_named
next_named n d ds = refl

pub none_named : (n : ℕ) → are_named n (items_of []) ≡ true
unfolding is_named
none_named n = refl
