-- Where the procedures of the functions in a form stand is where those of its parts do.
use Rattle.std.proofs.Common.{◌≡◌, ℕ, suc, ◌+◌, List, ◌∷◌, ◌++◌, refl, subst, ◌∙◌, Some, length, arith}
use Rattle.std.specs.Prelude.{slice_get}
use Rattle.flat_language.proofs.Lists.{in_front, behind}

-- items, such as procedures, that stand from a number on
pub record Placed {X : Type 0} (all : List X) (n : ℕ) (these : List X) : Type 0 where
  pub at : (j : ℕ) (q : X) → slice_get these j ≡ Some q → slice_get all (n + j) ≡ Some q

pub placed_left : {X : Type 0} {all : List X} {n : ℕ} (xs ys : List X) → Placed all n (xs ++ ys) → Placed all n xs
placed_left xs ys p = record { at = λ j q h. p.at j q (in_front xs ys j q h) }

pub placed_right : {X : Type 0} {all : List X} {n : ℕ} (xs ys : List X) (k : ℕ) → length xs ≡ k → Placed all n (xs ++ ys) → Placed all (n + k) ys
placed_right {X} {all} {n} xs ys k e p = record {
  at = λ j q h.
      let i : n + (length xs + j) ≡ (n + length xs) + j = omega arith in
      subst (λ m. slice_get all ((n + m) + j) ≡ Some q) e
      (subst (λ m. slice_get all m ≡ Some q) i (p.at (length xs + j) q (behind xs ys j ∙ h)));
}

pub placed_first : {X : Type 0} {all : List X} {n : ℕ} (x : X) (xs : List X) → Placed all n (x ∷ xs) → slice_get all n ≡ Some x
placed_first {X} {all} {n} x xs p = let i : n + 0 ≡ n = omega arith in subst (λ m. slice_get all m ≡ Some x) i (p.at 0 x refl)

pub placed_rest : {X : Type 0} {all : List X} {n : ℕ} (x : X) (xs : List X) → Placed all n (x ∷ xs) → Placed all (n + 1) xs
placed_rest {X} {all} {n} x xs p = record {
  at = λ j q h. let i : n + suc j ≡ (n + 1) + j = omega arith in subst (λ m. slice_get all m ≡ Some q) i (p.at (suc j) q h);
}
