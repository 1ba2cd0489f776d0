-- Code of a list, item by item.
use Rattle.std.proofs.Common.{◌≡◌, ℕ, ◌+◌, ◌≤◌, List, [], ◌∷◌, ◌++◌, Some, length, drop, slice_get, ap, sym, ◌∙◌, append_assoc, add-one, arith}
use Rattle.std.proofs.lemmas.List.{append-nil}
use Rattle.back_lowering.specs.Steps.{Steps}
use Rattle.back_lowering.proofs.Rests.{there, past}

-- where the code of a list from a register on is that of its first item and that of the rest, from the next register on
module _ {X : Type 0} (rest : ℕ → List X → Steps) (one : ℕ → X → Steps) (next : (d : ℕ) (x : X) (xs : List X) → rest d (x ∷ xs) ≡ one d x ++ rest (d + 1) xs) where
  pub walk_step : (total code new : Steps) (xs : List X) (d i : ℕ) (x : X)
      → slice_get xs i ≡ Some x
      → code ++ rest (d + i) (drop i xs) ≡ total
      → new ≡ code ++ one (d + i) x
      → new ++ rest (d + (i + 1)) (drop (i + 1) xs) ≡ total
  walk_step total code new xs d i x here so is =
      let r : d + (i + 1) ≡ (d + i) + 1 = omega arith in
      let n : drop i xs ≡ x ∷ drop (i + 1) xs = there xs i x here ∙ sym (ap (λ (k : ℕ). x ∷ drop k xs) (add-one i)) in
      ap (λ (c : Steps). c ++ rest (d + (i + 1)) (drop (i + 1) xs)) is
      ∙ append_assoc code (one (d + i) x) (rest (d + (i + 1)) (drop (i + 1) xs))
      ∙ ap (λ (k : ℕ). code ++ (one (d + i) x ++ rest k (drop (i + 1) xs))) r
      ∙ sym (ap (λ (c : Steps). code ++ c) (next (d + i) x (drop (i + 1) xs)))
      ∙ sym (ap (λ (ys : List X). code ++ rest (d + i) ys) n)
      ∙ so

  pub walk_end : (total code : Steps) (xs : List X) (d i : ℕ) → length xs ≤ i → rest d [] ≡ []
      → code ++ rest d (drop i xs) ≡ total → code ≡ total
  walk_end total code xs d i h none so =
      sym (append-nil code)
      ∙ sym (ap (λ (c : Steps). code ++ c) none)
      ∙ sym (ap (λ (ys : List X). code ++ rest d ys) (past xs i h))
      ∙ so
