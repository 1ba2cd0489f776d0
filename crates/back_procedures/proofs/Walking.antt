-- Words that are loaded one after another, and what is made of a list item by item.
use Rattle.std.proofs.Common.{◌≡◌, ℕ, zero, suc, ◌+◌, ◌-◌, ◌*◌, ◌<◌, List, [], ◌∷◌, ◌++◌, length, drop, Some, slice_get, ap, sym, ◌∙◌, append_assoc, add-one, arith}
use Rattle.base.specs.model.DataRest.{rest_at}
use Rattle.back_lowering.specs.Steps.{Steps, words_loaded, load_far}

pub loaded_step : (total code new : Steps) (count i d base offset : ℕ)
    → i < count
    → code ++ words_loaded (count - i) (d + i) base (offset + 4 * i) ≡ total
    → new ≡ code ++ load_far (d + i) base (d + i) (offset + 4 * i)
    → new ++ words_loaded (count - (i + 1)) (d + (i + 1)) base (offset + 4 * (i + 1)) ≡ total
loaded_step total code new count i d base offset below so is =
    let n : count - i ≡ suc (count - (i + 1)) = omega arith in
    let r : d + (i + 1) ≡ (d + i) + 1 = omega arith in
    let o : offset + 4 * (i + 1) ≡ (offset + 4 * i) + 4 = omega arith in
    ap (λ (c : Steps). c ++ words_loaded (count - (i + 1)) (d + (i + 1)) base (offset + 4 * (i + 1))) is
    ∙ append_assoc code (load_far (d + i) base (d + i) (offset + 4 * i)) (words_loaded (count - (i + 1)) (d + (i + 1)) base (offset + 4 * (i + 1)))
    ∙ ap (λ (k : ℕ). code ++ (load_far (d + i) base (d + i) (offset + 4 * i) ++ words_loaded (count - (i + 1)) k base (offset + 4 * (i + 1)))) r
    ∙ ap (λ (k : ℕ). code ++ (load_far (d + i) base (d + i) (offset + 4 * i) ++ words_loaded (count - (i + 1)) ((d + i) + 1) base k)) o
    ∙ sym (ap (λ (k : ℕ). code ++ words_loaded k (d + i) base (offset + 4 * i)) n)
    ∙ so

-- one item more of what is made of a list, item by item with their numbers
pub walked_step : {X Y : Type 0} (F : ℕ → List X → List Y) (e : ℕ → X → Y) → ((p : ℕ) (x : X) (xs : List X) → F p (x ∷ xs) ≡ e p x ∷ F (p + 1) xs)
    → (total old new : List Y) (xs : List X) (first i : ℕ) (x : X) → slice_get xs i ≡ Some x
    → old ++ F (first + i) (drop i xs) ≡ total → new ≡ old ++ (e (first + i) x ∷ [])
    → new ++ F (first + (i + 1)) (drop (i + 1) xs) ≡ total
walked_step {X} {Y} F e each total old new xs first i x h so is =
    let n : first + (i + 1) ≡ (first + i) + 1 = omega arith in
    ap (λ (ys : List Y). ys ++ F (first + (i + 1)) (drop (i + 1) xs)) is
    ∙ append_assoc old (e (first + i) x ∷ []) (F (first + (i + 1)) (drop (i + 1) xs))
    ∙ ap (λ (k : ℕ). old ++ (e (first + i) x ∷ F k (drop (i + 1) xs))) n
    ∙ sym (ap (λ (ys : List Y). old ++ ys) (each (first + i) x (drop (i + 1) xs)))
    ∙ sym (ap (λ (ys : List X). old ++ F (first + i) ys) (rest_at xs i x h))
    ∙ so

-- the same where what is made asks for the number of an item alone
module _ {X Y : Type 0} (F : ℕ → List X → List Y) (e : ℕ → Y) (each : (p : ℕ) (x : X) (xs : List X) → F p (x ∷ xs) ≡ e p ∷ F (p + 1) xs) where
  numbered_rest : (p : ℕ) (xs : List X) (i : ℕ) → i < length xs → F p (drop i xs) ≡ e p ∷ F (p + 1) (drop (suc i) xs)
  numbered_rest p [] i h = absurd (omega (arith, h))
  numbered_rest p (x ∷ xs) zero h = each p x xs
  numbered_rest p (x ∷ xs) (suc i) h = numbered_rest p xs i (omega (arith, h))

  pub numbered_step : (total old new : List Y) (xs : List X) (first i : ℕ) → i < length xs
      → old ++ F (first + i) (drop i xs) ≡ total → new ≡ old ++ (e (first + i) ∷ [])
      → new ++ F (first + (i + 1)) (drop (i + 1) xs) ≡ total
  numbered_step total old new xs first i h so is =
      let n : first + (i + 1) ≡ (first + i) + 1 = omega arith in
      ap (λ (ys : List Y). ys ++ F (first + (i + 1)) (drop (i + 1) xs)) is
      ∙ append_assoc old (e (first + i) ∷ []) (F (first + (i + 1)) (drop (i + 1) xs))
      ∙ ap (λ (k : ℕ). old ++ (e (first + i) ∷ F k (drop (i + 1) xs))) n
      ∙ ap (λ (k : ℕ). old ++ (e (first + i) ∷ F ((first + i) + 1) (drop k xs))) (add-one i)
      ∙ sym (ap (λ (ys : List Y). old ++ ys) (numbered_rest (first + i) xs i h))
      ∙ so
