-- The first of the last ones of a list stay.
use Rattle.std.proofs.Common.{◌≡◌, ℕ, zero, suc, ◌+◌, ◌-◌, ◌<◌, ◌≤◌, List, [], ◌∷◌, refl, ap, sym, ◌∙◌, length, take, drop, min, arith}
use Rattle.std.proofs.lemmas.List.{length-take, length-drop, drop-take, take_all}
use Rattle.eval_state.specs.Frames.{last_of, others_of}

-- as many are left as stay and as there are in front
left : {X : Type 0} (xs : List X) (k first count : ℕ) → first ≡ length xs - k → count < length xs - first → length (take (first + count) xs) - count ≡ first
left xs k first count e h =
    let l : length (take (first + count) xs) ≡ min (first + count) (length xs) = length-take (first + count) xs in
    omega arith

pub keep_last : {X : Type 0} (xs : List X) (k first count : ℕ) → first ≡ length xs - k → count < length xs - first → last_of count (take (first + count) xs) ≡ take count (last_of k xs)
keep_last xs k first count e h =
    ap (λ n. drop n (take (first + count) xs)) (left xs k first count e h) ∙ drop-take first count xs ∙ ap (λ n. take count (drop n xs)) e

-- fewer of those in front
take_fewer : {X : Type 0} (n m : ℕ) (xs : List X) → take n (take (n + m) xs) ≡ take n xs
take_fewer zero m [] = refl
take_fewer zero m (x ∷ xs) = refl
take_fewer (suc n) m [] = let e : suc n + m ≡ suc (n + m) = omega arith in ap (λ k. take (suc n) (take k [])) e
take_fewer (suc n) m (x ∷ xs) = let e : suc n + m ≡ suc (n + m) = omega arith in ap (λ k. take (suc n) (take k (x ∷ xs))) e ∙ ap (λ ys. x ∷ ys) (take_fewer n m xs)

pub keep_others : {X : Type 0} (xs : List X) (k first count : ℕ) → first ≡ length xs - k → count < length xs - first → others_of count (take (first + count) xs) ≡ others_of k xs
keep_others xs k first count e h =
    ap (λ n. take n (take (first + count) xs)) (left xs k first count e h) ∙ take_fewer first count xs ∙ ap (λ n. take n xs) e

-- all of them stay
pub keep_all : {X : Type 0} (xs : List X) (k first count : ℕ) → first ≡ length xs - k → length xs - first ≤ count → last_of k xs ≡ take count (last_of k xs)
keep_all xs k first count e h =
    let l : length (drop (length xs - k) xs) ≡ length xs - (length xs - k) = length-drop (length xs - k) xs in
    sym (take_all count (last_of k xs) (omega arith))
