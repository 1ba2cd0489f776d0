-- The last ones of a list, and those in front of them.
use Rattle.std.proofs.Common.{◌≡◌, ℕ, zero, suc, ◌+◌, ◌-◌, ◌<◌, ◌≤◌, List, [], ◌∷◌, ◌++◌, Some, None, refl, sym, ap, ◌∙◌, length, take, drop, get_or, min, arith, length-append, length-set}
use Rattle.std.specs.Prelude.{slice_get, slice_set}
use Rattle.std.proofs.lemmas.List.{length-drop, take-append-le, drop-append-le}
use Rattle.std.proofs.lemmas.Option.{slice_get-get_or, slice_get_past}
use Rattle.eval_state.specs.Frames.{last_of, others_of}

pub get_drop : {X : Type 0} (xs : List X) (n i : ℕ) → slice_get (drop n xs) i ≡ slice_get xs (n + i)
get_drop [] zero i = ap (slice_get []) (let e : i ≡ 0 + i = omega arith in e)
get_drop [] (suc n) i = refl
get_drop (x ∷ xs) zero i = ap (slice_get (x ∷ xs)) (let e : i ≡ 0 + i = omega arith in e)
get_drop (x ∷ xs) (suc n) i = get_drop xs n i ∙ ap (slice_get (x ∷ xs)) (let e : suc (n + i) ≡ suc n + i = omega arith in e)

pub slot_there : {X : Type 0} (xs ys : List X) (k first i : ℕ) (d : X) → ys ≡ xs → first ≡ length xs - k → i < length ys - first → Some (get_or ys (first + i) d) ≡ slice_get (last_of k xs) i
slot_there xs ys k first i d same e h =
    let l : length ys ≡ length xs = ap length same in
    ap (λ zs. Some (get_or zs (first + i) d)) same
    ∙ sym (ap (λ n. slice_get (drop n xs) i) (sym e) ∙ get_drop xs first i ∙ slice_get-get_or xs (first + i) d (omega arith))

pub slot_past : {X : Type 0} (xs : List X) (k first i : ℕ) → first ≡ length xs - k → length xs - first ≤ i → None ≡ slice_get (last_of k xs) i
slot_past xs k first i e h =
    let l : length (drop (length xs - k) xs) ≡ length xs - (length xs - k) = length-drop (length xs - k) xs in
    sym (slice_get_past (drop (length xs - k) xs) i (omega arith))

-- an item is set behind some
pub drop_set : {X : Type 0} (xs : List X) (n i : ℕ) (x : X) → drop n (slice_set xs (n + i) x) ≡ slice_set (drop n xs) i x
drop_set [] zero i x = refl
drop_set [] (suc n) i x = refl
drop_set (y ∷ ys) zero i x = ap (λ k. slice_set (y ∷ ys) k x) (let e : 0 + i ≡ i = omega arith in e)
drop_set (y ∷ ys) (suc n) i x =
    ap (λ k. drop (suc n) (slice_set (y ∷ ys) k x)) (let e : suc n + i ≡ suc (n + i) = omega arith in e) ∙ drop_set ys n i x

pub take_set : {X : Type 0} (xs : List X) (n i : ℕ) (x : X) → take n (slice_set xs (n + i) x) ≡ take n xs
take_set [] zero i x = refl
take_set [] (suc n) i x = refl
take_set (y ∷ ys) zero i x = refl
take_set (y ∷ ys) (suc n) i x =
    ap (λ k. take (suc n) (slice_set (y ∷ ys) k x)) (let e : suc n + i ≡ suc (n + i) = omega arith in e) ∙ ap (λ zs. y ∷ zs) (take_set ys n i x)

-- one item more
pub last_more : {X : Type 0} (xs : List X) (k : ℕ) (x : X) → last_of (suc k) (xs ++ x ∷ []) ≡ last_of k xs ++ x ∷ []
last_more xs k x =
    let l : length (xs ++ x ∷ []) ≡ length xs + 1 = length-append xs (x ∷ []) in
    let e : length (xs ++ x ∷ []) - suc k ≡ length xs - k = omega arith in
    ap (λ n. drop n (xs ++ x ∷ [])) e ∙ drop-append-le (length xs - k) xs (x ∷ []) (omega arith)

pub others_more : {X : Type 0} (xs : List X) (k : ℕ) (x : X) → others_of (suc k) (xs ++ x ∷ []) ≡ others_of k xs
others_more xs k x =
    let l : length (xs ++ x ∷ []) ≡ length xs + 1 = length-append xs (x ∷ []) in
    let e : length (xs ++ x ∷ []) - suc k ≡ length xs - k = omega arith in
    ap (λ n. take n (xs ++ x ∷ [])) e ∙ take-append-le (length xs - k) xs (x ∷ []) (omega arith)

-- a slot is set
pub set_others : {X : Type 0} (xs : List X) (k first i : ℕ) (x : X) → first ≡ length xs - k → others_of k (slice_set xs (first + i) x) ≡ others_of k xs
set_others xs k first i x e =
    ap (λ n. take n (slice_set xs (first + i) x)) (ap (λ n. n - k) (length-set xs (first + i) x) ∙ sym e) ∙ take_set xs first i x ∙ ap (λ n. take n xs) e

pub set_last : {X : Type 0} (xs : List X) (k first i : ℕ) (x : X) → first ≡ length xs - k → last_of k (slice_set xs (first + i) x) ≡ slice_set (last_of k xs) i x
set_last xs k first i x e =
    ap (λ n. drop n (slice_set xs (first + i) x)) (ap (λ n. n - k) (length-set xs (first + i) x) ∙ sym e) ∙ drop_set xs first i x ∙ ap (λ n. slice_set (drop n xs) i x) e

-- those in front of the last ones, where there are more behind them
pub others_below : {X : Type 0} (xs more : List X) (k n : ℕ) → n ≡ k + length more → others_of n (xs ++ more) ≡ others_of k xs
others_below xs more k n e =
    let l : length (xs ++ more) ≡ length xs + length more = length-append xs more in
    let d : length (xs ++ more) - n ≡ length xs - k = omega arith in
    ap (λ m. take m (xs ++ more)) d ∙ take-append-le (length xs - k) xs more (omega arith)

-- so many, or all that there are
pub last_held : {X : Type 0} (xs : List X) (n count : ℕ) → count ≡ min n (length xs) → last_of count xs ≡ last_of n xs
last_held xs n count e =
    let d : length xs - count ≡ length xs - n = omega arith in
    ap (λ k. drop k xs) d
