-- What is made of each item, one more.
use Rattle.std.proofs.Common.{◌≡◌, ℕ, zero, suc, ◌+◌, List, [], ◌∷◌, ◌++◌, length, take, Some, refl, sym, ap, ◌∙◌, arith, append_assoc, append-nil}
use Rattle.std.specs.Prelude.{slice_get, slice_index}
use Rattle.back_program_code.specs.Joined.{joined}

joined_next :
    {X Y : Type 0} (make : ℕ → X → List Y) (from i n j : ℕ) (x : X) (xs : List X) → n ≡ i + 1 → j ≡ from + i → slice_get xs i ≡ Some x
    → joined make from (take n xs) ≡ joined make from (take i xs) ++ make j x
joined_next make from i n j x [] e g h = absurd (cc h)
joined_next make from i zero j x (y ∷ ys) e g h = absurd (omega (arith, e))
joined_next make from zero (suc n) j x (y ∷ ys) e g h =
    let none : n ≡ 0 = omega (arith, e) in
    let there : from ≡ j = omega (arith, g) in
    let same : y ≡ x = cc h in
    ap (λ k. make from y ++ joined make (from + 1) (take k ys)) none ∙ append-nil (make from y) ∙ ap (λ k. make k y) there ∙ ap (make j) same
joined_next make from (suc i) (suc n) j x (y ∷ ys) e g h =
    ap (λ rest. make from y ++ rest) (joined_next make (from + 1) i n j x ys (omega (arith, e)) (omega (arith, g)) h)
    ∙ sym (append_assoc (make from y) (joined make (from + 1) (take i ys)) (make j x))

-- where what is made of the next item is appended
pub joined_more :
    {X Y : Type 0} (make : ℕ → X → List Y) (i : ℕ) (x : X) (xs : List X) (old made made' : List Y) → made' ≡ made ++ make i x
    → made ≡ old ++ joined make 0 (take i xs) → slice_get xs i ≡ Some x → made' ≡ old ++ joined make 0 (take (i + 1) xs)
joined_more make i x xs old made made' e h k =
    e ∙ ap (λ c. c ++ make i x) h ∙ append_assoc old (joined make 0 (take i xs)) (make i x)
    ∙ ap (λ c. old ++ c) (sym (joined_next make 0 i (i + 1) i x xs refl (omega arith) k))

-- the same of a list that begins empty
pub joined_one :
    {X Y : Type 0} (make : ℕ → X → List Y) (i : ℕ) (x : X) (xs : List X) (made made' : List Y) → made' ≡ made ++ make i x
    → made ≡ joined make 0 (take i xs) → slice_get xs i ≡ Some x → made' ≡ joined make 0 (take (i + 1) xs)
joined_one make i x xs made made' e h k = joined_more make i x xs [] made made' e h k

-- the same is made of each item
pub joined_same :
    {X Y : Type 0} (make other : ℕ → X → List Y) (from : ℕ) (xs : List X)
    → ((i j : ℕ) (x : X) → j ≡ from + i → slice_get xs i ≡ Some x → make j x ≡ other j x) → joined make from xs ≡ joined other from xs
joined_same make other from [] h = refl
joined_same make other from (x ∷ xs) h =
    ap (λ c. c ++ joined make (from + 1) xs) (h 0 from x (omega arith) refl)
    ∙ ap (λ c. other from x ++ c) (joined_same make other (from + 1) xs (λ i j y e g. h (suc i) j y (omega (arith, e)) g))

-- one of what was made of each item
pub joined_get :
    {X Y : Type 0} (make : ℕ → X → Y) (from i j : ℕ) (x : X) (xs : List X) → j ≡ from + i → slice_get xs i ≡ Some x
    → slice_get (joined (λ n y. make n y ∷ []) from xs) i ≡ Some (make j x)
joined_get make from i j x [] e h = absurd (cc h)
joined_get make from zero j x (y ∷ ys) e h =
    let there : from ≡ j = omega (arith, e) in
    let same : y ≡ x = cc h in
    ap (λ n. Some (make n y)) there ∙ ap (λ z. Some (make j z)) same
joined_get make from (suc i) j x (y ∷ ys) e h = joined_get make (from + 1) i j x ys (omega (arith, e)) h

pub joined_index :
    (X : Type 0) (make : ℕ → X → ℕ) (from i j : ℕ) (x : X) (xs : List X) → j ≡ from + i → slice_get xs i ≡ Some x
    → slice_index (joined (λ n y. make n y ∷ []) from xs) i ≡ make j x
joined_index X make from i j x [] e h = absurd (cc h)
joined_index X make from zero j x (y ∷ ys) e h =
    let there : from ≡ j = omega (arith, e) in
    let same : y ≡ x = cc h in
    ap (λ n. make n y) there ∙ ap (λ z. make j z) same
joined_index X make from (suc i) j x (y ∷ ys) e h = joined_index X make (from + 1) i j x ys (omega (arith, e)) h

pub joined_length : {X Y : Type 0} (make : ℕ → X → Y) (from : ℕ) (xs : List X) → length (joined (λ n y. make n y ∷ []) from xs) ≡ length xs
joined_length make from [] = refl
joined_length make from (x ∷ xs) = ap suc (joined_length make (from + 1) xs)

-- the first of what was made of each item
pub joined_taken :
    {X Y : Type 0} (make : ℕ → X → Y) (from n : ℕ) (xs : List X) → take n (joined (λ i x. make i x ∷ []) from xs) ≡ joined (λ i x. make i x ∷ []) from (take n xs)
joined_taken make from zero xs = refl
joined_taken make from (suc n) [] = refl
joined_taken make from (suc n) (x ∷ xs) = ap (λ c. make from x ∷ c) (joined_taken make (from + 1) n xs)
