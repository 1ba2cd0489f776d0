-- What holds at each place of a list, by one equation of lists that compute.
use Rattle.std.proofs.Common.{◌≡◌, ℕ, ◌+◌, ◌≤◌, zero, suc, true, nat_le, List, [], ◌∷◌, Some, All, slice_get, sym, subst, arith, zero-add, add-zero, leb-true}
use Rattle.std.specs.List.{list_all}
use Rattle.std.proofs.lemmas.Bool.{and_parts}
use Rattle.std.proofs.lemmas.List.Elements.{All-nil, All-cons}

abbrev pub each : {X Y : Type 0} → (ℕ → X → Y) → ℕ → List X → List Y
each f k [] = []
each f k (x ∷ xs) = f k x ∷ each f (k + 1) xs

same_from : {X Y : Type 0} (f g : ℕ → X → Y) (k : ℕ) (xs : List X) → each f k xs ≡ each g k xs
    → (i : ℕ) (x : X) → slice_get xs i ≡ Some x → f (k + i) x ≡ g (k + i) x
same_from f g k [] e i x h = absurd (cc)
same_from f g k (y ∷ ys) e zero x h =
    let same : y ≡ x = cc in
    let here : f k y ≡ g k y = cc in
    subst (λ n. f n x ≡ g n x) (sym (add-zero k)) (subst (λ z. f k z ≡ g k z) same here)
same_from f g k (y ∷ ys) e (suc i) x h =
    let rest : each f (k + 1) ys ≡ each g (k + 1) ys = cc in
    let number : k + 1 + i ≡ k + suc i = omega arith in
    subst (λ n. f n x ≡ g n x) number (same_from f g (k + 1) ys rest i x h)

-- two functions that give the same lists give the same at each place
pub same_at : {X Y : Type 0} (f g : ℕ → X → Y) (xs : List X) → each f 0 xs ≡ each g 0 xs
    → (i : ℕ) (x : X) → slice_get xs i ≡ Some x → f i x ≡ g i x
same_at f g xs e i x h = subst (λ n. f n x ≡ g n x) (zero-add i) (same_from f g 0 xs e i x h)

-- numbers that are at most n by a test
pub all_at_most : (n : ℕ) (cs : List ℕ) → list_all (λ d. nat_le d n) cs ≡ true → All (λ d. d ≤ n) cs
all_at_most n [] h = All-nil (λ d. d ≤ n)
all_at_most n (c ∷ cs) h =
    let both = and_parts (nat_le c n) (list_all (λ d. nat_le d n) cs) h in
    All-cons (λ d. d ≤ n) c cs (leb-true c n both.0) (all_at_most n cs both.1)
