-- What does not fit, of a part and of the whole.
use Rattle.std.proofs.Common.{◌≡◌, ℕ, zero, suc, ◌+◌, ◌*◌, ◌^◌, ◌≤◌, inl, inr, ⊎_elim, List, [], ◌∷◌, ◌++◌, length, map, Some, sym, subst, append-nil, length-append, arith}
use Rattle.std.specs.Prelude.{slice_get, flat_map}
use Rattle.back_laying.specs.TooLarge.{SomeOf, IsLarge, DoNotFit}

pub some_front : {X : Type 0} (P : X → Type 0) (xs ys : List X) → SomeOf P xs → SomeOf P (xs ++ ys)
some_front P [] ys h = absurd h
some_front P (x ∷ xs) ys h = ⊎_elim (λ here. inl here) (λ later. inr (some_front P xs ys later)) h

pub some_behind : {X : Type 0} (P : X → Type 0) (xs ys : List X) → SomeOf P ys → SomeOf P (xs ++ ys)
some_behind P [] ys h = h
some_behind P (x ∷ xs) ys h = inr (some_behind P xs ys h)

-- one of the items that a list is mapped to
pub some_mapped : {X Y : Type 0} (P : Y → Type 0) (f : X → Y) (xs : List X) (i : ℕ) (x : X) → slice_get xs i ≡ Some x → P (f x) → SomeOf P (map f xs)
some_mapped P f [] i x e h = absurd (cc e)
some_mapped P f (y ∷ ys) zero x e h = let is : y ≡ x = cc e in inl (subst (λ z. P (f z)) (sym is) h)
some_mapped P f (y ∷ ys) (suc i) x e h = inr (some_mapped P f ys i x e h)

pub some_flat : {X Y : Type 0} (P : Y → Type 0) (f : X → List Y) (xs : List X) (i : ℕ) (x : X) → slice_get xs i ≡ Some x → SomeOf P (f x) → SomeOf P (flat_map f xs)
some_flat P f [] i x e h = absurd (cc e)
some_flat P f (y ∷ ys) zero x e h =
    let is : y ≡ x = cc e in
    some_front P (f y) (flat_map f ys) (subst (λ z. SomeOf P (f z)) (sym is) h)
some_flat P f (y ∷ ys) (suc i) x e h = some_behind P (f y) (flat_map f ys) (some_flat P f ys i x e h)

-- a part that does not fit where it stands
pub part_too_large : (address here : ℕ) (before part after : List ℕ) → here ≡ address + 4 * length before → DoNotFit here part
    → DoNotFit address (before ++ (part ++ after))
part_too_large address here before part after e h =
    ⊎_elim
    (λ (end : 2 ^ 32 ≤ here + 4 * length part).
    let more : 2 ^ 32 ≤ address + 4 * length (before ++ (part ++ after)) = omega (arith, end, e, length-append before (part ++ after), length-append part after) in inl more)
    (λ some. inr (some_behind IsLarge before (part ++ after) (some_front IsLarge part after some)))
    h

pub last_too_large : (address here : ℕ) (before part : List ℕ) → here ≡ address + 4 * length before → DoNotFit here part → DoNotFit address (before ++ part)
last_too_large address here before part e h = subst (λ l. DoNotFit address (before ++ l)) (append-nil part) (part_too_large address here before part [] e h)
