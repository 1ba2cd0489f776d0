-- What functions captured, by the numbers of their objects.
use Rattle.std.proofs.Common.{◌≡◌, ℕ, zero, suc, ◌+◌, ◌<◌, ◌==◌, Bool, true, false, List, [], ◌∷◌, ◌++◌, length, map, Option, Some, None, refl, sym, ◌∙◌, ap, append_assoc, append-nil, arith, ⊎_elim}
use Rattle.std.proofs.lemmas.List.{map-append, map-set}
use Rattle.std.proofs.lemmas.Bool.{ne_eqb}
use Rattle.std.proofs.lemmas.Bool.Decides.{eqb_tells}
use Rattle.std.specs.Prelude.{if◌then◌else◌, slice_get, slice_set}
use Rattle.flat_language.specs.FlatState.{under}
use Rattle.flat_language.specs.FlatState as flat
use Rattle.eval_store.specs.declared.object.Object.{Object}
use Rattle.eval_store.specs.Words.{captured_by, under_its_number, captured_from}
use Rattle.eval_store.specs.View.{captured_in}

itself : (n : ℕ) → (n == n) ≡ true
itself n = ⊎_elim (λ p. p.0) (λ p. absurd (p.1 refl)) (eqb_tells n n)

-- a look-up in two lists, of which one has nothing under the number
pub under_front : {X : Type 0} (i : ℕ) (xs ys : List (ℕ × X)) → under i ys ≡ None → under i (xs ++ ys) ≡ under i xs
under_front i [] ys h = h
under_front i (x ∷ xs) ys h =
    let r : under i (xs ++ ys) ≡ under i xs = under_front i xs ys h in
    elim (i == x.0) as (λ b. (if b then Some x.1 else under i (xs ++ ys)) ≡ (if b then Some x.1 else under i xs)) [
      | true ↦ refl
      | false ↦ r
    ]

pub under_behind : {X : Type 0} (i : ℕ) (xs ys : List (ℕ × X)) → under i xs ≡ None → under i (xs ++ ys) ≡ under i ys
under_behind i [] ys h = refl
under_behind {X} i (x ∷ xs) ys h = by (i == x.0) h (under_behind i xs ys)
  where
    by : (b : Bool) → (if b then Some x.1 else under i xs) ≡ None → (under i xs ≡ None → under i (xs ++ ys) ≡ under i ys)
        → (if b then Some x.1 else under i (xs ++ ys)) ≡ under i ys
    by true h r = absurd (cc)
    by false h r = r h

-- under its own number, and under another
pub under_own : (n : ℕ) (o : Option (List flat.Captured)) → under n (under_its_number n o) ≡ o
under_own n None = refl
under_own n (Some cs) = rw (itself n) refl

pub under_other : (i n : ℕ) (o : Option (List flat.Captured)) → (i == n) ≡ false → under i (under_its_number n o) ≡ None
under_other i n None h = refl
under_other i n (Some cs) h = rw h refl

-- nothing stands under a number that is below that of the first object
pub under_before : (names : List (List ℕ)) (i n : ℕ) (os : List Object) → i < n
    → under i (captured_from names n os) ≡ None
under_before names i n [] h = refl
under_before names i n (o ∷ os) h =
    under_front i (captured_from names (suc n) os) (under_its_number n (captured_by names o)) (under_other i n (captured_by names o) (ne_eqb i n (λ e. omega arith)))
    ∙ under_before names i (suc n) os (omega arith)

-- looking up an object's number is looking at the object
pub under_at : (names : List (List ℕ)) (n k : ℕ) (os : List Object)
    → under (n + k) (captured_from names n os) ≡ captured_in names (slice_get os k)
under_at names n k [] = refl
under_at names n zero (o ∷ os) =
    let same : n + 0 ≡ n = omega arith in
    rw same
    (under_behind n (captured_from names (suc n) os) (under_its_number n (captured_by names o)) (under_before names n (suc n) os (omega arith))
    ∙ under_own n (captured_by names o))
under_at names n (suc k) (o ∷ os) =
    let same : n + suc k ≡ suc n + k = omega arith in
    under_front (n + suc k) (captured_from names (suc n) os) (under_its_number n (captured_by names o)) (under_other (n + suc k) n (captured_by names o) (ne_eqb (n + suc k) n (λ e. omega arith)))
    ∙ ap (λ i. under i (captured_from names (suc n) os)) same
    ∙ under_at names (suc n) k os

-- an object more
pub captured_push : (names : List (List ℕ)) (n : ℕ) (os : List Object) (o : Object)
    → captured_from names n (os ++ o ∷ []) ≡ under_its_number (n + length os) (captured_by names o) ++ captured_from names n os
captured_push names n [] o =
    let same : n + 0 ≡ n = omega arith in
    rw same (sym (append-nil (under_its_number n (captured_by names o))))
captured_push names n (p ∷ ps) o =
    let same : suc n + length ps ≡ n + suc (length ps) = omega arith in
    ap (λ cs. cs ++ under_its_number n (captured_by names p)) (captured_push names (suc n) ps o)
    ∙ append_assoc (under_its_number (suc n + length ps) (captured_by names o)) (captured_from names (suc n) ps) (under_its_number n (captured_by names p))
    ∙ ap (λ m. under_its_number m (captured_by names o) ++ (captured_from names (suc n) ps ++ under_its_number n (captured_by names p))) same

-- the objects as the meaning sees them, with one more
pub mapped_push : {X Y : Type 0} (f : X → Y) (xs : List X) (x : X) → map f (xs ++ x ∷ []) ≡ map f xs ++ f x ∷ []
mapped_push f xs x = map-append f xs (x ∷ [])

-- and with another one in the place of one
pub mapped_set : {X Y : Type 0} (f : X → Y) (xs : List X) (i : ℕ) (x : X) → map f (slice_set xs i x) ≡ slice_set (map f xs) i (f x)
mapped_set f xs i x = map-set f xs i x

-- an object that captured nothing in the place of one that captured nothing
pub captured_set : (names : List (List ℕ)) (n i : ℕ) (os : List Object) (o p : Object)
    → slice_get os i ≡ Some p → captured_by names p ≡ None → captured_by names o ≡ None
    → captured_from names n (slice_set os i o) ≡ captured_from names n os
captured_set names n i [] o p at was now = refl
captured_set names n zero (q ∷ os) o p at was now =
    let same : q ≡ p = cc in
    rw (now, same, was) refl
captured_set names n (suc i) (q ∷ os) o p at was now =
    ap (λ cs. cs ++ under_its_number n (captured_by names q)) (captured_set names (suc n) i os o p at was now)
