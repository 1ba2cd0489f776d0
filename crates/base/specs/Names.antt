-- Tables of names: name n is the text at place n.
use Rattle.std.specs.Prelude.{◌≡◌, ℕ, zero, suc, ◌<◌, ◌≤◌, ◌⊎◌, Bool, true, false, ◌||◌, if◌then◌else◌, List, [], ◌∷◌, ◌++◌, length, Some, slice_get, refl}
use Rattle.std.specs.List.{list_any}
use Rattle.std.specs.Str.{bytes_eq}
use Rattle.std.proofs.Common.{arith, inl, inr, ⊎_elim, sym, ◌∙◌, ap, subst, append_assoc, append-nil, length-append}
use Rattle.std.proofs.lemmas.Slice.Eq.{bytes_eq-Decides}

-- each text once, and none longer than 263 bytes: 256 of a symbol's name, and 7 more of a name `(setf s)`
pub record IsTable (texts : List (List ℕ)) : Type 0 where
  pub once : (i j : ℕ) (t : List ℕ) → slice_get texts i ≡ Some t → slice_get texts j ≡ Some t → i ≡ j
  pub short : (i : ℕ) (t : List ℕ) → slice_get texts i ≡ Some t → length t ≤ 263

-- the later table begins with the same names
pub record Extends (old new : List (List ℕ)) : Type 0 where
  pub added : List (List ℕ)
  pub begins : new ≡ old ++ added

-- the text stands in the table
abbrev pub has_text : List (List ℕ) → List ℕ → Bool
has_text texts t = list_any (bytes_eq t) texts

-- with the text at its end, unless it is there
abbrev pub with_text : List (List ℕ) → List ℕ → List (List ℕ)
with_text texts t = if has_text texts t then texts else texts ++ t ∷ []

pub Extends-same : (texts : List (List ℕ)) → Extends texts texts
Extends-same texts = record { added = []; begins = sym (append-nil texts) }

pub Extends-then : (a b c : List (List ℕ)) → Extends a b → Extends b c → Extends a c
Extends-then a b c x y = record {
  added = x.added ++ y.added;
  begins = y.begins ∙ ap (λ ts. ts ++ y.added) x.begins ∙ append_assoc a x.added y.added;
}

pub Extends-with_text : (texts : List (List ℕ)) (t : List ℕ) → Extends texts (with_text texts t)
Extends-with_text texts t =
    elim (has_text texts t) as (λ b. Extends texts (if b then texts else texts ++ t ∷ [])) [
      | true ↦ Extends-same texts
      | false ↦ record { added = t ∷ []; begins = refl }
    ]

-- an item in front of more items
pub slice_get-front : {X : Type 0} (xs ys : List X) (i : ℕ) (x : X) → slice_get xs i ≡ Some x → slice_get (xs ++ ys) i ≡ Some x
slice_get-front [] ys i x h = absurd (cc)
slice_get-front (z ∷ zs) ys zero x h = h
slice_get-front (z ∷ zs) ys (suc i) x h = slice_get-front zs ys i x h

-- the item behind a list
pub slice_get-behind : {X : Type 0} (xs : List X) (x : X) → slice_get (xs ++ x ∷ []) (length xs) ≡ Some x
slice_get-behind [] x = refl
slice_get-behind (z ∷ zs) x = slice_get-behind zs x

-- an item of a list with one more at its end
pub slice_get-push : {X : Type 0} (xs : List X) (y : X) (i : ℕ) (x : X) → slice_get (xs ++ y ∷ []) i ≡ Some x
    → (slice_get xs i ≡ Some x) ⊎ ((i ≡ length xs) × (y ≡ x))
slice_get-push [] y zero x h = inr (refl, cc)
slice_get-push [] y (suc i) x h = absurd (cc)
slice_get-push (z ∷ zs) y zero x h = inl h
slice_get-push (z ∷ zs) y (suc i) x h =
    ⊎_elim (λ e. inl e) (λ p. inr (ap suc p.0, p.1)) (slice_get-push zs y i x h)

-- a name keeps its text
pub text_stays : (old new : List (List ℕ)) (n : ℕ) (t : List ℕ) → Extends old new → slice_get old n ≡ Some t → slice_get new n ≡ Some t
text_stays old new n t x h = rw x.begins (slice_get-front old x.added n t h)

-- a name of the table is one of the later table
pub name_stays : (old new : List (List ℕ)) (n : ℕ) → Extends old new → n < length old → n < length new
name_stays old new n x h = rw x.begins (omega (arith, length-append old x.added))

-- a later table is no shorter
pub no_shorter : (old new : List (List ℕ)) → Extends old new → length old ≤ length new
no_shorter old new e = rw e.begins (omega (arith, length-append old e.added))

any_else : (a b : Bool) → b ≡ true → (a || b) ≡ true
any_else true b h = refl
any_else false b h = h

any_cases : (a b : Bool) → (a || b) ≡ true → (a ≡ true) ⊎ (b ≡ true)
any_cases true b h = inl refl
any_cases false b h = inr h

-- a text that a name has stands in the table
pub has_text-from : (texts : List (List ℕ)) (i : ℕ) (t : List ℕ) → slice_get texts i ≡ Some t → has_text texts t ≡ true
has_text-from [] i t h = absurd (cc)
has_text-from (s ∷ ss) zero t h =
    let same : t ≡ s = cc in
    let here : bytes_eq t s ≡ true = (bytes_eq-Decides t s).1 same in
    rw here refl
has_text-from (s ∷ ss) (suc i) t h = any_else (bytes_eq t s) (has_text ss t) (has_text-from ss i t h)

-- a text that stands in the table has a name
pub name_of_text : (texts : List (List ℕ)) (t : List ℕ) → has_text texts t ≡ true → (i : ℕ) × (slice_get texts i ≡ Some t)
name_of_text [] t h = absurd (cc)
name_of_text (s ∷ ss) t h =
    ⊎_elim
    (λ here. let same : t ≡ s = (bytes_eq-Decides t s).0 here in (0, ap Some (sym same)))
    (λ there. let r : (i : ℕ) × (slice_get ss i ≡ Some t) = name_of_text ss t there in (suc r.0, r.1))
    (any_cases (bytes_eq t s) (has_text ss t) h)

-- a table with one more text is a table
pub IsTable-with_text : (texts : List (List ℕ)) (t : List ℕ) → IsTable texts → length t ≤ 263 → IsTable (with_text texts t)
IsTable-with_text texts t x short = by (has_text texts t) refl
  where
    pushed : has_text texts t ≡ false → IsTable (texts ++ t ∷ [])
    pushed new = record {
      once = λ i j u h k.
          ⊎_elim
          (λ a. ⊎_elim (λ b. x.once i j u a b) (λ q. absurd (apart u i a q.1)) (slice_get-push texts t j u k))
          (λ p. ⊎_elim (λ b. absurd (apart u j b p.1)) (λ q. p.0 ∙ sym q.0) (slice_get-push texts t j u k))
          (slice_get-push texts t i u h);
      short = λ i u h.
          ⊎_elim (λ a. x.short i u a) (λ p. let P : List ℕ → Type 0 = λ s. length s ≤ 263 in subst P p.1 short) (slice_get-push texts t i u h);
    }
      where
        apart : (u : List ℕ) (i : ℕ) → slice_get texts i ≡ Some u → t ≡ u → ⊥
        apart u i a e = let there : has_text texts t ≡ true = has_text-from texts i t (a ∙ ap Some (sym e)) in cc

    by : (b : Bool) → has_text texts t ≡ b → IsTable (if b then texts else texts ++ t ∷ [])
    by true e = x
    by false e = pushed e
