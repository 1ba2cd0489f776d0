-- Two tables of names, each with the texts of the other behind its own: they have the same texts, in another order.
use Rattle.std.specs.Prelude.{◌≡◌, ℕ, zero, suc, ◌+◌, ◌-◌, ◌≤◌, ◌⊎◌, Bool, true, false, if◌then◌else◌, List, [], ◌∷◌, ◌++◌, Option, Some, None, length, slice_get, refl}
use Rattle.std.proofs.Common.{arith, ap, sym, ◌∙◌, subst, inl, inr, ⊎_elim}
use Rattle.base.specs.Names.{IsTable, Extends, Extends-same, Extends-then, has_text, with_text, Extends-with_text, IsTable-with_text, text_stays, name_of_text, slice_get-behind, slice_get-push}
use Rattle.front_reader.specs.Meanings.{number_in}
use Rattle.front_laws.specs.Renaming.{Renames}
use Rattle.front_laws.proofs.RenamedTexts.{number_text, number_there}
use Rattle.front_expansions.proofs.Later.{place_in}
use Rattle.front_laws.proofs.RenamedLater.{below_length}

-- the table with these texts behind its own, each once
abbrev pub with_texts : List (List ℕ) → List (List ℕ) → List (List ℕ)
with_texts ts [] = ts
with_texts ts (u ∷ us) = with_texts (with_text ts u) us

pub extends_with : (ts us : List (List ℕ)) → Extends ts (with_texts ts us)
extends_with ts [] = Extends-same ts
extends_with ts (u ∷ us) = Extends-then ts (with_text ts u) (with_texts (with_text ts u) us) (Extends-with_text ts u) (extends_with (with_text ts u) us)

-- all are short enough for a table
abbrev AllShort : List (List ℕ) → Type 0
AllShort ts = (i : ℕ) (t : List ℕ) → slice_get ts i ≡ Some t → length t ≤ 263

table_with_all : (ts us : List (List ℕ)) → IsTable ts → AllShort us → IsTable (with_texts ts us)
table_with_all ts [] x h = x
table_with_all ts (u ∷ us) x h = table_with_all (with_text ts u) us (IsTable-with_text ts u x (h 0 u refl)) (λ i t e. h (suc i) t e)

pub table_with : (ts us : List (List ℕ)) → IsTable ts → IsTable us → IsTable (with_texts ts us)
table_with ts us x y = table_with_all ts us x y.short

-- ---- whose texts they are

abbrev IsAmong : List (List ℕ) → List ℕ → Type 0
IsAmong ts t = (n : ℕ) × (slice_get ts n ≡ Some t)

there_already : (b : Bool) (ts : List (List ℕ)) (u : List ℕ) → has_text ts u ≡ b → IsAmong (if b then ts else ts ++ u ∷ []) u
there_already true ts u e = name_of_text ts u e
there_already false ts u e = (length ts, slice_get-behind ts u)

is_added : (ts : List (List ℕ)) (u : List ℕ) → IsAmong (with_text ts u) u
is_added ts u = there_already (has_text ts u) ts u refl

stays_among : (ts us : List (List ℕ)) (t : List ℕ) → Extends ts us → IsAmong ts t → IsAmong us t
stays_among ts us t e x = (x.0, text_stays ts us x.0 t e x.1)

pub among_added : (ts us : List (List ℕ)) (t : List ℕ) → IsAmong us t → IsAmong (with_texts ts us) t
among_added ts [] t x = absurd (let e : None ≡ Some t = x.1 in cc)
among_added ts (u ∷ us) t x = by x.0 x.1 (λ n e. among_added (with_text ts u) us t (n, e))
  where
    by : (n : ℕ) → slice_get (u ∷ us) n ≡ Some t → ((n : ℕ) → slice_get us n ≡ Some t → IsAmong (with_texts (with_text ts u) us) t) → IsAmong (with_texts (with_text ts u) us) t
    by zero e f =
        let same : u ≡ t = cc in
        subst (IsAmong (with_texts (with_text ts u) us)) same (stays_among (with_text ts u) (with_texts (with_text ts u) us) u (extends_with (with_text ts u) us) (is_added ts u))
    by (suc n) e f = f n e

one_of_two : (b : Bool) (ts : List (List ℕ)) (u t : List ℕ) → IsAmong (if b then ts else ts ++ u ∷ []) t → IsAmong ts t ⊎ (u ≡ t)
one_of_two true ts u t x = inl x
one_of_two false ts u t x = ⊎_elim (λ e. inl (x.0, e)) (λ p. inr p.1) (slice_get-push ts u x.0 t x.1)

among_either : (ts us : List (List ℕ)) (t : List ℕ) → IsAmong (with_texts ts us) t → IsAmong ts t ⊎ IsAmong us t
among_either ts [] t x = inl x
among_either ts (u ∷ us) t x =
    ⊎_elim
    (λ y. ⊎_elim (λ z. inl z) (λ e. inr (0, ap (λ s. Some s) e)) (one_of_two (has_text ts u) ts u t y))
    (λ y. inr (suc y.0, y.1))
    (among_either (with_text ts u) us t x)

-- so both tables have the same texts
pub among_other : (ts us : List (List ℕ)) (t : List ℕ) → IsAmong (with_texts ts us) t → IsAmong (with_texts us ts) t
among_other ts us t x =
    ⊎_elim (λ y. among_added us ts t y) (λ y. stays_among us (with_texts us ts) t (extends_with us ts) y) (among_either ts us t x)

-- ---- the numbers

abbrev or_nothing : Option ℕ → ℕ
or_nothing None = 0
or_nothing (Some n) = n

-- the number that a text of a table has in another one; behind all texts numbers follow in their order
abbrev number_by : List (List ℕ) → List (List ℕ) → ℕ → Option (List ℕ) → ℕ
number_by old new n (Some t) = or_nothing (number_in new t)
number_by old new n None = length new + (n - length old)

abbrev pub renumbered : List (List ℕ) → List (List ℕ) → ℕ → ℕ
renumbered old new n = number_by old new n (slice_get old n)

module _ (old new : List (List ℕ)) (x : IsTable old) (y : IsTable new) (there : (t : List ℕ) → IsAmong old t → IsAmong new t) (back : (t : List ℕ) → IsAmong new t → IsAmong old t) where
  -- a text has its text under the new number
  text_by : (n : ℕ) (t : List ℕ) → slice_get old n ≡ Some t → slice_get new (renumbered old new n) ≡ Some t
  text_by n t e =
      let a = there t (n, e) in
      let m = number_there new t a.0 a.1 in
      let is : renumbered old new n ≡ m.0 = ap (number_by old new n) e ∙ ap or_nothing m.1 in
      ap (slice_get new) is ∙ number_text new t m.0 m.1

  behind_by : (k : ℕ) → renumbered old new (length old + k) ≡ length new + k
  behind_by k =
      let none : slice_get old (length old + k) ≡ None = outside (slice_get old (length old + k)) refl in
      let less : length new + ((length old + k) - length old) ≡ length new + k = omega arith in
      ap (number_by old new (length old + k)) none ∙ less
    where
      outside : (o : Option (List ℕ)) → slice_get old (length old + k) ≡ o → slice_get old (length old + k) ≡ None
      outside None e = e
      outside (Some t) e = absurd (omega (arith, below_length old (length old + k) t e))

  none_behind : {X : Type 0} (zs : List X) (k : ℕ) → slice_get zs (length zs + k) ≡ None
  none_behind [] k = refl
  none_behind (z ∷ zs) k = let e : length (z ∷ zs) + k ≡ suc (length zs + k) = omega arith in ap (slice_get (z ∷ zs)) e ∙ none_behind zs k

  texts_by : (n : ℕ) → slice_get new (renumbered old new n) ≡ slice_get old n
  texts_by n =
      ⊎_elim
      (λ h. text_by n h.0 h.1 ∙ sym h.1)
      (λ h. ap (slice_get new) (ap (renumbered old new) h.1 ∙ behind_by h.0) ∙ none_behind new h.0 ∙ sym (none_behind old h.0) ∙ ap (slice_get old) (sym h.1))
      (place_in old n)

  -- no two numbers become one
  once_by : (m n : ℕ) → renumbered old new m ≡ renumbered old new n → m ≡ n
  once_by m n e =
      ⊎_elim
      (λ h. let same : slice_get old n ≡ Some h.0 = sym (texts_by n) ∙ ap (slice_get new) (sym e) ∙ texts_by m ∙ h.1 in x.once m n h.0 h.1 same)
      (λ h. ⊎_elim
      (λ k. let same : slice_get old m ≡ Some k.0 = sym (texts_by m) ∙ ap (slice_get new) e ∙ texts_by n ∙ k.1 in x.once m n k.0 same k.1)
      (λ k.
      let a : length new + h.0 ≡ length new + k.0 = sym (behind_by h.0) ∙ ap (renumbered old new) (sym h.1) ∙ e ∙ ap (renumbered old new) k.1 ∙ behind_by k.0 in
      let p : m ≡ length old + h.0 = h.1 in let q : n ≡ length old + k.0 = k.1 in omega (arith, a, p, q))
      (place_in old n))
      (place_in old m)

  pub renames : Renames (renumbered old new) old new
  renames = record { once = once_by; texts = texts_by; back = λ m t e. back t (m, e); behind = behind_by }

-- two tables, each with the texts of the other
pub renames_joined : (a b : List (List ℕ)) → IsTable a → IsTable b → Renames (renumbered (with_texts b a) (with_texts a b)) (with_texts b a) (with_texts a b)
renames_joined a b x y = renames (with_texts b a) (with_texts a b) (table_with b a y x) (table_with a b x y) (among_other b a) (among_other a b)
