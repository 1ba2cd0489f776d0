-- Whether methods are left.
use Rattle.std.proofs.Common.{◌≡◌, ℕ, ◌<◌, ◌≤◌, List, [], ◌∷◌, true, false, Some, refl, ap, sym, ◌∙◌, length, drop, arith, ⊎_elim}
use Rattle.std.proofs.lemmas.List.{length-drop}
use Rattle.std.proofs.lemmas.Bool.{cases_lt, lt-ltb, le-ltb}
use Rattle.std.specs.Prelude.{nat_lt}
use Rattle.lang_meaning.specs.Objects.{Called as Chained}
use Rattle.lang_meaning.specs.Meaning.{is_next}

-- whether primary methods are left
left_by : (c : Chained) (ps : List ℕ) → c.rest.primary ≡ ps → is_next (Some c) ≡ is_next (Some (record c { rest = record c.rest { primary = ps } }))
left_by c ps e = ap (λ xs. is_next (Some (record c { rest = record c.rest { primary = xs } }))) e

some_left : (c : Chained) (ps : List ℕ) → 0 < length ps → is_next (Some (record c { rest = record c.rest { primary = ps } })) ≡ true
some_left c [] h = absurd (omega arith)
some_left c (p ∷ ps) h = refl

none_left : (c : Chained) (ps : List ℕ) → length ps ≤ 0 → is_next (Some (record c { rest = record c.rest { primary = ps } })) ≡ false
none_left c [] h = refl
none_left c (p ∷ ps) h = absurd (omega arith)

pub is_left : (c : Chained) (ps : List ℕ) → c.rest.primary ≡ ps → 0 < length ps → true ≡ is_next (Some c)
is_left c ps e h = sym (left_by c ps e ∙ some_left c ps h)

pub is_not_left : (c : Chained) (ps : List ℕ) → c.rest.primary ≡ ps → length ps ≤ 0 → false ≡ is_next (Some c)
is_not_left c ps e h = sym (left_by c ps e ∙ none_left c ps h)

-- behind so many
pub is_left_behind : (c : Chained) (ps : List ℕ) (n : ℕ) → c.rest.primary ≡ drop n ps → n < length ps → true ≡ is_next (Some c)
is_left_behind c ps n e h = is_left c (drop n ps) e (omega (arith, length-drop n ps))

pub is_not_left_behind : (c : Chained) (ps : List ℕ) (n : ℕ) → c.rest.primary ≡ drop n ps → length ps ≤ n → false ≡ is_next (Some c)
is_not_left_behind c ps n e h = is_not_left c (drop n ps) e (omega (arith, length-drop n ps))

pub left_behind : (c : Chained) (ps : List ℕ) (passed count : ℕ) → count ≡ length ps → c.rest.primary ≡ drop passed ps → nat_lt passed count ≡ is_next (Some c)
left_behind c ps passed count e is =
    ⊎_elim
    (λ (h : passed < count). lt-ltb passed count h ∙ is_left_behind c ps passed is (omega arith))
    (λ (h : count ≤ passed). le-ltb passed count h ∙ is_not_left_behind c ps passed is (omega arith))
    (cases_lt passed count)
