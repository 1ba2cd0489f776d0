-- The generic function of a name, by the names of all.
use Rattle.std.proofs.Common.{◌≡◌, ℕ, ◌+◌, ◌==◌, Bool, true, false, ◌||◌, List, [], ◌∷◌, Option, Some, None, if◌then◌else◌, refl, sym, ap, ◌∙◌, arith}
use Rattle.std.specs.Prelude.{zero, suc, option_map, slice_get, MatchOption}
use Rattle.std.proofs.lemmas.Bool.{eqb-true, eq-eqb}
use Rattle.base.specs.declared.datum.Name.{Name}
use Rattle.lang_meaning.specs.Lookup.{is_in}
use Rattle.lang_meaning.specs.declared.program.GenericRow.{GenericRow}
use Rattle.lang_dispatch.specs.Methods.{names_of, HaveOwnNames}
use Rattle.front_profile.specs.Elaborations.{generic_named}

none_by : (b c : Bool) (o : Option ℕ) → (b || c) ≡ false → (c ≡ false → o ≡ None) → (if b then Some 0 else option_map (λ i. i + 1) o) ≡ None
none_by true c o h f = absurd (cc)
none_by false c o h f = ap (option_map (λ i. i + 1)) (f h)

no_such : (gs : List GenericRow) (n : Name) → is_in n.0 (names_of gs) ≡ false → generic_named gs n ≡ None
no_such [] n h = refl
no_such (g ∷ gs) n h = none_by (n.0 == g.name.0) (is_in n.0 (names_of gs)) (generic_named gs n) h (λ k. no_such gs n k)

own_behind : (g : GenericRow) (gs : List GenericRow) → HaveOwnNames (g ∷ gs) → HaveOwnNames gs
own_behind g gs own = record {
  once = λ i j n h k. let same : suc i ≡ suc j = own.once (suc i) (suc j) n h k in omega (arith, same);
}

first_by : (b : Bool) (o : Option ℕ) → b ≡ true → (if b then Some 0 else option_map (λ i. i + 1) o) ≡ Some 0
first_by true o h = refl
first_by false o h = absurd (cc)

later_by : (b : Bool) (o : Option ℕ) (i : ℕ) → (b ≡ true → ⊥) → o ≡ Some i → (if b then Some 0 else option_map (λ k. k + 1) o) ≡ Some (i + 1)
later_by true o i differs h = absurd (differs refl)
later_by false o i differs h = ap (option_map (λ k. k + 1)) h

this_one : (gs : List GenericRow) (n : Name) (i : ℕ) → HaveOwnNames gs → slice_get (names_of gs) i ≡ Some n.0 → generic_named gs n ≡ Some i
this_one [] n i own h = absurd (cc)
this_one (g ∷ gs) n zero own h =
    let same : n.0 ≡ g.name.0 = cc in first_by (n.0 == g.name.0) (generic_named gs n) (eq-eqb n.0 g.name.0 same)
this_one (g ∷ gs) n (suc i) own h =
    let next : i + 1 ≡ suc i = omega arith in
    later_by (n.0 == g.name.0) (generic_named gs n) i
    (λ first.
    let same : n.0 ≡ g.name.0 = eqb-true n.0 g.name.0 first in
    let there : slice_get (names_of (g ∷ gs)) 0 ≡ Some n.0 = ap (λ k. Some k) (sym same) in
    let twice : 0 ≡ suc i = own.once 0 (suc i) n.0 there h in
    absurd (omega (arith, twice)))
    (this_one gs n i (own_behind g gs own) h)
    ∙ ap (λ k. Some k) next

-- what is found of a name is the generic function of the name
pub found_by_name : (gs : List GenericRow) (n : Name) (found : Option ℕ) → HaveOwnNames gs
    → MatchOption found (is_in n.0 (names_of gs) ≡ false) (λ i. slice_get (names_of gs) i ≡ Some n.0) → found ≡ generic_named gs n
found_by_name gs n None own h = sym (no_such gs n h)
found_by_name gs n (Some i) own h = sym (this_one gs n i own h)
