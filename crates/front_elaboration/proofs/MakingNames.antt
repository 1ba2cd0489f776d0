-- The number of the generic function of a name.
use Rattle.std.proofs.Common.{◌≡◌, ℕ, zero, suc, ◌+◌, ◌==◌, Bool, true, false, List, [], ◌∷◌, Option, Some, None, MatchOption, slice_get, option_map, refl, ap, sym, ◌∙◌, add-one}
use Rattle.std.proofs.lemmas.Bool.{or_parts, eqb-true, eqb-false}
use Rattle.base.specs.declared.datum.Name.{Name}
use Rattle.lang_meaning.specs.declared.program.GenericRow.{GenericRow}
use Rattle.lang_meaning.specs.Lookup.{is_in}
use Rattle.lang_classes.specs.InheritedSlots.{same_name}
use Rattle.lang_dispatch.specs.Methods.{names_of, HaveOwnNames}
use Rattle.front_profile.specs.Elaborations.{generic_named}

-- the first generic function of a name
record FirstNamed (gs : List GenericRow) (n : Name) : Type 0 where
  place : ℕ
  is : generic_named gs n ≡ Some place
  there : slice_get (names_of gs) place ≡ Some n.0

-- where one has the name, there is a first one
first_named : (gs : List GenericRow) (n : Name) (i : ℕ) → slice_get (names_of gs) i ≡ Some n.0 → FirstNamed gs n
first_named [] n i h = absurd (cc h)
first_named (g ∷ gs) n i h = by_test (same_name n g.name) refl (first_named gs n) i h
  where
    by_test : (b : Bool) → same_name n g.name ≡ b → ((j : ℕ) → slice_get (names_of gs) j ≡ Some n.0 → FirstNamed gs n)
        → (j : ℕ) → slice_get (names_of (g ∷ gs)) j ≡ Some n.0 → FirstNamed (g ∷ gs) n
    by_test true e more j k = record { place = 0; is = rw e refl; there = ap Some (sym (eqb-true n.0 g.name.0 e)) }
    by_test false e more zero k = let same : n.0 ≡ g.name.0 = cc k in absurd (eqb-false n.0 g.name.0 e same)
    by_test false e more (suc j) k =
        let f : FirstNamed gs n = more j k in
        record { place = suc f.place; is = rw e (ap (option_map (λ i. i + 1)) f.is ∙ ap Some (add-one f.place)); there = f.there }

-- where none has the name, there is none
none_named : (gs : List GenericRow) (n : Name) → is_in n.0 (names_of gs) ≡ false → generic_named gs n ≡ None
none_named [] n h = refl
none_named (g ∷ gs) n h =
    let o : ((n.0 == g.name.0) ≡ false) × (is_in n.0 (names_of gs) ≡ false) = or_parts (n.0 == g.name.0) (is_in n.0 (names_of gs)) h in
    rw o.0 (ap (option_map (λ i. i + 1)) (none_named gs n o.1))

-- where each has a name of its own, the one that is found is the first
pub found_number : (gs : List GenericRow) (n : Name) (o : Option ℕ) → HaveOwnNames gs
    → MatchOption o (is_in n.0 (names_of gs) ≡ false) (λ i. slice_get (names_of gs) i ≡ Some n.0) → o ≡ generic_named gs n
found_number gs n None w h = sym (none_named gs n h)
found_number gs n (Some i) w h =
    let f : FirstNamed gs n = first_named gs n i h in
    ap Some (w.once i f.place n.0 h f.there) ∙ sym f.is
