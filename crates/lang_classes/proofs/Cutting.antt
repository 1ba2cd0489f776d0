-- Tables of which the first classes stay.
use Rattle.std.proofs.Common.{◌≡◌, ℕ, zero, suc, ◌+◌, ◌-◌, ◌<◌, ◌≤◌, min, Bool, true, false, List, [], ◌∷◌, Option, Some, None, take, length, slice_get, refl, sym, ap, subst, ◌∙◌, if◌then◌else◌, arith}
use Rattle.std.specs.Option.{option_map}
use Rattle.std.specs.Ordering.{nat_cmp}
use Rattle.std.specs.BTreeMap.{BTreeMap, get, UpdatesBy}
use Rattle.std.proofs.lemmas.List.{take-take, length-take, take-append-le}
use Rattle.std.proofs.lemmas.Bool.{eqb-true}
use Rattle.base.specs.declared.datum.Name.{Name}
use Rattle.lang_meaning.specs.declared.program.ClassRow.{ClassRow}
use Rattle.lang_meaning.specs.declared.program.SlotRow.{SlotRow}
use Rattle.lang_meaning.specs.Objects.{built_in_classes}
use Rattle.lang_meaning.specs.bridge.Prefixes.{of_prefix}
use Rattle.base.specs.model.DataRest.{take_at}
use Rattle.lang_classes.specs.InheritedClasses.{Hierarchy, GivenSlot, IsHierarchy, IsRow, AreClasses, class_named, with_class}
use Rattle.lang_classes.specs.InheritedSlots.{same_name}
use Rattle.lang_classes.proofs.Adding.{key_found, named-more}

-- a class among the first is found among them
named-early : (rows : List ClassRow) (n : Name) (k c : ℕ) → c < k → class_named rows n ≡ Some c → class_named (take k rows) n ≡ Some c
named-early rows n zero c l h = absurd (omega (arith, l))
named-early [] n (suc k) c l h = absurd (cc)
named-early (r ∷ rows) n (suc k) c l h = by (same_name n r.name) (class_named rows n) (class_named (take k rows) n) refl (λ d m e. named-early rows n k d m e) h
  where
    by : (b : Bool) (o p : Option ℕ) → class_named rows n ≡ o → ((d : ℕ) → d < k → class_named rows n ≡ Some d → p ≡ Some d)
        → (if b then Some 0 else option_map (λ j. j + 1) o) ≡ Some c → (if b then Some 0 else option_map (λ j. j + 1) p) ≡ Some c
    by true o p e f h = h
    by false None p e f h = absurd (cc)
    by false (Some j) p e f h = let next : j + 1 ≡ c = cc in rw (f j (omega (arith, l, next)) e) h

-- and one behind them is not
named-late : (rows : List ClassRow) (n : Name) (k c : ℕ) → k ≤ c → class_named rows n ≡ Some c → class_named (take k rows) n ≡ None
named-late rows n zero c l h = refl
named-late [] n (suc k) c l h = absurd (cc)
named-late (r ∷ rows) n (suc k) c l h = by (same_name n r.name) (class_named rows n) (class_named (take k rows) n) refl (λ d m e. named-late rows n k d m e) h
  where
    by : (b : Bool) (o p : Option ℕ) → class_named rows n ≡ o → ((d : ℕ) → k ≤ d → class_named rows n ≡ Some d → p ≡ None)
        → (if b then Some 0 else option_map (λ j. j + 1) o) ≡ Some c → (if b then Some 0 else option_map (λ j. j + 1) p) ≡ None
    by true o p e f h = let first : 0 ≡ c = cc in absurd (omega (arith, l, first))
    by false None p e f h = absurd (cc)
    by false (Some j) p e f h = let next : j + 1 ≡ c = cc in rw (f j (omega (arith, l, next)) e) refl

-- the last of the classes that are left is taken from the map
module _ (rows : List ClassRow) (row : ClassRow) (before after : BTreeMap ℕ ℕ)
    (named : (c : ℕ) (r : ClassRow) → slice_get rows c ≡ Some r → class_named rows r.name ≡ Some c)
    (u : UpdatesBy nat_cmp (nat_cmp row.name.0) before after None) where
  last_forgotten : (k : ℕ) → slice_get rows k ≡ Some row → ((n : Name) → get nat_cmp before n.0 ≡ class_named (take (k + 1) rows) n)
      → (n : Name) → get nat_cmp after n.0 ≡ class_named (take k rows) n
  last_forgotten k at found n =
      u.0 n.0 ∙ rw (key_found row.name.0 n.0, found n, take_at rows k row at, named-more (take k rows) row n absent) (last (same_name n row.name) refl)
    where
      absent : class_named (take k rows) row.name ≡ None
      absent = named-late rows row.name k k (omega arith) (named k row at)

      last : (b : Bool) → same_name n row.name ≡ b
          → (if b then None else if b then Some (length (take k rows)) else class_named (take k rows) n) ≡ class_named (take k rows) n
      last true e =
          let same : n ≡ row.name = ap (λ i. let m : Name = record { 0 = i } in m) (eqb-true n.0 row.name.0 e) in
          sym (ap (class_named (take k rows)) same ∙ absent)
      last false e = refl

pub forgotten : (rows : List ClassRow) (left : ℕ) (row : ClassRow) (before after : BTreeMap ℕ ℕ) → 1 ≤ left
    → ((c : ℕ) (r : ClassRow) → slice_get rows c ≡ Some r → class_named rows r.name ≡ Some c)
    → slice_get rows (left - 1) ≡ Some row → ((n : Name) → get nat_cmp before n.0 ≡ class_named (take left rows) n)
    → UpdatesBy nat_cmp (nat_cmp row.name.0) before after None → (n : Name) → get nat_cmp after n.0 ≡ class_named (take (left - 1) rows) n
forgotten rows left row before after some named at found u =
    let last : left ≡ left - 1 + 1 = omega (arith, some) in
    let P : ℕ → Type 0 = λ i. (n : Name) → get nat_cmp before n.0 ≡ class_named (take i rows) n in
    last_forgotten rows row before after named u (left - 1) at (subst P last found)

-- the first classes are classes
pub classes_cut : (h : Hierarchy) (len : ℕ) → AreClasses h → AreClasses (record { rows = take len h.rows; own = take len h.own })
classes_cut h len a = record {
  paired = length-take len h.own ∙ ap (min len) a.paired ∙ sym (length-take len h.rows);
  right = λ c row k.
      let there = of_prefix len h.rows c row k in
      let P : List ClassRow → List (List SlotRow) → Type 0 = λ rows own. IsRow rows own c row in
      let rows_stay : take c (take len h.rows) ≡ take c h.rows = take-take c len h.rows (omega (arith, there.0)) in
      let own_stays : take (c + 1) (take len h.own) ≡ take (c + 1) h.own = take-take (c + 1) len h.own (omega (arith, there.0)) in
      rw (rows_stay, own_stays) (a.right c row there.1);
  named = λ c row k.
      let there = of_prefix len h.rows c row k in
      named-early h.rows row.name len c there.0 (a.named c row there.1);
}

-- and with all built-in ones among them a hierarchy
pub hierarchy_cut : (h : Hierarchy) (len : ℕ) → IsHierarchy h → built_in_classes ≤ len → len ≤ length h.rows
    → IsHierarchy (record { rows = take len h.rows; own = take len h.own })
hierarchy_cut h len x enough fits = record {
  classes = classes_cut h len x.classes;
  enough = omega (arith, length-take len h.rows);
  built_in = λ c row below k. x.built_in c row below ((of_prefix len h.rows c row k).1);
}

-- a class that was added behind the ones that stay is gone
pub rows_back : (h : Hierarchy) (name : Name) (supers : List ℕ) (given : List GivenSlot) (abstract_class : Bool) (len : ℕ)
    → len ≤ length h.rows → take len (with_class h name supers given abstract_class).rows ≡ take len h.rows
unfolding with_class
rows_back h name supers given abstract_class len fits = take-append-le len h.rows _ fits

pub own_back : (h : Hierarchy) (name : Name) (supers : List ℕ) (given : List GivenSlot) (abstract_class : Bool) (len : ℕ)
    → len ≤ length h.own → take len (with_class h name supers given abstract_class).own ≡ take len h.own
unfolding with_class
own_back h name supers given abstract_class len fits = take-append-le len h.own _ fits
