-- Methods of slots' options: each is a method of the generic function of its name, which is a new one where none is there.
use Rattle.std.proofs.Common.{◌+◌, ◌==◌, ◌≡◌, ◌<◌, ⊎_elim, ◌⊎◌, inl, inr, ℕ, zero, suc, nat_lt, Bool, true, false, not, ◌&&◌, ◌||◌, List, [], ◌∷◌, ◌++◌, length, flat_map, slice_get, is_some, option_map, Option, Some, None, if◌then◌else◌, refl, sym, ap, subst, ◌∙◌, add-one, arith}
use Rattle.std.specs.List.{list_all, list_any, filter_map}
use Rattle.std.specs.Str.{bytes_eq}
use Rattle.std.proofs.lemmas.Bool.{and_parts, and_from, or_parts, or_right, not-true, eqb-true, eqb-false, eq-eqb, ne_eqb, ltb-true, lt-ltb, cases_lt}
use Rattle.base.specs.declared.datum.Name.{Name}
use Rattle.base.specs.Names.{slice_get-behind}
use Rattle.base.specs.AllOf.{AllOf}
use Rattle.lang_meaning.specs.declared.program.Procedure.{Procedure}
use Rattle.lang_meaning.specs.declared.program.GenericRow.{GenericRow}
use Rattle.lang_meaning.specs.declared.program.MethodRow.{MethodRow}
use Rattle.lang_meaning.specs.declared.program.FunctionRow.{FunctionRow}
use Rattle.lang_meaning.specs.declared.program.Qualifier.TheVariants.{Primary}
use Rattle.lang_meaning.specs.Classes.{is_qualifier}
use Rattle.lang_meaning.specs.Standing.{is_alone}
use Rattle.lang_meaning.specs.Facts.{is_congruent, method_fits, same_method, is_of_method}
use Rattle.lang_classes.specs.InheritedClasses.{Hierarchy}
use Rattle.lang_classes.specs.InheritedSlots.{same_name}
use Rattle.front_profile.specs.declared.tables.Tables.{Tables}
use Rattle.front_profile.specs.declared.elaboration.Accessor.{Accessor}
use Rattle.front_profile.specs.declared.elaboration.Accessor.TheVariants.{Reads, Writes, Asks}
use Rattle.front_profile.specs.declared.elaboration.MethodHead.{MethodHead}
use Rattle.front_profile.specs.Elaborations.{arguments_of, classes_of, accessor_head, generic_named, with_generic, with_method_at, with_accessor_in, with_slot_functions}
use Rattle.front_profile.specs.DefiningRows.{is_that, has_function}
use Rattle.front_profile.specs.GivenNames.{no_name, unfit, lacking, given}
use Rattle.front_profile.specs.ClassRows.{Function, for_initform, for_method, Use, use_of, names_differ, slot_function}
use Rattle.front_profile.specs.Definitions.{Definitions, defined, rows_of, SoundTables, SoundDefinitions}
use Rattle.front_profile.proofs.Definitions.{method_from}
use Rattle.front_profile.proofs.Functions.{alone_more}
use Rattle.front_profile.proofs.DefiningRows.{no_function, other_way}
use Rattle.front_profile.proofs.Adding.{none_more, no_generic, new_row, method_of, with_method, tables_with, later_generic, sound_generic, TakesMethod, StandsBelow, stands_generic, stands_method, all_stand_below}
use Rattle.front_profile.proofs.Methods.{Joined, joined_same, joined_then, method_defined, joined_method}
use Rattle.front_profile.proofs.Joining.{Joins}
use Rattle.front_profile.proofs.Slots.{AllGiven, TakenAt, FunctionsMade}

-- the generic function of a name

abbrev pub found : Name → List GenericRow → Option GenericRow
found n [] = None
found n (g ∷ gs) = if same_name n g.name then Some g else found n gs

-- by its number
pub found_named : (n : Name) (gs : List GenericRow) (i : ℕ) → generic_named gs n ≡ Some i → slice_get gs i ≡ found n gs
found_named n [] i e = absurd (cc e)
found_named n (g ∷ gs) i e = by_test (same_name n g.name) (generic_named gs n) (found_named n gs) e
  where
    by_test : (b : Bool) (o : Option ℕ) → ((j : ℕ) → o ≡ Some j → slice_get gs j ≡ found n gs) → (if b then Some 0 else option_map (λ k. k + 1) o) ≡ Some i
        → slice_get (g ∷ gs) i ≡ (if b then Some g else found n gs)
    by_test true o more h = let k : 0 ≡ i = cc h in ap (slice_get (g ∷ gs)) (sym k)
    by_test false None more h = absurd (cc h)
    by_test false (Some j) more h = let k : j + 1 ≡ i = cc h in ap (slice_get (g ∷ gs)) (sym k ∙ add-one j) ∙ more j refl

-- what has a number is there
pub found_some : (n : Name) (gs : List GenericRow) (i : ℕ) → generic_named gs n ≡ Some i → found n gs ≡ None → ⊥
found_some n [] i e f = absurd (cc e)
found_some n (g ∷ gs) i e f = by_test (same_name n g.name) (generic_named gs n) (found_some n gs) e f
  where
    by_test : (b : Bool) (o : Option ℕ) → ((j : ℕ) → o ≡ Some j → found n gs ≡ None → ⊥) → (if b then Some 0 else option_map (λ k. k + 1) o) ≡ Some i
        → (if b then Some g else found n gs) ≡ None → ⊥
    by_test true o more h f = absurd (cc f)
    by_test false None more h f = absurd (cc h)
    by_test false (Some j) more h f = more j refl f

pub found_none : (n : Name) (gs : List GenericRow) → generic_named gs n ≡ None → found n gs ≡ None
found_none n [] e = refl
found_none n (g ∷ gs) e = by_test (same_name n g.name) (generic_named gs n) (found_none n gs) e
  where
    by_test : (b : Bool) (o : Option ℕ) → (o ≡ None → found n gs ≡ None) → (if b then Some 0 else option_map (λ k. k + 1) o) ≡ None → (if b then Some g else found n gs) ≡ None
    by_test true o more h = absurd (cc h)
    by_test false None more h = more refl
    by_test false (Some j) more h = absurd (cc h)

-- it has that name
pub found_name : (n : Name) (gs : List GenericRow) (x : GenericRow) → found n gs ≡ Some x → same_name n x.name ≡ true
found_name n [] x e = absurd (cc e)
found_name n (g ∷ gs) x e = by_test (same_name n g.name) refl (found_name n gs x) e
  where
    by_test : (b : Bool) → same_name n g.name ≡ b → (found n gs ≡ Some x → same_name n x.name ≡ true) → (if b then Some g else found n gs) ≡ Some x → same_name n x.name ≡ true
    by_test true k more h = let same : g ≡ x = cc h in ap (λ (y : GenericRow). same_name n y.name) (sym same) ∙ k
    by_test false k more h = more h

-- a name that is none of theirs
none_named : (n : Name) (gs : List GenericRow) → list_any (λ (x : GenericRow). x.name.0 == n.0) gs ≡ false → generic_named gs n ≡ None
none_named n [] h = refl
none_named n (g ∷ gs) h =
    let o : ((g.name.0 == n.0) ≡ false) × (list_any (λ (x : GenericRow). x.name.0 == n.0) gs ≡ false) =
    or_parts (g.name.0 == n.0) (list_any (λ (x : GenericRow). x.name.0 == n.0) gs) h in
    let other : same_name n g.name ≡ false = other_way g.name.0 n.0 o.0 in
    rw other (ap (option_map (λ k. k + 1)) (none_named n gs o.1))

pub no_generic_named : (t : Tables) (n : Name) → SoundTables t → has_function t n ≡ false → generic_named t.generics n ≡ None
no_generic_named t n w h = none_named n t.generics (no_generic n t.functions t.generics (no_function t n h) w.generics.named)

-- that of another name stays

found_with : (n : Name) (gs : List GenericRow) (j : ℕ) (m : MethodRow) → ((x : GenericRow) → slice_get gs j ≡ Some x → same_name n x.name ≡ false)
    → found n (with_method gs j m) ≡ found n gs
found_with n [] j m f = refl
found_with n (g ∷ gs) zero m f = rw (f g refl) refl
found_with n (g ∷ gs) (suc j) m f = ap (λ o. if same_name n g.name then Some g else o) (found_with n gs j m f)

found_behind : (n : Name) (gs : List GenericRow) (g : GenericRow) → same_name n g.name ≡ false → found n (gs ++ g ∷ []) ≡ found n gs
found_behind n [] g e = rw e refl
found_behind n (h ∷ gs) g e = ap (λ o. if same_name n h.name then Some h else o) (found_behind n gs g e)

-- two names that differ, and a third that is the first
other_third : (m n k : Name) → same_name m n ≡ false → same_name m k ≡ true → same_name n k ≡ false
other_third m n k d e = ne_eqb n.0 k.0 (λ q. eqb-false m.0 n.0 d (eqb-true m.0 k.0 e ∙ sym q))

-- a use of a name that is ready: no function has it, or a generic function that takes as many arguments, and has no method of the class

pub record RowReady (c : ℕ) (u : Use) (x : GenericRow) : Type 0 where
  pub required : x.required ≡ u.arguments
  pub rest : x.rest ≡ false
  pub below : list_all (λ (m : MethodRow). list_all (λ d. nat_lt d c) m.classes) x.methods ≡ true

abbrev pub MaybeReady : ℕ → Use → List FunctionRow → Option GenericRow → Type 0
MaybeReady c u fs None = list_any (λ (f : FunctionRow). is_that u.name f.name) fs ≡ false
MaybeReady c u fs (Some x) = RowReady c u x

abbrev pub IsReady : ℕ → Tables → Use → Type 0
IsReady c t u = MaybeReady c u t.functions (found u.name t.generics)

-- a list of classes below that class is none that has it

lower_line : (c : ℕ) (ds es : List ℕ) → list_all (λ d. nat_lt d c) ds ≡ true → list_any (λ d. d == c) es ≡ true → bytes_eq ds es ≡ false
lower_line c ds [] h k = absurd (cc k)
lower_line c [] (e ∷ es) h k = refl
lower_line c (d ∷ ds) (e ∷ es) h k =
    let l : (nat_lt d c ≡ true) × (list_all (λ d. nat_lt d c) ds ≡ true) = and_parts _ _ h in
    by_test (e == c) refl l.0 (lower_line c ds es l.1) k
  where
    none : (b : Bool) → (b && false) ≡ false
    none true = refl
    none false = refl

    by_test : (b : Bool) → (e == c) ≡ b → nat_lt d c ≡ true → (list_any (λ d. d == c) es ≡ true → bytes_eq ds es ≡ false) → (b || list_any (λ d. d == c) es) ≡ true
        → ((d == e) && bytes_eq ds es) ≡ false
    by_test true q l more k =
        let same : e ≡ c = eqb-true e c q in
        let lower : d < c = ltb-true d c l in
        ap (λ b. b && bytes_eq ds es) (ne_eqb d e (λ r. omega (arith, r, same, lower)))
    by_test false q l more k = ap (λ b. (d == e) && b) (more k) ∙ none (d == e)

class_last : (k : Accessor) (c : ℕ) → list_any (λ d. d == c) (classes_of k c) ≡ true
class_last Reads c = rw (eq-eqb c c refl) refl
class_last Writes c = by_test (0 == c)
  where
    by_test : (b : Bool) → (b || ((c == c) || false)) ≡ true
    by_test true = refl
    by_test false = rw (eq-eqb c c refl) refl
class_last Asks c = rw (eq-eqb c c refl) refl

pub no_method_of : (c : ℕ) (k : Accessor) (p : ℕ) (ms : List MethodRow) → list_all (λ (m : MethodRow). list_all (λ d. nat_lt d c) m.classes) ms ≡ true
    → list_any (λ m. same_method m (method_of (accessor_head k c) p)) ms ≡ false
no_method_of c k p [] h = refl
no_method_of c k p (m ∷ ms) h =
    let e : (list_all (λ d. nat_lt d c) m.classes ≡ true) × (list_all (λ (m : MethodRow). list_all (λ d. nat_lt d c) m.classes) ms ≡ true) = and_parts _ _ h in
    let other : same_method m (method_of (accessor_head k c) p) ≡ false =
    ap (λ b. is_qualifier m.qualifier Primary && b) (lower_line c m.classes (classes_of k c) e.0 (class_last k c)) ∙ none (is_qualifier m.qualifier Primary) in
    rw other (no_method_of c k p ms e.1)
  where
    none : (b : Bool) → (b && false) ≡ false
    none true = refl
    none false = refl

-- such a method fits

pub as_many_classes : (k : Accessor) (c : ℕ) → length (classes_of k c) ≡ arguments_of k
as_many_classes Reads c = refl
as_many_classes Writes c = refl
as_many_classes Asks c = refl

pub classes_there : (k : Accessor) (c n : ℕ) → c < n → list_all (λ d. nat_lt d n) (classes_of k c) ≡ true
classes_there Reads c n l = and_from _ _ (lt-ltb c n l) refl
classes_there Writes c n l = and_from _ _ (lt-ltb 0 n (omega (arith, l))) (and_from _ _ (lt-ltb c n l) refl)
classes_there Asks c n l = and_from _ _ (lt-ltb c n l) refl

no_more_taken : (a b : Bool) → a ≡ false → b ≡ false → (if b then a else not a) ≡ true
no_more_taken true b e f = absurd (cc e)
no_more_taken false true e f = absurd (cc f)
no_more_taken false false e f = refl

accessor_fits : (h : Definitions) (k : Accessor) (c p : ℕ) (x : GenericRow) → c < length h.classes.rows → x.required ≡ arguments_of k → x.rest ≡ false
    → TakenAt k h.procedures p → method_fits (rows_of h) x (method_of (accessor_head k c) p) ≡ true
accessor_fits h k c p x l required rest t =
    method_from (rows_of h) x (method_of (accessor_head k c) p) (record {
      count = eq-eqb (length (classes_of k c)) x.required (as_many_classes k c ∙ sym required);
      in_range = classes_there k c (length h.classes.rows) l;
      congruent = ap (is_congruent x) t.at
          ∙ and_from _ _ (eq-eqb (length t.procedure.required) x.required (t.is.count ∙ sym required)) (no_more_taken (is_some t.procedure.rest) x.rest t.is.more rest);
      alone = ap (is_alone true) t.at ∙ alone_more false t.procedure t.is.alone;
    })

-- the method of an option

pub record Accessed (c : ℕ) (n : Name) (t u : Tables) : Type 0 where
  pub joined : Joined (defined t) (defined u)
  pub classes : u.classes ≡ t.classes
  pub ready : (w : Use) → same_name n w.name ≡ false → IsReady c t w → IsReady c u w
  pub stands : (q : ℕ) → StandsBelow q (defined t) → StandsBelow q (defined u)

-- what is ready stays so beside a method of another name
pub ready_with : (c : ℕ) (t : Tables) (j : ℕ) (h : MethodHead) (p : ℕ) (n : Name) → ((x : GenericRow) → slice_get t.generics j ≡ Some x → same_name n x.name ≡ true) → (w : Use)
    → same_name n w.name ≡ false → IsReady c t w → IsReady c (with_method_at j h p t) w
ready_with c t j h p n f w d r =
    let same : found w.name (with_method_at j h p t).generics ≡ found w.name t.generics =
    ap (found w.name) (tables_with t t.generics j h p) ∙ found_with w.name t.generics j (method_of h p) (λ x e. other_third n w.name x.name d (f x e)) in
    subst (MaybeReady c w t.functions) (sym same) r

-- and beside a generic function of another name
pub ready_generic : (c : ℕ) (t : Tables) (n : Name) (required : ℕ) (rest of_file : Bool) (w : Use) → same_name n w.name ≡ false → IsReady c t w
    → IsReady c (with_generic n required rest of_file t) w
ready_generic c t n required rest of_file w d r =
    let turned : same_name w.name n ≡ false = other_way n.0 w.name.0 d in
    let same : found w.name (t.generics ++ new_row n required rest ∷ []) ≡ found w.name t.generics = found_behind w.name t.generics (new_row n required rest) turned in
    by_found (found w.name t.generics) same r turned
  where
    by_found : (o : Option GenericRow) → found w.name (t.generics ++ new_row n required rest ∷ []) ≡ o → MaybeReady c w t.functions o → same_name w.name n ≡ false
        → IsReady c (with_generic n required rest of_file t) w
    by_found None e r d =
        subst (MaybeReady c w (with_generic n required rest of_file t).functions) (sym e) (none_more (λ (f : FunctionRow). is_that w.name f.name) t.functions _ r d)
    by_found (Some x) e r d = subst (MaybeReady c w (with_generic n required rest of_file t).functions) (sym e) r

-- of one that is there
accessed_there : (c : ℕ) (n : Name) (k : Accessor) (t : Tables) (i p : ℕ) (x : GenericRow) → SoundDefinitions (defined t) → slice_get t.generics i ≡ Some x
    → same_name n x.name ≡ true → RowReady c (record { name = n; arguments = arguments_of k }) x → c < length t.classes.rows → TakenAt k t.procedures p
    → Accessed c n t (with_method_at i (accessor_head k c) p t)
accessed_there c n k t i p x w e same r l a =
    let h : MethodHead = accessor_head k c in
    let takes : TakesMethod (defined t) i (method_of h p) = record {
      takes = λ z q.
          let one : x ≡ z = cc (e, q) in
          subst (λ (z : GenericRow). (method_fits (rows_of (defined t)) z (method_of h p) ≡ true) × (list_any (λ j. same_method j (method_of h p)) z.methods ≡ false)) one
          (accessor_fits (defined t) k c p x l r.required r.rest a, no_method_of c k p x.methods r.below);
    } in
    record {
      joined = joined_method t i h p w takes;
      classes = refl;
      ready = λ v d q. ready_with c t i h p n (λ z f. let one : x ≡ z = cc (e, f) in ap (λ (y : GenericRow). same_name n y.name) (sym one) ∙ same) v d q;
      stands = λ q b. subst (λ (g : Definitions). StandsBelow q g) (method_defined t i h p) (stands_method q (defined t) i (method_of h p) b);
    }

-- of a new one
accessed_new : (c : ℕ) (n : Name) (k : Accessor) (of_file : Bool) (t : Tables) (p : ℕ) → SoundDefinitions (defined t)
    → list_any (λ (f : FunctionRow). is_that n f.name) t.functions ≡ false → c < length t.classes.rows → TakenAt k t.procedures p
    → Accessed c n t (with_method_at (length t.generics) (accessor_head k c) p (with_generic n (arguments_of k) false of_file t))
accessed_new c n k of_file t p w fresh l a =
    let u : Tables = with_generic n (arguments_of k) false of_file t in
    let x : GenericRow = new_row n (arguments_of k) false in
    let sound : SoundDefinitions (defined u) = sound_generic (defined t) n (arguments_of k) false w fresh in
    let rest : Accessed c n u (with_method_at (length t.generics) (accessor_head k c) p u) =
    accessed_there c n k u (length t.generics) p x sound (slice_get-behind t.generics x) (eq-eqb n.0 n.0 refl) (record { required = refl; rest = refl; below = refl }) l a in
    record {
      joined = joined_then (defined t) (defined u) _ (record {
        sound = sound;
        later = later_generic (defined t) n (arguments_of k) false;
        literals = refl;
        procedures = refl;
        main = refl;
        sites = refl;
      }) rest.joined;
      classes = refl;
      ready = λ v d q. rest.ready v d (ready_generic c t n (arguments_of k) false of_file v d q);
      stands = λ q b. rest.stands q (stands_generic q (defined t) n (arguments_of k) false b);
    }

accessed : (c : ℕ) (n : Name) (k : Accessor) (of_file : Bool) (t : Tables) (p : ℕ) (o : Option ℕ) → SoundDefinitions (defined t) → generic_named t.generics n ≡ o
    → IsReady c t (record { name = n; arguments = arguments_of k }) → c < length t.classes.rows → TakenAt k t.procedures p
    → Accessed c n t (with_accessor_in o n k c p of_file t)
accessed c n k of_file t p None w e r l a =
    accessed_new c n k of_file t p w (subst (MaybeReady c (record { name = n; arguments = arguments_of k }) t.functions) (found_none n t.generics e) r) l a
accessed c n k of_file t p (Some i) w e r l a = by_found (found n t.generics) refl r
  where
    by_found : (q : Option GenericRow) → found n t.generics ≡ q → MaybeReady c (record { name = n; arguments = arguments_of k }) t.functions q
        → Accessed c n t (with_method_at i (accessor_head k c) p t)
    by_found None f r = absurd (found_some n t.generics i e f)
    by_found (Some x) f r = accessed_there c n k t i p x w (found_named n t.generics i e ∙ f) (found_name n t.generics x f) r l a

-- one function after another

abbrev pub uses_of : List Function → List Use
uses_of fs = filter_map use_of fs

stands_alone_next : (q : ℕ) (g : Definitions) (p : Procedure) → slice_get g.procedures q ≡ Some p → is_alone false (Some p) ≡ true → StandsBelow q g → StandsBelow (q + 1) g
stands_alone_next q g p e a s = record {
  stands = λ i r b k. ⊎_elim (λ front. s.stands i r front k)
      (λ last.
      let at : slice_get g.procedures q ≡ Some r = ap (slice_get g.procedures) (sym last) ∙ k in
      let same : Some r ≡ Some p = sym at ∙ e in
      or_right (is_of_method (rows_of g) i) _ (ap (is_alone false) same ∙ a))
      (below_or i b);
}
  where
    below_or : (i : ℕ) → i < q + 1 → (i < q) ⊎ (i ≡ q)
    below_or i b = ⊎_elim inl (λ k. inr (omega (arith, k, b))) (cases_lt i q)

pub each_differs : (n : Name) (us : List Use) → list_any (λ (w : Use). same_name n w.name) us ≡ false → (c : ℕ) (t u : Tables)
    → ((w : Use) → same_name n w.name ≡ false → IsReady c t w → IsReady c u w) → AllOf (IsReady c t) us → AllOf (IsReady c u) us
each_differs n [] d c t u f r = tt
each_differs n (w ∷ us) d c t u f r =
    let o : (same_name n w.name ≡ false) × (list_any (λ (w : Use). same_name n w.name) us ≡ false) = or_parts (same_name n w.name) (list_any (λ (w : Use). same_name n w.name) us) d in
    (f w o.0 r.0, each_differs n us o.1 c t u f r.1)

pub functions_joined : (fs : List Function) (c p : ℕ) (of_file : Bool) (t : Tables) → SoundDefinitions (defined t) → c < length t.classes.rows → AllGiven fs
    → FunctionsMade p fs t.procedures → AllOf (IsReady c t) (uses_of fs) → names_differ (uses_of fs) ≡ true
    → Joins p (defined t) (defined (with_slot_functions (flat_map slot_function fs) c p of_file t))
functions_joined [] c p of_file t w l g m r d = record { joined = joined_same (defined t) w; stand = all_stand_below p (defined t) m }
functions_joined (for_initform x ∷ fs) c p of_file t w l g m r d =
    let rest : Joins (p + 1) (defined t) (defined (with_slot_functions (flat_map slot_function fs) c (p + 1) of_file t)) =
    functions_joined fs c (p + 1) of_file t w l g.1 m.1 r d in
    record { joined = rest.joined; stand = λ b. rest.stand (stands_alone_next p (defined t) m.0.procedure m.0.at m.0.is.alone b) }
functions_joined (for_method no_name k ∷ fs) c p of_file t w l g m r d = absurd g.0
functions_joined (for_method unfit k ∷ fs) c p of_file t w l g m r d = absurd g.0
functions_joined (for_method lacking k ∷ fs) c p of_file t w l g m r d = absurd g.0
functions_joined (for_method (given n) k ∷ fs) c p of_file t w l g m r d =
    let u : Tables = with_accessor_in (generic_named t.generics n) n k c p of_file t in
    let a : Accessed c n t u = accessed c n k of_file t p (generic_named t.generics n) w refl r.0 l m.0 in
    let e : (not (list_any (λ (w : Use). same_name n w.name) (uses_of fs)) ≡ true) × (names_differ (uses_of fs) ≡ true) =
    and_parts (not (list_any (λ (w : Use). same_name n w.name) (uses_of fs))) (names_differ (uses_of fs)) d in
    let rest : Joins (p + 1) (defined u) (defined (with_slot_functions (flat_map slot_function fs) c (p + 1) of_file u)) =
    functions_joined fs c (p + 1) of_file u a.joined.sound (subst (λ (h : Hierarchy). c < length h.rows) (sym a.classes) l) g.1
    (subst (λ (ps : List Procedure). FunctionsMade (p + 1) fs ps) (sym a.joined.procedures) m.1)
    (each_differs n (uses_of fs) (not-true (list_any (λ (w : Use). same_name n w.name) (uses_of fs)) e.0) c t u a.ready r.1) e.1 in
    record {
      joined = joined_then (defined t) (defined u) _ a.joined rest.joined;
      stand = λ b. rest.stand (a.stands (p + 1) (stands_alone_next p (defined t) m.0.procedure m.0.at m.0.is.alone b));
    }
