-- A class that is judged to be right suits the tables behind its functions, and so do its methods, one after another.
use Rattle.std.proofs.Common.{◌+◌, ◌≡◌, ◌≤◌, ◌<◌, ℕ, nat_lt, Bool, true, false, not, List, [], ◌∷◌, length, flat_map, slice_get, option_map, Option, Some, None, if◌then◌else◌, refl, sym, ap, subst, ◌∙◌, arith}
use Rattle.std.specs.Prelude.{All}
use Rattle.std.specs.List.{list_any}
use Rattle.std.proofs.lemmas.Bool.{and_parts, and_from, not-true, eq-eqb, ltb-true, lt-ltb, le-ltb}
use Rattle.std.proofs.lemmas.Option.{slice_get_within}
use Rattle.base.specs.declared.datum.Name.{Name}
use Rattle.base.specs.declared.place.Place.{Place}
use Rattle.base.specs.declared.reason.Reason.TheVariants.{BadSupers}
use Rattle.base.specs.Names.{slice_get-behind}
use Rattle.base.specs.AllOf.{AllOf}
use Rattle.lang_meaning.specs.declared.program.GenericRow.{GenericRow}
use Rattle.lang_meaning.specs.declared.program.FunctionRow.{FunctionRow}
use Rattle.lang_classes.specs.Given.{given as given_slots}
use Rattle.lang_classes.specs.InheritedPrecedence.{supers_fit}
use Rattle.lang_classes.specs.InheritedSlots.{same_name, each_first}
use Rattle.lang_classes.specs.InheritedClasses.{Hierarchy, GivenSlot, class_named, inherited_names, slot_limit, bad_slot, first_wrong, slots_refusal, refusal}
use Rattle.lang_classes.specs.Keeping.{KeepsNames}
use Rattle.front_profile.specs.declared.tables.Tables.{Tables}
use Rattle.front_profile.specs.declared.elaboration.Accessor.{Accessor}
use Rattle.front_profile.specs.declared.elaboration.MethodHead.{MethodHead}
use Rattle.front_profile.specs.declared.elaboration.NewClass.{NewClass}
use Rattle.front_profile.specs.Elaborations.{generic_named, arguments_of, accessor_head, classes_of, with_generic, with_accessor_in, with_slot_functions, with_new_class, finish_class}
use Rattle.front_profile.specs.DefiningRows.{is_that}
use Rattle.front_profile.specs.GivenNames.{no_name, unfit, lacking, given}
use Rattle.front_profile.specs.ClassShapes.{WrittenSlot, WrittenSuper}
use Rattle.front_profile.specs.ClassRows.{Function, for_initform, for_method, all_functions, Use, uses, names_differ, known_supers, first_unknown_super, slot_function, slot_parts, class_parts, slot_specs, slot_functions}
use Rattle.front_profile.specs.Suits.{takes_head, SuitsClass, SuitsAccessorIn, SuitsFunctions}
use Rattle.front_profile.specs.Below.{SameNames}
use Rattle.front_profile.specs.Known.{methods_there, KnownTables}
use Rattle.front_profile.proofs.Tests.{all_more}
use Rattle.front_profile.proofs.Adding.{new_row, method_of}
use Rattle.front_profile.proofs.MethodViews.{AllRight}
use Rattle.front_profile.proofs.Methods.{none_turned}
use Rattle.front_profile.proofs.Slots.{AllGiven, RightSlots, right_slots}
use Rattle.front_profile.proofs.Accessors.{found, found_named, found_none, found_some, found_name, RowReady, MaybeReady, IsReady, no_method_of, as_many_classes, classes_there, ready_with, ready_generic, uses_of, each_differs}
use Rattle.front_profile.proofs.ClassRows.{right_parts, supers_there, rows_longer, Judged, ready_same}
use Rattle.front_profile.proofs.Known.{known_same, name_suits, known_generic, known_method}
use Rattle.front_profile.proofs.SuitedMethods.{same_as_itself}

-- the method of an option suits the tables, and what is known and ready stays so

record AccessorSuited (o : Option ℕ) (n : Name) (k : Accessor) (c p : ℕ) (of_file : Bool) (t : Tables) : Type 0 where
  suits : SuitsAccessorIn o n k c p of_file t
  known : KnownTables (with_accessor_in o n k c p of_file t)
  classes : (with_accessor_in o n k c p of_file t).classes ≡ t.classes
  ready : (w : Use) → same_name n w.name ≡ false → IsReady c t w → IsReady c (with_accessor_in o n k c p of_file t) w

-- of a generic function that is there
suited_there : (i : ℕ) (n : Name) (k : Accessor) (c p : ℕ) (of_file : Bool) (t : Tables) (x : GenericRow) → KnownTables t → slice_get t.generics i ≡ Some x
    → same_name n x.name ≡ true → RowReady c (record { name = n; arguments = arguments_of k }) x → c < length t.classes.rows → AccessorSuited (Some i) n k c p of_file t
suited_there i n k c p of_file t x w e same r l =
    let h : MethodHead = accessor_head k c in
    record {
      suits = record {
        there = slice_get_within t.generics i x e;
        takes = ap (takes_head h p) e
            ∙ and_from _ _ (and_from _ _ (eq-eqb (length (classes_of k c)) x.required (as_many_classes k c ∙ sym r.required)) (same_as_itself x.rest))
            (ap not (none_turned (method_of h p) x.methods (no_method_of c k p x.methods r.below)));
      };
      known = known_method t i h p w (classes_there k c (length t.classes.rows) l);
      classes = refl;
      ready = λ v d q. ready_with c t i h p n (λ z f. let one : x ≡ z = cc (e, f) in ap (λ (y : GenericRow). same_name n y.name) (sym one) ∙ same) v d q;
    }

-- of a new one
suited_new : (n : Name) (k : Accessor) (c p : ℕ) (of_file : Bool) (t : Tables) → KnownTables t → list_any (λ (f : FunctionRow). is_that n f.name) t.functions ≡ false
    → c < length t.classes.rows → AccessorSuited None n k c p of_file t
suited_new n k c p of_file t w fresh l =
    let u : Tables = with_generic n (arguments_of k) false of_file t in
    let x : GenericRow = new_row n (arguments_of k) false in
    let one : AccessorSuited (Some (length t.generics)) n k c p of_file u =
    suited_there (length t.generics) n k c p of_file u x (known_generic t n (arguments_of k) false of_file w) (slice_get-behind t.generics x) (eq-eqb n.0 n.0 refl)
    (record { required = refl; rest = refl; below = refl }) l in
    record {
      suits = (name_suits t n w fresh, one.suits);
      known = one.known;
      classes = refl;
      ready = λ v d q. one.ready v d (ready_generic c t n (arguments_of k) false of_file v d q);
    }

-- of either
suited : (o : Option ℕ) (n : Name) (k : Accessor) (c p : ℕ) (of_file : Bool) (t : Tables) → KnownTables t → generic_named t.generics n ≡ o
    → IsReady c t (record { name = n; arguments = arguments_of k }) → c < length t.classes.rows → AccessorSuited o n k c p of_file t
suited None n k c p of_file t w e r l =
    suited_new n k c p of_file t w (subst (MaybeReady c (record { name = n; arguments = arguments_of k }) t.functions) (found_none n t.generics e) r) l
suited (Some i) n k c p of_file t w e r l = by_found (found n t.generics) refl r
  where
    by_found : (q : Option GenericRow) → found n t.generics ≡ q → MaybeReady c (record { name = n; arguments = arguments_of k }) t.functions q
        → AccessorSuited (Some i) n k c p of_file t
    by_found None f r = absurd (found_some n t.generics i e f)
    by_found (Some x) f r = suited_there i n k c p of_file t x w (found_named n t.generics i e ∙ f) (found_name n t.generics x f) r l

-- one function after another
functions_suit : (fs : List Function) (c p : ℕ) (of_file : Bool) (t : Tables) → KnownTables t → c < length t.classes.rows → AllGiven fs → AllOf (IsReady c t) (uses_of fs)
    → names_differ (uses_of fs) ≡ true
    → SuitsFunctions (flat_map slot_function fs) c p of_file t × KnownTables (with_slot_functions (flat_map slot_function fs) c p of_file t)
functions_suit [] c p of_file t w l g r d = (tt, w)
functions_suit (for_initform x ∷ fs) c p of_file t w l g r d =
    let rest : SuitsFunctions (flat_map slot_function fs) c (p + 1) of_file t × KnownTables (with_slot_functions (flat_map slot_function fs) c (p + 1) of_file t) =
    functions_suit fs c (p + 1) of_file t w l g.1 r d in
    ((tt, rest.0), rest.1)
functions_suit (for_method no_name k ∷ fs) c p of_file t w l g r d = absurd g.0
functions_suit (for_method unfit k ∷ fs) c p of_file t w l g r d = absurd g.0
functions_suit (for_method lacking k ∷ fs) c p of_file t w l g r d = absurd g.0
functions_suit (for_method (given n) k ∷ fs) c p of_file t w l g r d =
    let u : Tables = with_accessor_in (generic_named t.generics n) n k c p of_file t in
    let a : AccessorSuited (generic_named t.generics n) n k c p of_file t = suited (generic_named t.generics n) n k c p of_file t w refl r.0 l in
    let e : (not (list_any (λ (w : Use). same_name n w.name) (uses_of fs)) ≡ true) × (names_differ (uses_of fs) ≡ true) =
    and_parts (not (list_any (λ (w : Use). same_name n w.name) (uses_of fs))) (names_differ (uses_of fs)) d in
    let rest : SuitsFunctions (flat_map slot_function fs) c (p + 1) of_file u × KnownTables (with_slot_functions (flat_map slot_function fs) c (p + 1) of_file u) =
    functions_suit fs c (p + 1) of_file u a.known (subst (λ (h : Hierarchy). c < length h.rows) (sym a.classes) l) g.1
    (each_differs n (uses_of fs) (not-true (list_any (λ (w : Use). same_name n w.name) (uses_of fs)) e.0) c t u a.ready r.1) e.1 in
    ((a.suits, rest.0), rest.1)

-- a class whose superclasses go together and whose slots are right is not refused
not_refused : (h : Hierarchy) (q : Place) (supers : List ℕ) (slots : List GivenSlot) → supers_fit h.rows supers ≡ true → length (each_first (inherited_names h supers)) ≤ slot_limit
    → first_wrong (inherited_names h supers) [] slots ≡ None → refusal h q supers slots ≡ None
unfolding refusal slots_refusal
not_refused h q supers slots fit few none =
    ap (λ b. if b then slots_refusal q (inherited_names h supers) slots else Some (record { place = q; reason = BadSupers })) fit
    ∙ ap (λ b. if b then Some (bad_slot q) else option_map bad_slot (first_wrong (inherited_names h supers) [] slots)) (le-ltb slot_limit (length (each_first (inherited_names h supers))) few)
    ∙ ap (option_map bad_slot) none

-- with a class more
known_class : (t : Tables) (c : NewClass) (of_file : Bool) → KnownTables t → KnownTables (with_new_class c of_file t)
known_class t c of_file w =
    let m : ℕ = length t.classes.rows in
    let u : Tables = with_new_class c of_file t in
    let longer : length u.classes.rows ≡ m + 1 = rows_longer t.classes c.name c.supers (given_slots c.slots) c.abstract_class in
    record {
      some = omega (arith, longer);
      named = w.named;
      there = all_more (methods_there m) (methods_there (length u.classes.rows)) (λ x. all_more _ _ (λ y. all_more _ _ (λ z. more z m (length u.classes.rows) longer) y.classes) x.methods)
          t.generics w.there;
    }
  where
    more : (z m n : ℕ) → n ≡ m + 1 → nat_lt z m ≡ true → nat_lt z n ≡ true
    more z m n e h = let l : z < m = ltb-true z m h in lt-ltb z n (omega (arith, l, e))

-- a class with its functions

-- the class of a definition
abbrev pub class_of : Name → List ℕ → Bool → ℕ → List WrittenSlot → NewClass
class_of n supers b p xs = record { name = n; supers = supers; abstract_class = b; slots = slot_specs p xs; functions = slot_functions xs }

-- it suits the tables, and so do its functions behind it
pub class_suits : KeepsNames → (s : Tables) (n : Name) (cs : List WrittenSuper) (xs : List WrittenSlot) (b : Bool) (p : ℕ) (of_file : Bool) (u : Tables) → KnownTables s
    → SameNames s u → Judged s n cs xs → AllRight (class_parts s cs xs)
    → let new : NewClass = class_of n (known_supers s.classes.rows cs) b p xs in
    (SuitsClass new u × SuitsFunctions new.functions (length u.classes.rows) p of_file (with_new_class new of_file u)) × KnownTables (finish_class new p of_file u)
class_suits keep s n cs xs b p of_file u w e j r =
    let supers : List ℕ = known_supers s.classes.rows cs in
    let inherited : List Name = inherited_names s.classes supers in
    let class : NewClass = class_of n supers b p xs in
    let right : AllRight (slot_parts inherited [] xs) = subst AllRight (right_parts (first_unknown_super s.classes.rows cs) (slot_parts inherited [] xs) r) r in
    let slots : RightSlots inherited [] xs = right_slots keep inherited [] xs right in
    let one : SuitsClass class u = record {
      new = ap (λ (h : Hierarchy). class_named h.rows n) e.classes ∙ j.new;
      there = subst (λ (h : Hierarchy). All (λ super. super < length h.rows) supers) (sym e.classes) (supers_there s.classes.rows cs);
      right = λ q.
          subst (λ (h : Hierarchy). refusal h q supers (given_slots (slot_specs p xs)) ≡ None) (sym e.classes)
          (not_refused s.classes q supers (given_slots (slot_specs p xs)) j.supers j.few (slots.none_wrong p));
    } in
    let c : ℕ = length u.classes.rows in
    let t : Tables = with_new_class class of_file u in
    let longer : length t.classes.rows ≡ c + 1 = rows_longer u.classes n supers (given_slots (slot_specs p xs)) b in
    let count : c ≡ length s.classes.rows = ap (λ (h : Hierarchy). length h.rows) e.classes in
    let ready : AllOf (IsReady c t) (uses xs) = ready_same c s t (uses xs) e.generics e.functions (subst (λ (k : ℕ). AllOf (IsReady k s) (uses xs)) (sym count) j.ready) in
    let rest : SuitsFunctions (slot_functions xs) c p of_file t × KnownTables (with_slot_functions (slot_functions xs) c p of_file t) =
    functions_suit (all_functions xs) c p of_file t (known_class u class of_file (known_same s u e w)) (omega (arith, longer)) j.given ready j.differ in
    ((one, rest.0), rest.1)
