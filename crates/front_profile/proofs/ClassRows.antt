-- The row of the form that defines a class is apt.
use Rattle.std.proofs.Common.{◌+◌, ◌==◌, ◌≡◌, ◌≤◌, ◌<◌, ℕ, Bool, true, false, not, ◌&&◌, ◌||◌, List, [], ◌∷◌, ◌++◌, length, flat_map, is_some, Option, Some, None, if◌then◌else◌, refl, sym, ap, subst, ◌∙◌, length-append, append-nil, arith}
use Rattle.std.specs.Prelude.{All}
use Rattle.std.specs.List.{list_all, list_any}
use Rattle.std.specs.List.{cons_option}
use Rattle.std.proofs.lemmas.Bool.{and_parts, or_parts, not-true, not-false, eqb-true, leb-true, ltb-true, leb-false, ltb-false}
use Rattle.std.proofs.lemmas.List.Elements.{All-nil, All-cons}
use Rattle.base.specs.declared.place.Place.{Place}
use Rattle.base.specs.declared.datum.Name.{Name}
use Rattle.base.specs.Data.{Item}
use Rattle.base.specs.DataFormed.{formed_tells}
use Rattle.base.specs.AllOf.{AllOf, all_both}
use Rattle.base.specs.WellFormedData.{WellFormed}
use Rattle.lang_meaning.specs.declared.program.ClassRow.{ClassRow}
use Rattle.lang_meaning.specs.declared.program.GenericRow.{GenericRow}
use Rattle.lang_meaning.specs.declared.program.FunctionRow.{FunctionRow}
use Rattle.lang_classes.specs.Given.{given as given_slots, spec_names, is_wrong}
use Rattle.lang_classes.specs.InheritedPrecedence.{supers_fit}
use Rattle.lang_classes.specs.InheritedSlots.{same_name, each_first}
use Rattle.lang_classes.specs.InheritedClasses.{Hierarchy, IsHierarchy, GivenSlot, slots_given, class_named, inherited_names, slot_limit, with_class}
use Rattle.lang_derived.specs.Asked.{list_items}
use Rattle.front_profile.specs.declared.tables.Tables.{Tables}
use Rattle.front_profile.specs.declared.elaboration.NewClass.{NewClass}
use Rattle.front_profile.specs.Nodes.{StaticContext, Part}
use Rattle.front_profile.specs.Shapes.{symbol_of}
use Rattle.front_profile.specs.Elaborations.{generic_named, with_new_class, with_slot_functions, finish_class}
use Rattle.front_profile.specs.DefiningRows.{named, has_function, is_of_prelude, is_truth}
use Rattle.front_profile.specs.GivenNames.{no_name, unfit, lacking, given}
use Rattle.front_profile.specs.ClassShapes.{WrittenSlot, slots_in, WrittenSuper, supers_in, ClassOption, class_options, are_options, is_of_left_out, is_abstract}
use Rattle.front_profile.specs.GenericRows.{keeps, unless_unknown}
use Rattle.front_profile.specs.ClassRows.{Function, for_initform, for_method, functions_of, all_functions, Use, uses, is_lacking, is_of_function, is_kept_name, takes_it, row_named, fits_generic, names_differ, known_supers, first_unknown_super, are_supers, few_inherited, has_wrong_options, part_of, slot_parts, class_parts, slot_specs, slot_functions, class_made, class_in_text, class_of_prelude, is_taken_class, is_reserved_class, class_of, class_shaped, defclass_row}
use Rattle.front_profile.specs.bridge.SoundClasses.{sound_defclass}
use Rattle.front_profile.specs.Definitions.{Definitions, defined, Later, slot_fits, SoundDefinitions}
use Rattle.front_profile.proofs.DefiningRows.{no_function}
use Rattle.front_profile.proofs.Definitions.{literals_later, procedures_later, own_later, generics_later, functions_later, macros_later, mains_later, all_push}
use Rattle.front_profile.proofs.Procedures.{MadeFrom}
use Rattle.front_profile.proofs.Wanted.{AptAt, Stage}
use Rattle.front_profile.proofs.ValueRows.{class_there}
use Rattle.front_profile.proofs.MethodViews.{AllRight}
use Rattle.front_profile.proofs.Methods.{Joined, joined_then}
use Rattle.front_profile.proofs.GenericRows.{unless_functions}
use Rattle.front_profile.proofs.Joining.{IsFunctionPart, AllFunctions, Joins, FunctionsCame, WhereSound, where_test, where_within, where_defining, apt_joining}
use Rattle.front_profile.proofs.Slots.{MaybeSlots, named_slots, AllGiven, all_given, RightSlots, right_slots, names_of_specs, FunctionsMade, functions_made, slots_fit}
use Rattle.front_profile.proofs.Accessors.{found, found_named, found_none, found_some, MaybeReady, IsReady, functions_joined}
use Rattle.front_profile.specs.Known.{methods_there, KnownTables}
use Rattle.front_profile.proofs.Known.{sound_known}
use Rattle.front_profile.proofs.ClassRules.{ClassRules}

-- the parts of a class are functions

part_functions : (x : WrittenSlot) (f : Function) → AllFunctions (part_of x f)
part_functions x (for_initform d) = (tt, tt)
part_functions x (for_method no_name k) = tt
part_functions x (for_method unfit k) = tt
part_functions x (for_method lacking k) = tt
part_functions x (for_method (given n) k) = (refl, tt)

all_part_functions : (x : WrittenSlot) (fs : List Function) → AllFunctions (flat_map (part_of x) fs)
all_part_functions x [] = tt
all_part_functions x (f ∷ fs) = all_both IsFunctionPart (part_of x f) (flat_map (part_of x) fs) (part_functions x f) (all_part_functions x fs)

chosen_functions : (b : Bool) (xs ys : List Part) → AllFunctions xs → AllFunctions ys → AllFunctions (if b then xs else ys)
chosen_functions true xs ys f g = f
chosen_functions false xs ys f g = g

slot_part_functions : (inherited earlier : List Name) (xs : List WrittenSlot) → AllFunctions (slot_parts inherited earlier xs)
slot_part_functions inherited earlier [] = tt
slot_part_functions inherited earlier (x ∷ xs) =
    chosen_functions (has_wrong_options x || is_wrong x.name earlier (each_first (inherited ++ earlier))) _ _ (tt, tt)
    (all_both IsFunctionPart (flat_map (part_of x) (functions_of x)) (slot_parts inherited (earlier ++ x.name ∷ []) xs)
    (all_part_functions x (functions_of x)) (slot_part_functions inherited (earlier ++ x.name ∷ []) xs))

pub class_functions : (s : Tables) (cs : List WrittenSuper) (xs : List WrittenSlot) → AllFunctions (class_parts s cs xs)
class_functions s cs xs =
    unless_functions (first_unknown_super s.classes.rows cs) _ (slot_part_functions (inherited_names s.classes (known_supers s.classes.rows cs)) [] xs)

-- where none is wrong, these are the functions of all slots
pub right_parts : (p : Option Place) (xs : List Part) → AllRight (unless_unknown p xs) → unless_unknown p xs ≡ xs
right_parts None xs r = refl
right_parts (Some p) xs r = absurd r.0

-- superclasses that are known are there

-- a list of those that are there has each in range
abbrev Below : ℕ → Option ℕ → Type 0
Below n None = Unit {0}
Below n (Some c) = c < n

below_is : (rows : List ClassRow) (n : Name) (o : Option ℕ) → class_named rows n ≡ o → Below (length rows) o
below_is rows n None e = tt
below_is rows n (Some c) e = ltb-true c (length rows) (class_there rows n c e)

one_there : (n : ℕ) (o : Option ℕ) (cs : List ℕ) → Below n o → All (λ c. c < n) cs → All (λ c. c < n) (cons_option o cs)
one_there n None cs l a = a
one_there n (Some c) cs l a = All-cons (λ d. d < n) c cs l a

pub supers_there : (rows : List ClassRow) (cs : List WrittenSuper) → All (λ c. c < length rows) (known_supers rows cs)
supers_there rows [] = All-nil (λ c. c < length rows)
supers_there rows (c ∷ cs) =
    one_there (length rows) (class_named rows c.name) (known_supers rows cs) (below_is rows c.name (class_named rows c.name) refl) (supers_there rows cs)

-- the name of a class that is not taken is new

new_name : (of_file truth : Bool) (prelude : ℕ) (o : Option ℕ) → class_in_text of_file prelude o ≡ false → (truth || (of_file && class_of_prelude prelude o)) ≡ false → o ≡ None
new_name of_file truth prelude None h k = refl
new_name false truth prelude (Some c) h k = absurd (cc h)
new_name true true prelude (Some c) h k = absurd (cc k)
new_name true false prelude (Some c) h k =
    absurd (let a : c < prelude = leb-false prelude c h in let b : prelude ≤ c = ltb-false c prelude k in omega (arith, a, b))

-- the names of its functions are ready

free_use : (sited has prelude truth kept : Bool) → ((has && true) && not (sited && prelude)) ≡ false → (truth || (sited && (kept || prelude))) ≡ false → has ≡ false
free_use sited false prelude truth kept h k = refl
free_use false true prelude truth kept h k = absurd (cc h)
free_use true true false truth kept h k = absurd (cc h)
free_use true true true true kept h k = absurd (cc k)
free_use true true true false true h k = absurd (cc k)
free_use true true true false false h k = absurd (cc k)

found_there : (k : ℕ) (n : Name) (gs : List GenericRow) (x : GenericRow) → list_all (methods_there k) gs ≡ true → found n gs ≡ Some x → methods_there k x ≡ true
found_there k n [] x h e = absurd (cc e)
found_there k n (y ∷ gs) x h e =
    let w : (methods_there k y ≡ true) × (list_all (methods_there k) gs ≡ true) = and_parts _ _ h in
    by_test (same_name n y.name) (found_there k n gs x w.1) w.0 e
  where
    by_test : (b : Bool) → (found n gs ≡ Some x → methods_there k x ≡ true) → methods_there k y ≡ true → (if b then Some y else found n gs) ≡ Some x → methods_there k x ≡ true
    by_test true more h e = let same : y ≡ x = cc e in ap (methods_there k) (sym same) ∙ h
    by_test false more h e = more e

use_ready : (names : List (List ℕ)) (a : StaticContext) (s : Tables) (u : Use) (o : Option ℕ) → KnownTables s → generic_named s.generics u.name ≡ o
    → is_of_function a s u ≡ false → is_kept_name names a s u ≡ false → fits_generic s u ≡ true → IsReady (length s.classes.rows) s u
use_ready names a s u None w e f k t =
    let free : has_function s u.name ≡ false =
    free_use a.spot.sited (has_function s u.name) (is_of_prelude s u.name) (is_truth a s u.name) (keeps names u.name)
    (ap (λ q. (has_function s u.name && not (is_some q)) && not (a.spot.sited && is_of_prelude s u.name)) (sym e) ∙ f) k in
    subst (MaybeReady (length s.classes.rows) u s.functions) (sym (found_none u.name s.generics e)) (no_function s u.name free)
use_ready names a s u (Some i) w e f k t = by_found (found u.name s.generics) refl
  where
    by_found : (q : Option GenericRow) → found u.name s.generics ≡ q → MaybeReady (length s.classes.rows) u s.functions q
    by_found None q = absurd (found_some u.name s.generics i e q)
    by_found (Some x) q =
        let row : row_named s.generics (generic_named s.generics u.name) ≡ Some x = ap (row_named s.generics) e ∙ found_named u.name s.generics i e ∙ q in
        let takes : ((x.required == u.arguments) ≡ true) × (not x.rest ≡ true) = and_parts _ _ (ap (takes_it u.arguments) (sym row) ∙ t) in
        record {
          required = eqb-true x.required u.arguments takes.0;
          rest = not-true x.rest takes.1;
          below = found_there (length s.classes.rows) u.name s.generics x w.there q;
        }

uses_ready : (names : List (List ℕ)) (a : StaticContext) (s : Tables) (us : List Use) → KnownTables s → list_any (is_of_function a s) us ≡ false
    → list_any (is_kept_name names a s) us ≡ false → list_all (fits_generic s) us ≡ true → AllOf (IsReady (length s.classes.rows) s) us
uses_ready names a s [] w f k t = tt
uses_ready names a s (u ∷ us) w f k t =
    let p : (is_of_function a s u ≡ false) × (list_any (is_of_function a s) us ≡ false) = or_parts (is_of_function a s u) (list_any (is_of_function a s) us) f in
    let q : (is_kept_name names a s u ≡ false) × (list_any (is_kept_name names a s) us ≡ false) = or_parts (is_kept_name names a s u) (list_any (is_kept_name names a s) us) k in
    let r : (fits_generic s u ≡ true) × (list_all (fits_generic s) us ≡ true) = and_parts _ _ t in
    (use_ready names a s u (generic_named s.generics u.name) w refl p.0 q.0 r.0, uses_ready names a s us w p.1 q.1 r.1)

-- with a class more

pub rows_longer : (h : Hierarchy) (n : Name) (supers : List ℕ) (slots : List GivenSlot) (b : Bool) → length (with_class h n supers slots b).rows ≡ length h.rows + 1
unfolding with_class
rows_longer h n supers slots b = length-append h.rows _

own_said : (h : Hierarchy) (n : Name) (supers : List ℕ) (slots : List GivenSlot) (b : Bool) → (with_class h n supers slots b).own ≡ h.own ++ slots_given slots ∷ []
unfolding with_class
own_said h n supers slots b = refl

class_joined : (t : Tables) (c : NewClass) (of_file : Bool) → SoundDefinitions (defined t) → IsHierarchy (with_class t.classes c.name c.supers (given_slots c.slots) c.abstract_class)
    → list_all (slot_fits (defined t)) (slots_given (given_slots c.slots)) ≡ true → Joined (defined t) (defined (with_new_class c of_file t))
class_joined t c of_file w hierarchy fit =
    let g : Definitions = defined t in
    let h : Definitions = defined (with_new_class c of_file t) in
    let longer : length h.classes.rows ≡ length g.classes.rows + 1 = rows_longer t.classes c.name c.supers (given_slots c.slots) c.abstract_class in
    let l : Later g h = record {
      literals = omega arith;
      procedures = omega arith;
      kept = λ i q e. e;
      classes = omega (arith, longer);
      generics = omega arith;
      sites = omega arith;
      variables = omega arith;
      exits = omega arith;
    } in
    record {
      sound = record {
        literals = literals_later g h l g.literals w.literals;
        procedures = procedures_later g h l g.procedures w.procedures;
        classes = record {
          hierarchy = hierarchy;
          slots = ap (list_all (λ slots. list_all (slot_fits h) slots)) (own_said t.classes c.name c.supers (given_slots c.slots) c.abstract_class)
              ∙ all_push (λ slots. list_all (slot_fits h) slots) t.classes.own (slots_given (given_slots c.slots)) (own_later g h l t.classes.own w.classes.slots) fit;
        };
        generics = record { fit = generics_later g h l g.generics w.generics.fit; names = w.generics.names; named = w.generics.named };
        functions = functions_later g h l g.functions w.functions;
        names = w.names;
        macros = macros_later g h l g.macros w.macros;
        main = mains_later g h l g.main w.main;
      };
      later = l;
      literals = refl;
      procedures = refl;
      main = refl;
      sites = refl;
    }

-- what a class definition is judged by
pub record Judged (s : Tables) (n : Name) (cs : List WrittenSuper) (xs : List WrittenSlot) : Type 0 where
  pub new : class_named s.classes.rows n ≡ None
  pub supers : supers_fit s.classes.rows (known_supers s.classes.rows cs) ≡ true
  pub few : length (each_first (inherited_names s.classes (known_supers s.classes.rows cs))) ≤ slot_limit
  pub given : AllGiven (all_functions xs)
  pub ready : AllOf (IsReady (length s.classes.rows) s) (uses xs)
  pub differ : names_differ (uses xs) ≡ true

-- what its tests say of it, one after another
pub judged : (names : List (List ℕ)) (a : StaticContext) (s : Tables) (n : Name) (cs : List WrittenSuper) (xs : List WrittenSlot) → KnownTables s → MaybeSlots (Some xs)
    → list_any is_lacking (all_functions xs) ≡ false → (is_taken_class a s n || list_any (is_of_function a s) (uses xs)) ≡ false
    → (is_reserved_class a s n || list_any (is_kept_name names a s) (uses xs)) ≡ false → not (are_supers s cs) ≡ false → not (few_inherited s cs) ≡ false
    → (list_all (fits_generic s) (uses xs) && names_differ (uses xs)) ≡ true → Judged s n cs xs
judged names a s n cs xs w written there taken reserved supers few fit =
    let t : (is_taken_class a s n ≡ false) × (list_any (is_of_function a s) (uses xs) ≡ false) = or_parts (is_taken_class a s n) (list_any (is_of_function a s) (uses xs)) taken in
    let r : (is_reserved_class a s n ≡ false) × (list_any (is_kept_name names a s) (uses xs) ≡ false) =
    or_parts (is_reserved_class a s n) (list_any (is_kept_name names a s) (uses xs)) reserved in
    let both : (list_all (fits_generic s) (uses xs) ≡ true) × (names_differ (uses xs) ≡ true) = and_parts _ _ fit in
    record {
      new = new_name a.spot.sited (is_truth a s n) s.prelude_classes (class_named s.classes.rows n) t.0 r.0;
      supers = (and_parts (supers_fit s.classes.rows (known_supers s.classes.rows cs)) _ (not-false (are_supers s cs) supers)).0;
      few = leb-true _ slot_limit (not-false (few_inherited s cs) few);
      given = all_given (all_functions xs) written there;
      ready = uses_ready names a s (uses xs) w t.1 r.1 both.0;
      differ = both.1;
    }

-- what is ready stays so where the same is defined
pub ready_same : (c : ℕ) (s t : Tables) (us : List Use) → t.generics ≡ s.generics → t.functions ≡ s.functions → AllOf (IsReady c s) us → AllOf (IsReady c t) us
ready_same c s t [] e f r = tt
ready_same c s t (u ∷ us) e f r = (
  subst (λ (fs : List FunctionRow). MaybeReady c u fs (found u.name t.generics)) (sym f)
      (subst (λ (gs : List GenericRow). MaybeReady c u s.functions (found u.name gs)) (sym e) r.0),
  ready_same c s t us e f r.1,
)

class_finished : (rules : ClassRules) (s : Tables) (n : Name) (cs : List WrittenSuper) (xs : List WrittenSlot) (b of_file : Bool) (u : Tables) → SoundDefinitions (defined s)
    → Judged s n cs xs → FunctionsCame s (class_parts s cs xs) u
    → Joins (length s.procedures) (defined u) (defined (finish_class (record {
      name = n;
      supers = known_supers s.classes.rows cs;
      abstract_class = b;
      slots = slot_specs (length s.procedures) xs;
      functions = slot_functions xs;
    }) (length s.procedures) of_file u))
class_finished rules s n cs xs b of_file u w j c =
    let p : ℕ = length s.procedures in
    let supers : List ℕ = known_supers s.classes.rows cs in
    let inherited : List Name = inherited_names s.classes supers in
    let new : NewClass = record { name = n; supers = supers; abstract_class = b; slots = slot_specs p xs; functions = slot_functions xs } in
    let whole : class_parts s cs xs ≡ slot_parts inherited [] xs = right_parts (first_unknown_super s.classes.rows cs) (slot_parts inherited [] xs) c.right in
    let slots : RightSlots inherited [] xs = right_slots rules.names inherited [] xs (subst AllRight whole c.right) in
    let made : FunctionsMade p (all_functions xs) u.procedures =
    functions_made xs u.procedures j.given p (subst (λ (ys : List Part). MadeFrom p ys u.procedures) (whole ∙ slots.parts) c.made) in
    let none : inherited ++ [] ≡ inherited = append-nil inherited in
    let few : length (each_first (inherited ++ spec_names (slot_specs p xs))) ≤ slot_limit =
    subst (λ (ns : List Name). length (each_first (inherited ++ ns)) ≤ slot_limit) (sym (names_of_specs p xs))
    (slots.few (subst (λ (ns : List Name). length (each_first ns) ≤ slot_limit) (sym none) j.few)) in
    let here : IsHierarchy (with_class s.classes n supers (given_slots (slot_specs p xs)) b) =
    rules.hierarchies s.classes n supers (slot_specs p xs) b w.classes.hierarchy j.new (supers_there s.classes.rows cs) j.supers few in
    let hierarchy : IsHierarchy (with_class u.classes n supers (given_slots (slot_specs p xs)) b) =
    subst (λ (h : Hierarchy). IsHierarchy (with_class h n supers (given_slots (slot_specs p xs)) b)) (sym c.same.classes) here in
    let t : Tables = with_new_class new of_file u in
    let one : Joined (defined u) (defined t) = class_joined u new of_file c.sound hierarchy (slots_fit (defined u) xs p made) in
    let count : length u.classes.rows ≡ length s.classes.rows = ap (λ (h : Hierarchy). length h.rows) c.same.classes in
    let longer : length t.classes.rows ≡ length u.classes.rows + 1 = rows_longer u.classes n supers (given_slots (slot_specs p xs)) b in
    let ready : AllOf (IsReady (length u.classes.rows) t) (uses xs) =
    ready_same (length u.classes.rows) s t (uses xs) c.same.generics c.same.functions (subst (λ (k : ℕ). AllOf (IsReady k s) (uses xs)) (sym count) j.ready) in
    let rest : Joins p (defined t) (defined (with_slot_functions (slot_functions xs) (length u.classes.rows) p of_file t)) =
    functions_joined (all_functions xs) (length u.classes.rows) p of_file t one.sound (omega (arith, longer)) j.given made ready j.differ in
    record {
      joined = joined_then (defined u) (defined t) _ one rest.joined;
      stand = λ k. rest.stand (record { stands = λ i q l e. k.stands i q l e });
    }

-- the row

class_made_apt : (rules : ClassRules) (n : ℕ) (a : StaticContext) (s : Tables) (d : Item) (name : Name) (cs : List WrittenSuper) (xs : List WrittenSlot) (os : List ClassOption) → Stage a s
    → WellFormed n d → a.spot.top ≡ true → a.spot.depth + 1 ≤ 1000 → Judged s name cs xs → WhereSound n a s (class_made a s d name cs xs os)
class_made_apt rules n a s d name cs xs os b g top l j =
    apt_joining n a s d (class_parts s cs xs) _ b (formed_tells d g.formed) top l (class_functions s cs xs) (λ rs. refl)
    (λ u rs c. class_finished rules s name cs xs (is_abstract os) a.spot.sited u b.whole j c)

class_of_apt : (rules : ClassRules) (names : List (List ℕ)) (n : ℕ) (a : StaticContext) (s : Tables) (p : Place) (d : Item) (name : Name) (cs : List WrittenSuper) (xs : List WrittenSlot) (os : List ClassOption)
    → Stage a s → WellFormed n d → MaybeSlots (Some xs) → WhereSound n a s (class_of names a s p d name cs xs os)
class_of_apt rules names n a s p d name cs xs os b g named =
    where_test n a s (list_any is_lacking (all_functions xs)) _ _ (λ e q. tt) (λ given.
    where_defining n a s p a.spot.top (is_taken_class a s name || list_any (is_of_function a s) (uses xs))
    (is_reserved_class a s name || list_any (is_kept_name names a s) (uses xs)) _ (λ top taken reserved.
    where_test n a s (list_any is_of_left_out os) _ _ (λ e q. tt) (λ e.
    where_within n a s p _ (λ l.
    where_test n a s (not (are_supers s cs)) _ _ (λ f q. tt) (λ supers.
    where_test n a s (not (few_inherited s cs)) _ _ (λ f q. tt) (λ few.
    where_test n a s (list_all (fits_generic s) (uses xs) && names_differ (uses xs)) _ _ (λ fit.
    class_made_apt rules n a s d name cs xs os b g top l (judged names a s name cs xs (sound_known s b.whole) named given taken reserved supers few fit)) (λ f q. tt)))))))

class_shaped_apt : (rules : ClassRules) (names : List (List ℕ)) (n : ℕ) (a : StaticContext) (s : Tables) (p : Place) (d : Item) (name : Option Name) (cs : Option (List WrittenSuper)) (xs : Option (List WrittenSlot)) (os : List ClassOption)
    → Stage a s → WellFormed n d → MaybeSlots xs → WhereSound n a s (class_shaped names a s p d name cs xs os)
class_shaped_apt rules names n a s p d None cs xs os b g m = λ q. tt
class_shaped_apt rules names n a s p d (Some name) None xs os b g m = λ q. tt
class_shaped_apt rules names n a s p d (Some name) (Some cs) None os b g m = λ q. tt
class_shaped_apt rules names n a s p d (Some name) (Some cs) (Some xs) os b g m =
    where_test n a s (are_options os) _ _ (λ e. class_of_apt rules names n a s p d name cs xs os b g m) (λ e q. tt)

defclass_apt : (rules : ClassRules) (names : List (List ℕ)) (n : ℕ) (a : StaticContext) (s : Tables) (p : Place) (ds : List Item) → Stage a s → AllOf (WellFormed n) ds
    → WhereSound n a s (defclass_row names a s p ds)
defclass_apt rules names n a s p [] b g = λ q. tt
defclass_apt rules names n a s p (d ∷ []) b g = λ q. tt
defclass_apt rules names n a s p (d ∷ cs ∷ []) b g = λ q. tt
defclass_apt rules names n a s p (d ∷ cs ∷ xs ∷ os) b g =
    class_shaped_apt rules names n a s p d (named (symbol_of d)) (supers_in (list_items cs)) (slots_in names (list_items xs)) (class_options names os) b g.0
    (named_slots names (list_items xs))

pub apt_defclass : (rules : ClassRules) (names : List (List ℕ)) (n : ℕ) (a : StaticContext) (s : Tables) (p : Place) (ds : List Item) → Stage a s → AllOf (WellFormed n) ds
    → AptAt n a s (defclass_row names a s p ds)
apt_defclass rules names n a s p ds b g = defclass_apt rules names n a s p ds b g (sound_defclass names n a s p ds g)
