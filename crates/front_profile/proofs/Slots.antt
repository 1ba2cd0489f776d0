-- Slots of a class definition: their functions have names, their number is within the limit, and their procedures are there.
use Rattle.std.proofs.Common.{◌+◌, ◌≡◌, ◌≤◌, ℕ, nat_lt, Bool, true, false, not, ◌&&◌, ◌||◌, List, [], ◌∷◌, ◌++◌, length, map, flat_map, slice_get, is_some, Option, Some, None, if◌then◌else◌, refl, sym, ap, subst, ◌∙◌, append_assoc, append-nil, codes, arith}
use Rattle.std.specs.List.{list_all, list_any}
use Rattle.std.proofs.lemmas.Bool.{and_from, or_parts, eq-eqb, ltb-false}
use Rattle.base.specs.declared.place.Place.{Place}
use Rattle.base.specs.declared.datum.Name.{Name}
use Rattle.base.specs.declared.datum.Symbol.{Symbol}
use Rattle.base.specs.declared.datum.Symbol.TheVariants.{Named, Fresh}
use Rattle.base.specs.declared.reason.Reason.TheVariants.{BadSlot}
use Rattle.base.specs.Data.{Item, place_of}
use Rattle.base.specs.DataNames.{symbol_text}
use Rattle.base.specs.AllOf.{AllOf, all_both}
use Rattle.lang_meaning.specs.declared.program.Procedure.{Procedure}
use Rattle.lang_meaning.specs.Standing.{is_alone}
use Rattle.lang_meaning.specs.Facts.{initform_fits}
use Rattle.lang_classes.specs.Given.{given as given_slots, spec_names, is_wrong}
use Rattle.lang_classes.specs.InheritedClasses.{slots_given, slot_limit, first_wrong}
use Rattle.lang_classes.specs.InheritedSlots.{has_name, each_first, with_name}
use Rattle.lang_classes.specs.Keeping.{KeepsNames}
use Rattle.lang_derived.specs.Asked.{list_items, is_word}
use Rattle.front_profile.specs.declared.elaboration.Accessor.{Accessor}
use Rattle.front_profile.specs.declared.elaboration.Accessor.TheVariants.{Reads, Writes, Asks}
use Rattle.front_profile.specs.Nodes.{Part, wrong}
use Rattle.front_profile.specs.Elaborations.{arguments_of}
use Rattle.front_profile.specs.Shapes.{symbol_of, name_of}
use Rattle.front_profile.specs.GivenNames.{GivenName, no_name, unfit, lacking, given, given_name, setter_of_text}
use Rattle.front_profile.specs.ClassShapes.{SlotOption, wrong_option, initform_of, initarg_by, method_by, accessor_with, accessor_by, slot_option, option_and, slot_options, WrittenSlot, slot_with, name_in, slot_in_list, slot_by, slot_and, each_slot, slots_in}
use Rattle.front_profile.specs.ClassRows.{Function, for_initform, for_method, functions_of_option, functions_of, all_functions, is_lacking, has_wrong_options, part_of, slot_parts, initform_from, slot_specs}
use Rattle.front_profile.specs.Definitions.{Definitions, rows_of, takes_nothing, initform_takes_nothing, slot_fits}
use Rattle.front_profile.proofs.Procedures.{Takes, MadeFrom}
use Rattle.front_profile.proofs.MethodViews.{IsRight, AllRight, each_front, each_behind}

-- functions of methods whose names are names, or lack

abbrev IsNamed : Function → Type 0
IsNamed (for_initform d) = Unit {0}
IsNamed (for_method no_name k) = ⊥
IsNamed (for_method unfit k) = ⊥
IsNamed (for_method lacking k) = Unit {0}
IsNamed (for_method (given n) k) = Unit {0}

abbrev AllNamed : List Function → Type 0
AllNamed fs = AllOf IsNamed fs

abbrev NamedOption : SlotOption → Type 0
NamedOption o = AllNamed (functions_of_option o)

abbrev MaybeOption : Option SlotOption → Type 0
MaybeOption None = Unit {0}
MaybeOption (Some o) = NamedOption o

abbrev MaybeOptions : Option (List SlotOption) → Type 0
MaybeOptions None = Unit {0}
MaybeOptions (Some os) = AllNamed (flat_map functions_of_option os)

abbrev MaybeSlot : Option WrittenSlot → Type 0
MaybeSlot None = Unit {0}
MaybeSlot (Some x) = AllNamed (functions_of x)

abbrev pub MaybeSlots : Option (List WrittenSlot) → Type 0
MaybeSlots None = Unit {0}
MaybeSlots (Some xs) = AllNamed (all_functions xs)

first_of : (a b c e f h : Bool) (o1 o2 o3 o4 o5 o6 o7 : Option SlotOption) → MaybeOption o1 → MaybeOption o2 → MaybeOption o3 → MaybeOption o4 → MaybeOption o5 → MaybeOption o6
    → MaybeOption o7 → MaybeOption (if a then o1 else if b then o2 else if c then o3 else if e then o4 else if f then o5 else if h then o6 else o7)
first_of true b c e f h o1 o2 o3 o4 o5 o6 o7 g1 g2 g3 g4 g5 g6 g7 = g1
first_of false true c e f h o1 o2 o3 o4 o5 o6 o7 g1 g2 g3 g4 g5 g6 g7 = g2
first_of false false true e f h o1 o2 o3 o4 o5 o6 o7 g1 g2 g3 g4 g5 g6 g7 = g3
first_of false false false true f h o1 o2 o3 o4 o5 o6 o7 g1 g2 g3 g4 g5 g6 g7 = g4
first_of false false false false true h o1 o2 o3 o4 o5 o6 o7 g1 g2 g3 g4 g5 g6 g7 = g5
first_of false false false false false true o1 o2 o3 o4 o5 o6 o7 g1 g2 g3 g4 g5 g6 g7 = g6
first_of false false false false false false o1 o2 o3 o4 o5 o6 o7 g1 g2 g3 g4 g5 g6 g7 = g7

named_initarg : (x : Option Symbol) → MaybeOption (initarg_by x)
named_initarg None = tt
named_initarg (Some (Named m)) = tt
named_initarg (Some (Fresh e s)) = tt

named_method : (k : Accessor) (x : GivenName) → MaybeOption (method_by k x)
named_method k no_name = tt
named_method k unfit = tt
named_method k lacking = (tt, tt)
named_method k (given m) = (tt, tt)

named_accessor_with : (m : Name) (x : GivenName) → NamedOption (accessor_with m x)
named_accessor_with m no_name = tt
named_accessor_with m unfit = tt
named_accessor_with m lacking = (tt, (tt, tt))
named_accessor_with m (given k) = (tt, (tt, tt))

named_accessor : (names : List (List ℕ)) (x : Option Symbol) → MaybeOption (accessor_by names x)
named_accessor names None = tt
named_accessor names (Some (Named m)) = named_accessor_with m (setter_of_text names (symbol_text names (Named m)))
named_accessor names (Some (Fresh e s)) = tt

named_option : (names : List (List ℕ)) (o d : Item) → MaybeOption (slot_option names o d)
named_option names o d =
    first_of (is_word names (codes ":initform") o) (is_word names (codes ":initarg") o) (is_word names (codes ":reader") o) (is_word names (codes ":writer") o)
    (is_word names (codes ":boundp") o) (is_word names (codes ":accessor") o)
    (Some (initform_of d)) (initarg_by (symbol_of d)) (method_by Reads (given_name names d)) (method_by Writes (given_name names d))
    (method_by Asks (given_name names d)) (accessor_by names (symbol_of d)) (Some wrong_option)
    (tt, tt) (named_initarg (symbol_of d)) (named_method Reads (given_name names d)) (named_method Writes (given_name names d))
    (named_method Asks (given_name names d)) (named_accessor names (symbol_of d)) tt

one_option : (o : Option SlotOption) (os : Option (List SlotOption)) → MaybeOption o → MaybeOptions os → MaybeOptions (option_and o os)
one_option None os g h = tt
one_option (Some o) None g h = tt
one_option (Some o) (Some os) g h = all_both IsNamed (functions_of_option o) (flat_map functions_of_option os) g h

named_options : (names : List (List ℕ)) (ds : List Item) → MaybeOptions (slot_options names ds)
named_options names [] = tt
named_options names (o ∷ []) = tt
named_options names (o ∷ d ∷ ds) = one_option (slot_option names o d) (slot_options names ds) (named_option names o d) (named_options names ds)

named_slot_with : (p : Place) (x : Option Name) (os : Option (List SlotOption)) → MaybeOptions os → MaybeSlot (slot_with p x os)
named_slot_with p None os g = tt
named_slot_with p (Some x) None g = tt
named_slot_with p (Some x) (Some os) g = g

named_slot_list : (names : List (List ℕ)) (p : Place) (ds : Option (List Item)) → MaybeSlot (slot_in_list names p ds)
named_slot_list names p None = tt
named_slot_list names p (Some []) = tt
named_slot_list names p (Some (d ∷ ds)) = named_slot_with p (name_in (symbol_of d)) (slot_options names ds) (named_options names ds)

named_slot : (names : List (List ℕ)) (d : Item) (x : Option Symbol) → MaybeSlot (slot_by names d x)
named_slot names d None = named_slot_list names (place_of d) (list_items d)
named_slot names d (Some x) = named_slot_with (place_of d) (name_of x) (Some []) tt

one_slot : (x : Option WrittenSlot) (xs : Option (List WrittenSlot)) → MaybeSlot x → MaybeSlots xs → MaybeSlots (slot_and x xs)
one_slot None xs g h = tt
one_slot (Some x) None g h = tt
one_slot (Some x) (Some xs) g h = all_both IsNamed (functions_of x) (all_functions xs) g h

named_each : (names : List (List ℕ)) (ds : List Item) → MaybeSlots (each_slot names ds)
named_each names [] = tt
named_each names (d ∷ ds) = one_slot (slot_by names d (symbol_of d)) (each_slot names ds) (named_slot names d (symbol_of d)) (named_each names ds)

pub named_slots : (names : List (List ℕ)) (ds : Option (List Item)) → MaybeSlots (slots_in names ds)
named_slots names None = tt
named_slots names (Some ds) = named_each names ds

-- where none lacks, all have names

abbrev pub IsGiven : Function → Type 0
IsGiven (for_initform d) = Unit {0}
IsGiven (for_method no_name k) = ⊥
IsGiven (for_method unfit k) = ⊥
IsGiven (for_method lacking k) = ⊥
IsGiven (for_method (given n) k) = Unit {0}

abbrev pub AllGiven : List Function → Type 0
AllGiven fs = AllOf IsGiven fs

one_given : (f : Function) → IsNamed f → is_lacking f ≡ false → IsGiven f
one_given (for_initform d) n l = tt
one_given (for_method no_name k) n l = n
one_given (for_method unfit k) n l = n
one_given (for_method lacking k) n l = absurd (cc l)
one_given (for_method (given m) k) n l = tt

pub all_given : (fs : List Function) → AllNamed fs → list_any is_lacking fs ≡ false → AllGiven fs
all_given [] n l = tt
all_given (f ∷ fs) n l =
    let o : (is_lacking f ≡ false) × (list_any is_lacking fs ≡ false) = or_parts (is_lacking f) (list_any is_lacking fs) l in
    (one_given f n.0 o.0, all_given fs n.1 o.1)

-- the parts of slots none of which is wrong

abbrev pub all_slot_parts : List WrittenSlot → List Part
all_slot_parts [] = []
all_slot_parts (x ∷ xs) = flat_map (part_of x) (functions_of x) ++ all_slot_parts xs

-- there are as many slots as within the limit
pub record RightSlots (inherited earlier : List Name) (xs : List WrittenSlot) : Type 0 where
  pub parts : slot_parts inherited earlier xs ≡ all_slot_parts xs
  pub few : length (each_first (inherited ++ earlier)) ≤ slot_limit → length (each_first (inherited ++ (earlier ++ map (λ x. x.name) xs))) ≤ slot_limit
  pub none_wrong : (p : ℕ) → first_wrong inherited earlier (given_slots (slot_specs p xs)) ≡ None

within_limit : (n : Name) (earlier names : List Name) → is_wrong n earlier names ≡ false → length (with_name n names) ≤ slot_limit
within_limit n earlier names e =
    let o : (has_name n earlier ≡ false) × (nat_lt slot_limit (length (with_name n names)) ≡ false) = or_parts (has_name n earlier) (nat_lt slot_limit (length (with_name n names))) e in
    ltb-false slot_limit (length (with_name n names)) o.1

right_slot : (n : Name) (inherited earlier : List Name) → each_first (inherited ++ earlier ++ n ∷ []) ≡ with_name n (each_first (inherited ++ earlier))
    → is_wrong n earlier (each_first (inherited ++ earlier)) ≡ false → (has_name n earlier || nat_lt slot_limit (length (each_first (inherited ++ earlier ++ n ∷ [])))) ≡ false
right_slot n inherited earlier one e = ap (λ ns. has_name n earlier || nat_lt slot_limit (length ns)) one ∙ e

pub right_slots : KeepsNames → (inherited earlier : List Name) (xs : List WrittenSlot) → AllRight (slot_parts inherited earlier xs) → RightSlots inherited earlier xs
right_slots keep inherited earlier [] r = record { parts = refl; few = λ l. subst (λ (ns : List Name). length (each_first (inherited ++ ns)) ≤ slot_limit) (sym (append-nil earlier)) l; none_wrong = λ p. refl }
right_slots keep inherited earlier (x ∷ xs) r = by_test (has_wrong_options x || is_wrong x.name earlier (each_first (inherited ++ earlier))) refl r
    (λ q. right_slots keep inherited (earlier ++ x.name ∷ []) xs q)
  where
    by_test : (b : Bool) → (has_wrong_options x || is_wrong x.name earlier (each_first (inherited ++ earlier))) ≡ b
        → AllRight (if b then wrong x.place BadSlot ∷ [] else flat_map (part_of x) (functions_of x) ++ slot_parts inherited (earlier ++ x.name ∷ []) xs)
        → (AllRight (slot_parts inherited (earlier ++ x.name ∷ []) xs) → RightSlots inherited (earlier ++ x.name ∷ []) xs) → RightSlots inherited earlier (x ∷ xs)
    by_test true e r more = absurd r.0
    by_test false e r more =
        let rest : RightSlots inherited (earlier ++ x.name ∷ []) xs = more (each_behind IsRight (flat_map (part_of x) (functions_of x)) (slot_parts inherited (earlier ++ x.name ∷ []) xs) r) in
        let o : (has_wrong_options x ≡ false) × (is_wrong x.name earlier (each_first (inherited ++ earlier)) ≡ false) =
        or_parts (has_wrong_options x) (is_wrong x.name earlier (each_first (inherited ++ earlier))) e in
        let one : each_first (inherited ++ (earlier ++ x.name ∷ [])) ≡ with_name x.name (each_first (inherited ++ earlier)) =
        ap each_first (sym (append_assoc inherited earlier (x.name ∷ []))) ∙ keep (inherited ++ earlier) x.name in
        let here : length (each_first (inherited ++ (earlier ++ x.name ∷ []))) ≤ slot_limit =
        subst (λ (ns : List Name). length ns ≤ slot_limit) (sym one) (within_limit x.name earlier (each_first (inherited ++ earlier)) o.1) in
        record {
          parts = ap (λ b. if b then wrong x.place BadSlot ∷ [] else flat_map (part_of x) (functions_of x) ++ slot_parts inherited (earlier ++ x.name ∷ []) xs) e
              ∙ ap (λ ys. flat_map (part_of x) (functions_of x) ++ ys) rest.parts;
          few = λ l.
              subst (λ (ns : List Name). length (each_first (inherited ++ ns)) ≤ slot_limit) (append_assoc earlier (x.name ∷ []) (map (λ y. y.name) xs)) (rest.few here);
          none_wrong = λ p.
              let q : ℕ = p + length (functions_of x) in
              ap (λ b. if b then Some x.place else first_wrong inherited (earlier ++ x.name ∷ []) (given_slots (slot_specs q xs))) (right_slot x.name inherited earlier (keep (inherited ++ earlier) x.name) o.1) ∙ rest.none_wrong q;
        }

pub names_of_specs : (p : ℕ) (xs : List WrittenSlot) → spec_names (slot_specs p xs) ≡ map (λ x. x.name) xs
names_of_specs p [] = refl
names_of_specs p (x ∷ xs) = ap (λ ns. x.name ∷ ns) (names_of_specs (p + length (functions_of x)) xs)

-- the procedures of functions, one after another

pub record TakenAt (k : Accessor) (ps : List Procedure) (n : ℕ) : Type 0 where
  pub procedure : Procedure
  pub at : slice_get ps n ≡ Some procedure
  pub is : Takes (arguments_of k) false false procedure

pub record InitformAt (ps : List Procedure) (n : ℕ) : Type 0 where
  pub procedure : Procedure
  pub at : slice_get ps n ≡ Some procedure
  pub is : Takes 0 false false procedure

abbrev pub FunctionsMade : ℕ → List Function → List Procedure → Type 0
FunctionsMade p [] ps = length ps ≡ p
FunctionsMade p (for_initform d ∷ fs) ps = InitformAt ps p × FunctionsMade (p + 1) fs ps
FunctionsMade p (for_method g k ∷ fs) ps = TakenAt k ps p × FunctionsMade (p + 1) fs ps

made_then : (x : WrittenSlot) (fs gs : List Function) (rest : List Part) (ps : List Procedure) → AllGiven fs → ((q : ℕ) → MadeFrom q rest ps → FunctionsMade q gs ps)
    → (p : ℕ) → MadeFrom p (flat_map (part_of x) fs ++ rest) ps → FunctionsMade p (fs ++ gs) ps
made_then x [] gs rest ps g more p m = more p m
made_then x (for_initform d ∷ fs) gs rest ps g more p m =
    (record { procedure = m.0.procedure; at = m.0.at; is = m.0.is }, made_then x fs gs rest ps g.1 more (p + 1) m.1)
made_then x (for_method no_name k ∷ fs) gs rest ps g more p m = absurd g.0
made_then x (for_method unfit k ∷ fs) gs rest ps g more p m = absurd g.0
made_then x (for_method lacking k ∷ fs) gs rest ps g more p m = absurd g.0
made_then x (for_method (given n) k ∷ fs) gs rest ps g more p m =
    (record { procedure = m.0.procedure; at = m.0.at; is = m.0.is }, made_then x fs gs rest ps g.1 more (p + 1) m.1)

pub functions_made : (xs : List WrittenSlot) (ps : List Procedure) → AllGiven (all_functions xs) → (p : ℕ) → MadeFrom p (all_slot_parts xs) ps → FunctionsMade p (all_functions xs) ps
functions_made [] ps g p m = m
functions_made (x ∷ xs) ps g p m =
    made_then x (functions_of x) (all_functions xs) (all_slot_parts xs) ps (each_front IsGiven (functions_of x) (all_functions xs) g)
    (λ q k. functions_made xs ps (each_behind IsGiven (functions_of x) (all_functions xs) g) q k) p m

-- the initform of a slot is there, and takes nothing

abbrev MaybeInitform : List Procedure → Option ℕ → Type 0
MaybeInitform ps None = Unit {0}
MaybeInitform ps (Some i) = InitformAt ps i

initform_there : (fs gs : List Function) (ps : List Procedure) (p : ℕ) → FunctionsMade p (fs ++ gs) ps → MaybeInitform ps (initform_from p fs)
initform_there [] gs ps p m = tt
initform_there (for_initform d ∷ fs) gs ps p m = m.0
initform_there (for_method g k ∷ fs) gs ps p m = initform_there fs gs ps (p + 1) m.1

made_behind : (fs gs : List Function) (ps : List Procedure) (p : ℕ) → FunctionsMade p (fs ++ gs) ps → FunctionsMade (p + length fs) gs ps
made_behind [] gs ps p m = let same : p ≡ p + 0 = omega arith in subst (λ (q : ℕ). FunctionsMade q gs ps) same m
made_behind (for_initform d ∷ fs) gs ps p m =
    let same : p + 1 + length fs ≡ p + length (for_initform d ∷ fs) = omega arith in
    subst (λ (q : ℕ). FunctionsMade q gs ps) same (made_behind fs gs ps (p + 1) m.1)
made_behind (for_method g k ∷ fs) gs ps p m =
    let same : p + 1 + length fs ≡ p + length (for_method g k ∷ fs) = omega arith in
    subst (λ (q : ℕ). FunctionsMade q gs ps) same (made_behind fs gs ps (p + 1) m.1)

no_rest : (b : Bool) → b ≡ false → not b ≡ true
no_rest b e = ap not e

initform_fits_there : (h : Definitions) (o : Option ℕ) → MaybeInitform h.procedures o → (initform_fits (rows_of h) o && initform_takes_nothing h.procedures o) ≡ true
initform_fits_there h None m = refl
initform_fits_there h (Some i) m =
    and_from _ _ (ap (is_alone false) m.at ∙ m.is.alone)
    (ap takes_nothing m.at ∙ and_from _ _ (eq-eqb (length m.procedure.required) 0 m.is.count) (no_rest (is_some m.procedure.rest) m.is.more))

pub slots_fit : (h : Definitions) (xs : List WrittenSlot) (p : ℕ) → FunctionsMade p (all_functions xs) h.procedures
    → list_all (slot_fits h) (slots_given (given_slots (slot_specs p xs))) ≡ true
slots_fit h [] p m = refl
slots_fit h (x ∷ xs) p m =
    and_from _ _ (initform_fits_there h (initform_from p (functions_of x)) (initform_there (functions_of x) (all_functions xs) h.procedures p m))
    (slots_fit h xs (p + length (functions_of x)) (made_behind (functions_of x) (all_functions xs) h.procedures p m))
