-- The row of the form that defines a class has sound parts.
use Rattle.std.proofs.Common.{◌≡◌, ℕ, ◌+◌, ◌<◌, Bool, true, false, not, ◌&&◌, ◌||◌, List, [], ◌∷◌, ◌++◌, Option, Some, None, if◌then◌else◌, refl, arith}
use Rattle.std.specs.Prelude.{flat_map, codes}
use Rattle.std.specs.List.{list_any, list_all}
use Rattle.base.specs.declared.place.Place.{Place}
use Rattle.base.specs.declared.datum.Name.{Name}
use Rattle.base.specs.declared.datum.Symbol.{Symbol}
use Rattle.base.specs.declared.datum.Symbol.TheVariants.{Named, Fresh}
use Rattle.base.specs.Data.{Item, place_of}
use Rattle.base.specs.DataNames.{symbol_text}
use Rattle.base.specs.AllOf.{AllOf}
use Rattle.base.specs.WellFormedData.{WellFormed}
use Rattle.lang_classes.specs.Given.{is_wrong}
use Rattle.lang_classes.specs.InheritedClasses.{inherited_names}
use Rattle.lang_classes.specs.InheritedSlots.{each_first}
use Rattle.lang_derived.specs.Asked.{list_items, is_word}
use Rattle.front_profile.specs.declared.elaboration.Accessor.{Accessor}
use Rattle.front_profile.specs.declared.elaboration.Accessor.TheVariants.{Reads, Writes, Asks}
use Rattle.front_profile.specs.declared.tables.Tables.{Tables}
use Rattle.front_profile.specs.Nodes.{StaticContext, Part, Node}
use Rattle.front_profile.specs.Shapes.{symbol_of, name_of}
use Rattle.front_profile.specs.DefiningRows.{named}
use Rattle.front_profile.specs.GivenNames.{GivenName, no_name, unfit, lacking, given, given_name, setter_of_text}
use Rattle.front_profile.specs.ClassShapes.{SlotOption, wrong_option, initform_of, initarg_of, method_of, accessor_of, initarg_by, method_by, accessor_with, accessor_by, slot_option, option_and, slot_options, WrittenSlot, slot_with, name_in, slot_in_list, slot_by, slot_and, each_slot, slots_in, WrittenSuper, supers_in, ClassOption, class_options, are_options, is_of_left_out}
use Rattle.front_profile.specs.ClassRows.{Function, for_initform, for_method, functions_of_option, functions_of, all_functions, uses, is_lacking, is_of_function, is_kept_name, fits_generic, names_differ, known_supers, first_unknown_super, are_supers, few_inherited, has_wrong_options, part_of, slot_parts, class_parts, class_made, is_taken_class, is_reserved_class, class_checked, class_of, class_shaped, defclass_row}
use Rattle.front_profile.specs.Sound.{weight, AllSound, SoundNode}
use Rattle.front_profile.specs.bridge.WellFormedParts.{MaybeGood, good_parts}
use Rattle.front_profile.specs.bridge.SoundParts.{sound_if, sound_within, both_sound}
use Rattle.front_profile.specs.bridge.SoundBinders.{sound_defining}
use Rattle.front_profile.specs.bridge.SoundDefinitions.{at_top_level, sound_unless_unknown}

-- slots whose initforms are good data

abbrev pub WellFormedOption : ℕ → SlotOption → Type 0
WellFormedOption n wrong_option = Unit {0}
WellFormedOption n (initform_of d) = WellFormed n d
WellFormedOption n (initarg_of x) = Unit {0}
WellFormedOption n (method_of k g) = Unit {0}
WellFormedOption n (accessor_of x g) = Unit {0}

abbrev pub WellFormedOptions : ℕ → List SlotOption → Type 0
WellFormedOptions n [] = Unit {0}
WellFormedOptions n (o ∷ os) = WellFormedOption n o × WellFormedOptions n os

abbrev pub MaybeOption : ℕ → Option SlotOption → Type 0
MaybeOption n None = Unit {0}
MaybeOption n (Some o) = WellFormedOption n o

abbrev pub MaybeOptions : ℕ → Option (List SlotOption) → Type 0
MaybeOptions n None = Unit {0}
MaybeOptions n (Some os) = WellFormedOptions n os

abbrev pub WellFormedSlots : ℕ → List WrittenSlot → Type 0
WellFormedSlots n [] = Unit {0}
WellFormedSlots n (x ∷ xs) = WellFormedOptions n x.options × WellFormedSlots n xs

abbrev pub MaybeSlot : ℕ → Option WrittenSlot → Type 0
MaybeSlot n None = Unit {0}
MaybeSlot n (Some x) = WellFormedOptions n x.options

abbrev pub MaybeSlots : ℕ → Option (List WrittenSlot) → Type 0
MaybeSlots n None = Unit {0}
MaybeSlots n (Some xs) = WellFormedSlots n xs

first_of : (n : ℕ) (a b c e f h : Bool) (o1 o2 o3 o4 o5 o6 o7 : Option SlotOption) → MaybeOption n o1 → MaybeOption n o2 → MaybeOption n o3 → MaybeOption n o4 →
    MaybeOption n o5 → MaybeOption n o6 → MaybeOption n o7 →
    MaybeOption n (if a then o1 else if b then o2 else if c then o3 else if e then o4 else if f then o5 else if h then o6 else o7)
first_of n true b c e f h o1 o2 o3 o4 o5 o6 o7 g1 g2 g3 g4 g5 g6 g7 = g1
first_of n false true c e f h o1 o2 o3 o4 o5 o6 o7 g1 g2 g3 g4 g5 g6 g7 = g2
first_of n false false true e f h o1 o2 o3 o4 o5 o6 o7 g1 g2 g3 g4 g5 g6 g7 = g3
first_of n false false false true f h o1 o2 o3 o4 o5 o6 o7 g1 g2 g3 g4 g5 g6 g7 = g4
first_of n false false false false true h o1 o2 o3 o4 o5 o6 o7 g1 g2 g3 g4 g5 g6 g7 = g5
first_of n false false false false false true o1 o2 o3 o4 o5 o6 o7 g1 g2 g3 g4 g5 g6 g7 = g6
first_of n false false false false false false o1 o2 o3 o4 o5 o6 o7 g1 g2 g3 g4 g5 g6 g7 = g7

good_initarg : (n : ℕ) (x : Option Symbol) → MaybeOption n (initarg_by x)
good_initarg n None = tt
good_initarg n (Some (Named m)) = tt
good_initarg n (Some (Fresh e s)) = tt

good_method_by : (n : ℕ) (k : Accessor) (x : GivenName) → MaybeOption n (method_by k x)
good_method_by n k no_name = tt
good_method_by n k unfit = tt
good_method_by n k lacking = tt
good_method_by n k (given m) = tt

good_accessor_with : (n : ℕ) (m : Name) (x : GivenName) → WellFormedOption n (accessor_with m x)
good_accessor_with n m no_name = tt
good_accessor_with n m unfit = tt
good_accessor_with n m lacking = tt
good_accessor_with n m (given k) = tt

good_accessor : (names : List (List ℕ)) (n : ℕ) (x : Option Symbol) → MaybeOption n (accessor_by names x)
good_accessor names n None = tt
good_accessor names n (Some (Named m)) = good_accessor_with n m (setter_of_text names (symbol_text names (Named m)))
good_accessor names n (Some (Fresh e s)) = tt

good_slot_option : (names : List (List ℕ)) (n : ℕ) (o d : Item) → WellFormed n d → MaybeOption n (slot_option names o d)
good_slot_option names n o d g =
    first_of n (is_word names (codes ":initform") o) (is_word names (codes ":initarg") o) (is_word names (codes ":reader") o)
    (is_word names (codes ":writer") o) (is_word names (codes ":boundp") o) (is_word names (codes ":accessor") o)
    (Some (initform_of d)) (initarg_by (symbol_of d)) (method_by Reads (given_name names d)) (method_by Writes (given_name names d))
    (method_by Asks (given_name names d)) (accessor_by names (symbol_of d)) (Some wrong_option)
    g (good_initarg n (symbol_of d)) (good_method_by n Reads (given_name names d)) (good_method_by n Writes (given_name names d))
    (good_method_by n Asks (given_name names d)) (good_accessor names n (symbol_of d)) tt

one_option_more : (n : ℕ) (o : Option SlotOption) (os : Option (List SlotOption)) → MaybeOption n o → MaybeOptions n os → MaybeOptions n (option_and o os)
one_option_more n None os g h = tt
one_option_more n (Some o) None g h = tt
one_option_more n (Some o) (Some os) g h = (g, h)

good_slot_options : (names : List (List ℕ)) (n : ℕ) (ds : List Item) → AllOf (WellFormed n) ds → MaybeOptions n (slot_options names ds)
good_slot_options names n [] g = tt
good_slot_options names n (o ∷ []) g = tt
good_slot_options names n (o ∷ d ∷ ds) g =
    one_option_more n (slot_option names o d) (slot_options names ds) (good_slot_option names n o d g.1.0) (good_slot_options names n ds g.1.1)

good_slot_with : (n : ℕ) (p : Place) (x : Option Name) (os : Option (List SlotOption)) → MaybeOptions n os → MaybeSlot n (slot_with p x os)
good_slot_with n p None os g = tt
good_slot_with n p (Some x) None g = tt
good_slot_with n p (Some x) (Some os) g = g

good_slot_list : (names : List (List ℕ)) (n : ℕ) (p : Place) (ds : Option (List Item)) → MaybeGood n ds → MaybeSlot n (slot_in_list names p ds)
good_slot_list names n p None g = tt
good_slot_list names n p (Some []) g = tt
good_slot_list names n p (Some (d ∷ ds)) g =
    good_slot_with n p (name_in (symbol_of d)) (slot_options names ds) (good_slot_options names n ds g.1)

good_slot : (names : List (List ℕ)) (n : ℕ) (d : Item) (x : Option Symbol) → WellFormed n d → MaybeSlot n (slot_by names d x)
good_slot names n d None g = good_slot_list names n (place_of d) (list_items d) (good_parts n d g)
good_slot names n d (Some x) g = good_slot_with n (place_of d) (name_of x) (Some []) tt

one_slot_more : (n : ℕ) (x : Option WrittenSlot) (xs : Option (List WrittenSlot)) → MaybeSlot n x → MaybeSlots n xs → MaybeSlots n (slot_and x xs)
one_slot_more n None xs g h = tt
one_slot_more n (Some x) None g h = tt
one_slot_more n (Some x) (Some xs) g h = (g, h)

good_each_slot : (names : List (List ℕ)) (n : ℕ) (ds : List Item) → AllOf (WellFormed n) ds → MaybeSlots n (each_slot names ds)
good_each_slot names n [] g = tt
good_each_slot names n (d ∷ ds) g =
    one_slot_more n (slot_by names d (symbol_of d)) (each_slot names ds) (good_slot names n d (symbol_of d) g.0) (good_each_slot names n ds g.1)

good_slots : (names : List (List ℕ)) (n : ℕ) (ds : Option (List Item)) → MaybeGood n ds → MaybeSlots n (slots_in names ds)
good_slots names n None g = tt
good_slots names n (Some ds) g = good_each_slot names n ds g

-- the functions of slots

abbrev pub WellFormedFunction : ℕ → Function → Type 0
WellFormedFunction n (for_initform d) = WellFormed n d
WellFormedFunction n (for_method g k) = Unit {0}

abbrev pub WellFormedFunctions : ℕ → List Function → Type 0
WellFormedFunctions n [] = Unit {0}
WellFormedFunctions n (f ∷ fs) = WellFormedFunction n f × WellFormedFunctions n fs

both_good : (n : ℕ) (fs gs : List Function) → WellFormedFunctions n fs → WellFormedFunctions n gs → WellFormedFunctions n (fs ++ gs)
both_good n [] gs g h = h
both_good n (f ∷ fs) gs g h = (g.0, both_good n fs gs g.1 h)

good_functions_of_option : (n : ℕ) (o : SlotOption) → WellFormedOption n o → WellFormedFunctions n (functions_of_option o)
good_functions_of_option n wrong_option g = tt
good_functions_of_option n (initform_of d) g = (g, tt)
good_functions_of_option n (initarg_of x) g = tt
good_functions_of_option n (method_of k x) g = (tt, tt)
good_functions_of_option n (accessor_of x y) g = (tt, (tt, tt))

good_functions : (n : ℕ) (os : List SlotOption) → WellFormedOptions n os → WellFormedFunctions n (flat_map functions_of_option os)
good_functions n [] g = tt
good_functions n (o ∷ os) g =
    both_good n (functions_of_option o) (flat_map functions_of_option os) (good_functions_of_option n o g.0) (good_functions n os g.1)

sound_part : (n w : ℕ) (o i : StaticContext) (x : WrittenSlot) (f : Function) → WellFormedFunction n f → 1001 < w → AllSound n w o i (part_of x f)
sound_part n w o i x (for_initform d) g h = ((g, h), tt)
sound_part n w o i x (for_method no_name k) g h = tt
sound_part n w o i x (for_method unfit k) g h = tt
sound_part n w o i x (for_method lacking k) g h = tt
sound_part n w o i x (for_method (given m) k) g h = (h, tt)

sound_functions : (n w : ℕ) (o i : StaticContext) (x : WrittenSlot) (fs : List Function) → WellFormedFunctions n fs → 1001 < w →
    AllSound n w o i (flat_map (part_of x) fs)
sound_functions n w o i x [] g h = tt
sound_functions n w o i x (f ∷ fs) g h =
    both_sound n w o i (part_of x f) (flat_map (part_of x) fs) (sound_part n w o i x f g.0 h) (sound_functions n w o i x fs g.1 h)

parts_if : (n w : ℕ) (o i : StaticContext) (b : Bool) (xs ys : List Part) → AllSound n w o i xs → AllSound n w o i ys → AllSound n w o i (if b then xs else ys)
parts_if n w o i true xs ys g h = g
parts_if n w o i false xs ys g h = h

sound_slot_parts : (n w : ℕ) (o i : StaticContext) (inherited earlier : List Name) (xs : List WrittenSlot) → WellFormedSlots n xs → 1001 < w →
    AllSound n w o i (slot_parts inherited earlier xs)
sound_slot_parts n w o i inherited earlier [] g h = tt
sound_slot_parts n w o i inherited earlier (x ∷ xs) g h =
    parts_if n w o i (has_wrong_options x || is_wrong x.name earlier (each_first (inherited ++ earlier))) _ _ (tt, tt)
    (both_sound n w o i (flat_map (part_of x) (functions_of x)) (slot_parts inherited (earlier ++ x.name ∷ []) xs)
    (sound_functions n w o i x (functions_of x) (good_functions n x.options g.0) h)
    (sound_slot_parts n w o i inherited (earlier ++ x.name ∷ []) xs g.1 h))

sound_class_parts : (n w : ℕ) (o i : StaticContext) (s : Tables) (cs : List WrittenSuper) (xs : List WrittenSlot) → WellFormedSlots n xs → 1001 < w →
    AllSound n w o i (class_parts s cs xs)
sound_class_parts n w o i s cs xs g h =
    sound_unless_unknown n w o i (first_unknown_super s.classes.rows cs) _
    (sound_slot_parts n w o i (inherited_names s.classes (known_supers s.classes.rows cs)) [] xs g h)

-- defclass

sound_class_checked : (n w : ℕ) (a : StaticContext) (s : Tables) (p : Place) (d : Item) (name : Name) (cs : List WrittenSuper) (xs : List WrittenSlot) (os : List ClassOption) →
    WellFormedSlots n xs → 1001 < w → SoundNode n w (class_checked a s p d name cs xs os)
sound_class_checked n w a s p d name cs xs os g h =
    sound_if n w (list_any is_of_left_out os) _ _ tt (sound_within n w 1 a p _ (λ k.
    sound_if n w (not (are_supers s cs)) _ _ tt
    (sound_if n w (not (few_inherited s cs)) _ _ tt
    (sound_if n w (list_all (fits_generic s) (uses xs) && names_differ (uses xs)) _ _ (sound_class_parts n w a a s cs xs g h) tt))))

sound_class_of : (names : List (List ℕ)) (n : ℕ) (a : StaticContext) (s : Tables) (p : Place) (d : Item) (name : Name) (cs : List WrittenSuper) (xs : List WrittenSlot) (os : List ClassOption) →
    WellFormedSlots n xs → SoundNode n (weight a.spot) (class_of names a s p d name cs xs os)
sound_class_of names n a s p d name cs xs os g =
    sound_if n (weight a.spot) (list_any is_lacking (all_functions xs)) _ _ tt
    (sound_defining n (weight a.spot) a p _ _ _ (λ top. sound_class_checked n (weight a.spot) a s p d name cs xs os g (at_top_level a.spot top)))

sound_class_shaped : (names : List (List ℕ)) (n : ℕ) (a : StaticContext) (s : Tables) (p : Place) (d : Item) (name : Option Name) (cs : Option (List WrittenSuper)) (xs : Option (List WrittenSlot)) (os : List ClassOption) →
    MaybeSlots n xs → SoundNode n (weight a.spot) (class_shaped names a s p d name cs xs os)
sound_class_shaped names n a s p d None cs xs os g = tt
sound_class_shaped names n a s p d (Some name) None xs os g = tt
sound_class_shaped names n a s p d (Some name) (Some cs) None os g = tt
sound_class_shaped names n a s p d (Some name) (Some cs) (Some xs) os g =
    sound_if n (weight a.spot) (are_options os) _ _ (sound_class_of names n a s p d name cs xs os g) tt

pub sound_defclass : (names : List (List ℕ)) (n : ℕ) (a : StaticContext) (s : Tables) (p : Place) (ds : List Item) → AllOf (WellFormed n) ds →
    SoundNode n (weight a.spot) (defclass_row names a s p ds)
sound_defclass names n a s p [] g = tt
sound_defclass names n a s p (d ∷ []) g = tt
sound_defclass names n a s p (d ∷ cs ∷ []) g = tt
sound_defclass names n a s p (d ∷ cs ∷ xs ∷ os) g =
    sound_class_shaped names n a s p d (named (symbol_of d)) (supers_in (list_items cs)) (slots_in names (list_items xs)) (class_options names os)
    (good_slots names n (list_items xs) (good_parts n xs g.1.1.0))
