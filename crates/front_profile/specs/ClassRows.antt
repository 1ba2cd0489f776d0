-- The row of the form that defines a class (ISO/IEC 13816:2007, 15.1).
use Rattle.std.specs.Prelude.{ℕ, ◌+◌, ◌==◌, Bool, true, false, not, ◌&&◌, ◌||◌, List, [], ◌∷◌, ◌++◌, Option, Some, None, if◌then◌else◌, length, is_some, map, flat_map, nat_le, nat_lt, slice_get}
use Rattle.std.specs.List.{list_any, list_all, filter_map}
use Rattle.base.specs.declared.place.Place.{Place}
use Rattle.base.specs.declared.datum.Name.{Name}
use Rattle.base.specs.declared.datum.Symbol.TheVariants.{Named}
use Rattle.base.specs.declared.reason.Reason.{Reason}
use Rattle.base.specs.declared.reason.Reason.TheVariants.{DuplicateName, NotTopLevel, ReservedName, LeftOut, UnknownClass, BadSupers, BadSlot, BadMethod}
use Rattle.base.specs.Data.{Item, item, symbol}
use Rattle.lang_meaning.specs.declared.program.ClassRow.{ClassRow}
use Rattle.lang_meaning.specs.declared.program.GenericRow.{GenericRow}
use Rattle.lang_classes.specs.declared.slot_spec.SlotSpec.{SlotSpec}
use Rattle.lang_classes.specs.Given.{is_wrong}
use Rattle.lang_classes.specs.InheritedClasses.{class_named, inherited_names, slot_limit}
use Rattle.lang_classes.specs.InheritedPrecedence.{supers_fit}
use Rattle.lang_classes.specs.InheritedSlots.{same_name, each_first}
use Rattle.lang_derived.specs.Asked.{list_items}
use Rattle.front_profile.specs.declared.tables.Tables.{Tables}
use Rattle.front_profile.specs.declared.elaboration.Accessor.{Accessor}
use Rattle.front_profile.specs.declared.elaboration.Accessor.TheVariants.{Reads, Writes}
use Rattle.front_profile.specs.declared.elaboration.SlotFunction.{SlotFunction}
use Rattle.front_profile.specs.declared.elaboration.SlotFunction.TheVariants.{Initform, Method}
use Rattle.front_profile.specs.declared.elaboration.Elaboration.TheVariants.{OfClass}
use Rattle.front_profile.specs.Nodes.{StaticContext, Part, wrong, function, initform, accessor, Node, offends, unnamed, whole}
use Rattle.front_profile.specs.Shapes.{symbol_of}
use Rattle.front_profile.specs.RowWords.{within_depth, bad_shape}
use Rattle.front_profile.specs.Elaborations.{generic_named, arguments_of}
use Rattle.front_profile.specs.DefiningRows.{named, defining, has_function, is_of_prelude, is_truth, with_name, named_form}
use Rattle.front_profile.specs.GivenNames.{GivenName, no_name, unfit, lacking, given}
use Rattle.front_profile.specs.ClassShapes.{SlotOption, wrong_option, initform_of, initarg_of, method_of, accessor_of, WrittenSlot, slots_in, WrittenSuper, supers_in, ClassOption, class_options, are_options, is_of_left_out, is_abstract}
use Rattle.front_profile.specs.GenericRows.{keeps, unless_unknown}

-- the functions that a slot's options ask for, in order: of an initform, and of methods under their names

pub data Function : Type 0 where
  for_initform : Item → Function
  for_method : GivenName → Accessor → Function

abbrev pub functions_of_option : SlotOption → List Function
functions_of_option wrong_option = []
functions_of_option (initform_of d) = for_initform d ∷ []
functions_of_option (initarg_of n) = []
functions_of_option (method_of k g) = for_method g k ∷ []
functions_of_option (accessor_of n g) = for_method (given n) Reads ∷ for_method g Writes ∷ []

abbrev pub functions_of : WrittenSlot → List Function
functions_of x = flat_map functions_of_option x.options

abbrev pub all_functions : List WrittenSlot → List Function
all_functions xs = flat_map functions_of xs

-- the names that the methods are of, with the numbers of their arguments

pub record Use : Type 0 where
  pub name : Name
  pub arguments : ℕ

abbrev pub use_of : Function → Option Use
use_of (for_initform d) = None
use_of (for_method no_name k) = None
use_of (for_method unfit k) = None
use_of (for_method lacking k) = None
use_of (for_method (given n) k) = Some (record { name = n; arguments = arguments_of k })

abbrev pub uses : List WrittenSlot → List Use
uses xs = filter_map use_of (all_functions xs)

abbrev pub is_lacking : Function → Bool
is_lacking (for_method lacking k) = true
is_lacking (for_method no_name k) = false
is_lacking (for_method unfit k) = false
is_lacking (for_method (given n) k) = false
is_lacking (for_initform d) = false

-- what stands in the way of a name: a function that is none of the prelude and no generic function; a name that the language or the prelude
-- keeps; a generic function of another number of arguments; or another method of the class under that name

abbrev pub is_of_function : StaticContext → Tables → Use → Bool
is_of_function a s u =
    has_function s u.name && not (is_some (generic_named s.generics u.name)) && not (a.spot.sited && is_of_prelude s u.name)

abbrev pub is_kept_name : List (List ℕ) → StaticContext → Tables → Use → Bool
is_kept_name names a s u =
    is_truth a s u.name || (a.spot.sited && (keeps names u.name || is_of_prelude s u.name))

abbrev pub takes_it : ℕ → Option GenericRow → Bool
takes_it n None = true
takes_it n (Some g) = g.required == n && not g.rest

abbrev pub row_named : List GenericRow → Option ℕ → Option GenericRow
row_named gs None = None
row_named gs (Some g) = slice_get gs g

abbrev pub fits_generic : Tables → Use → Bool
fits_generic s u = takes_it u.arguments (row_named s.generics (generic_named s.generics u.name))

abbrev pub names_differ : List Use → Bool
names_differ [] = true
names_differ (u ∷ us) = not (list_any (λ w. same_name u.name w.name) us) && names_differ us

-- superclasses that are known, and the place of the first that is not

abbrev pub known_supers : List ClassRow → List WrittenSuper → List ℕ
known_supers rows cs = filter_map (λ c. class_named rows c.name) cs

abbrev pub unknown_names : List ClassRow → List WrittenSuper → List Name
unknown_names rows [] = []
unknown_names rows (c ∷ cs) = name_unless c.name (class_named rows c.name) ++ unknown_names rows cs
  where
    name_unless : Name → Option ℕ → List Name
    name_unless n None = n ∷ []
    name_unless n (Some i) = []

abbrev pub some_twice : List Name → Bool
some_twice [] = false
some_twice (n ∷ ns) = list_any (same_name n) ns || some_twice ns

abbrev pub place_unless : Place → Option ℕ → Option Place → Option Place
place_unless p None more = Some p
place_unless p (Some c) more = more

abbrev pub first_unknown_super : List ClassRow → List WrittenSuper → Option Place
first_unknown_super rows [] = None
first_unknown_super rows (c ∷ cs) = place_unless c.place (class_named rows c.name) (first_unknown_super rows cs)

abbrev pub are_supers : Tables → List WrittenSuper → Bool
are_supers s cs =
    supers_fit s.classes.rows (known_supers s.classes.rows cs) && not (some_twice (unknown_names s.classes.rows cs))

abbrev pub few_inherited : Tables → List WrittenSuper → Bool
few_inherited s cs =
    nat_le (length (each_first (inherited_names s.classes (known_supers s.classes.rows cs)))) slot_limit

-- slots: one is wrong by an option or a second initform, where it repeats an earlier one, and where it is one past the limit

abbrev pub is_wrong_option : SlotOption → Bool
is_wrong_option wrong_option = true
is_wrong_option (initform_of d) = false
is_wrong_option (initarg_of n) = false
is_wrong_option (method_of k g) = false
is_wrong_option (accessor_of n g) = false

abbrev pub initform_in : SlotOption → Option Item
initform_in (initform_of d) = Some d
initform_in wrong_option = None
initform_in (initarg_of n) = None
initform_in (method_of k g) = None
initform_in (accessor_of n g) = None

abbrev pub initarg_in : SlotOption → Option Name
initarg_in (initarg_of n) = Some n
initarg_in wrong_option = None
initarg_in (initform_of d) = None
initarg_in (method_of k g) = None
initarg_in (accessor_of n g) = None

abbrev pub has_wrong_options : WrittenSlot → Bool
has_wrong_options x =
    list_any is_wrong_option x.options || nat_lt 1 (length (filter_map initform_in x.options))

abbrev pub part_of : WrittenSlot → Function → List Part
part_of x (for_initform d) = function (initform d) ∷ []
part_of x (for_method no_name k) = []
part_of x (for_method unfit k) = []
part_of x (for_method lacking k) = []
part_of x (for_method (given n) k) = function (accessor n k (item x.place (symbol (Named x.name)))) ∷ []

-- behind slots of these names, where the superclasses have slots of those
abbrev pub slot_parts : List Name → List Name → List WrittenSlot → List Part
slot_parts inherited earlier [] = []
slot_parts inherited earlier (x ∷ xs) =
    if has_wrong_options x || is_wrong x.name earlier (each_first (inherited ++ earlier)) then wrong x.place BadSlot ∷ []
    else flat_map (part_of x) (functions_of x) ++ slot_parts inherited (earlier ++ x.name ∷ []) xs

abbrev pub class_parts : Tables → List WrittenSuper → List WrittenSlot → List Part
class_parts s cs xs =
    unless_unknown (first_unknown_super s.classes.rows cs)
    (slot_parts (inherited_names s.classes (known_supers s.classes.rows cs)) [] xs)

-- the slots of the class; the functions of all slots have consecutive procedures

abbrev pub initform_from : ℕ → List Function → Option ℕ
initform_from p [] = None
initform_from p (for_initform d ∷ fs) = Some p
initform_from p (for_method g k ∷ fs) = initform_from (p + 1) fs

abbrev pub slot_spec : ℕ → WrittenSlot → SlotSpec
slot_spec p x = record {
  place = x.place;
  name = x.name;
  initargs = filter_map initarg_in x.options;
  initform = initform_from p (functions_of x);
}

abbrev pub slot_specs : ℕ → List WrittenSlot → List SlotSpec
slot_specs p [] = []
slot_specs p (x ∷ xs) = slot_spec p x ∷ slot_specs (p + length (functions_of x)) xs

abbrev pub slot_function : Function → List SlotFunction
slot_function (for_initform d) = Initform ∷ []
slot_function (for_method no_name k) = []
slot_function (for_method unfit k) = []
slot_function (for_method lacking k) = []
slot_function (for_method (given n) k) = Method n k ∷ []

abbrev pub slot_functions : List WrittenSlot → List SlotFunction
slot_functions xs = flat_map slot_function (all_functions xs)

-- (defclass name (super*) (slot*) option*)

abbrev pub class_made : StaticContext → Tables → Item → Name → List WrittenSuper → List WrittenSlot → List ClassOption → Node
class_made a s d n cs xs os =
    whole a a (with_name a.spot.sited d s) (class_parts s cs xs)
    (record {
      site = None;
      making = OfClass (record {
        name = n;
        supers = known_supers s.classes.rows cs;
        abstract_class = is_abstract os;
        slots = slot_specs (length s.procedures) xs;
        functions = slot_functions xs;
      }) (length s.procedures) a.spot.sited (named_form a.spot.sited s);
    })

-- the class of a name was defined by the same text; or it is one of the language or of the prelude, which no file defines anew

abbrev pub class_in_text : Bool → ℕ → Option ℕ → Bool
class_in_text of_file prelude None = false
class_in_text of_file prelude (Some c) = not of_file || nat_le prelude c

abbrev pub class_of_prelude : ℕ → Option ℕ → Bool
class_of_prelude prelude None = false
class_of_prelude prelude (Some c) = nat_lt c prelude

abbrev pub is_taken_class : StaticContext → Tables → Name → Bool
is_taken_class a s n = class_in_text a.spot.sited s.prelude_classes (class_named s.classes.rows n)

abbrev pub is_reserved_class : StaticContext → Tables → Name → Bool
is_reserved_class a s n =
    is_truth a s n || (a.spot.sited && class_of_prelude s.prelude_classes (class_named s.classes.rows n))

-- the lowest reason that the definition shares with none of its parts
abbrev pub class_checked : StaticContext → Tables → Place → Item → Name → List WrittenSuper → List WrittenSlot → List ClassOption → Node
class_checked a s p d n cs xs os =
    if list_any is_of_left_out os then offends p LeftOut
    else within_depth 1 a p
    (if not (are_supers s cs) then offends p BadSupers
    else if not (few_inherited s cs) then offends p BadSlot
    else if list_all (fits_generic s) (uses xs) && names_differ (uses xs) then class_made a s d n cs xs os
    else offends p BadMethod)

abbrev pub class_of : List (List ℕ) → StaticContext → Tables → Place → Item → Name → List WrittenSuper → List WrittenSlot → List ClassOption → Node
class_of names a s p d n cs xs os =
    if list_any is_lacking (all_functions xs) then unnamed
    else defining a p
    (is_taken_class a s n || list_any (is_of_function a s) (uses xs))
    (is_reserved_class a s n || list_any (is_kept_name names a s) (uses xs))
    (class_checked a s p d n cs xs os)

abbrev pub class_shaped : List (List ℕ) → StaticContext → Tables → Place → Item → Option Name → Option (List WrittenSuper) → Option (List WrittenSlot) → List ClassOption → Node
class_shaped names a s p d None cs xs os = bad_shape p
class_shaped names a s p d (Some n) None xs os = bad_shape p
class_shaped names a s p d (Some n) (Some cs) None os = bad_shape p
class_shaped names a s p d (Some n) (Some cs) (Some xs) os =
    if are_options os then class_of names a s p d n cs xs os else bad_shape p

abbrev pub defclass_row : List (List ℕ) → StaticContext → Tables → Place → List Item → Node
defclass_row names a s p [] = bad_shape p
defclass_row names a s p (d ∷ []) = bad_shape p
defclass_row names a s p (d ∷ cs ∷ []) = bad_shape p
defclass_row names a s p (d ∷ cs ∷ xs ∷ os) =
    class_shaped names a s p d (named (symbol_of d)) (supers_in (list_items cs)) (slots_in names (list_items xs)) (class_options names os)
