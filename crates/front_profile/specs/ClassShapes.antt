-- Class definitions as they are written: superclasses, slots with their options, options of the class (ISO/IEC 13816:2007, 15.1).
use Rattle.std.specs.Prelude.{ℕ, ◌+◌, Bool, true, false, ◌||◌, List, [], ◌∷◌, ◌++◌, Option, Some, None, if◌then◌else◌, nat_lt, length, map, codes}
use Rattle.std.specs.List.{list_any, filter_map}
use Rattle.base.specs.declared.place.Place.{Place}
use Rattle.base.specs.declared.datum.Name.{Name}
use Rattle.base.specs.declared.datum.Symbol.{Symbol}
use Rattle.base.specs.declared.datum.Symbol.TheVariants.{Named, Fresh}
use Rattle.base.specs.Data.{Item, item, Content, integer, character, symbol, string, vector, nil, list, place_of}
use Rattle.base.specs.DataNames.{symbol_text}
use Rattle.lang_derived.specs.Asked.{list_items, is_word}
use Rattle.front_profile.specs.declared.elaboration.Accessor.{Accessor}
use Rattle.front_profile.specs.declared.elaboration.Accessor.TheVariants.{Reads, Writes, Asks}
use Rattle.front_profile.specs.GivenNames.{GivenName, no_name, unfit, lacking, given, given_name, setter_of_text}
use Rattle.front_profile.specs.Shapes.{symbol_of, name_of}

-- what an option of a slot says; a wrong one has an unknown name or a value that does not fit
pub data SlotOption : Type 0 where
  wrong_option : SlotOption
  initform_of : Item → SlotOption
  initarg_of : Name → SlotOption
  method_of : Accessor → GivenName → SlotOption
  -- an accessor: a reader of the name, and a writer of `(setf name)`
  accessor_of : Name → GivenName → SlotOption

-- the options that a symbol of which no name is made is no value of
abbrev pub initarg_by : Option Symbol → Option SlotOption
initarg_by None = Some wrong_option
initarg_by (Some (Named n)) = Some (initarg_of n)
initarg_by (Some (Fresh e s)) = None

abbrev pub method_by : Accessor → GivenName → Option SlotOption
method_by k no_name = Some wrong_option
method_by k unfit = None
method_by k lacking = Some (method_of k lacking)
method_by k (given n) = Some (method_of k (given n))

-- a longer name than `(setf name)` allows is no value of an accessor
abbrev pub accessor_with : Name → GivenName → SlotOption
accessor_with n no_name = wrong_option
accessor_with n unfit = wrong_option
accessor_with n lacking = accessor_of n lacking
accessor_with n (given m) = accessor_of n (given m)

abbrev pub accessor_by : List (List ℕ) → Option Symbol → Option SlotOption
accessor_by names None = Some wrong_option
accessor_by names (Some (Named n)) = Some (accessor_with n (setter_of_text names (symbol_text names (Named n))))
accessor_by names (Some (Fresh e s)) = None

abbrev pub slot_option : List (List ℕ) → Item → Item → Option SlotOption
slot_option names o d =
    if is_word names (codes ":initform") o then Some (initform_of d)
    else if is_word names (codes ":initarg") o then initarg_by (symbol_of d)
    else if is_word names (codes ":reader") o then method_by Reads (given_name names d)
    else if is_word names (codes ":writer") o then method_by Writes (given_name names d)
    else if is_word names (codes ":boundp") o then method_by Asks (given_name names d)
    else if is_word names (codes ":accessor") o then accessor_by names (symbol_of d)
    else Some wrong_option

abbrev pub option_and : Option SlotOption → Option (List SlotOption) → Option (List SlotOption)
option_and None os = None
option_and (Some o) None = None
option_and (Some o) (Some os) = Some (o ∷ os)

-- options, each a name and a value
abbrev pub slot_options : List (List ℕ) → List Item → Option (List SlotOption)
slot_options names [] = Some []
slot_options names (o ∷ []) = None
slot_options names (o ∷ d ∷ ds) = option_and (slot_option names o d) (slot_options names ds)

-- a slot: its name, or a list of its name and its options
pub record WrittenSlot : Type 0 where
  pub place : Place
  pub name : Name
  pub options : List SlotOption

abbrev pub slot_with : Place → Option Name → Option (List SlotOption) → Option WrittenSlot
slot_with p None os = None
slot_with p (Some n) None = None
slot_with p (Some n) (Some os) = Some (record { place = p; name = n; options = os })

abbrev pub name_in : Option Symbol → Option Name
name_in None = None
name_in (Some x) = name_of x

abbrev pub slot_in_list : List (List ℕ) → Place → Option (List Item) → Option WrittenSlot
slot_in_list names p None = None
slot_in_list names p (Some []) = None
slot_in_list names p (Some (d ∷ ds)) = slot_with p (name_in (symbol_of d)) (slot_options names ds)

abbrev pub slot_by : List (List ℕ) → Item → Option Symbol → Option WrittenSlot
slot_by names d None = slot_in_list names (place_of d) (list_items d)
slot_by names d (Some x) = slot_with (place_of d) (name_of x) (Some [])

abbrev pub slot_and : Option WrittenSlot → Option (List WrittenSlot) → Option (List WrittenSlot)
slot_and None ss = None
slot_and (Some s) None = None
slot_and (Some s) (Some ss) = Some (s ∷ ss)

abbrev pub each_slot : List (List ℕ) → List Item → Option (List WrittenSlot)
each_slot names [] = Some []
each_slot names (d ∷ ds) = slot_and (slot_by names d (symbol_of d)) (each_slot names ds)

abbrev pub slots_in : List (List ℕ) → Option (List Item) → Option (List WrittenSlot)
slots_in names None = None
slots_in names (Some ds) = each_slot names ds

-- superclasses: names with their places
pub record WrittenSuper : Type 0 where
  pub name : Name
  pub place : Place

abbrev pub super_and : Place → Option Name → Option (List WrittenSuper) → Option (List WrittenSuper)
super_and p None cs = None
super_and p (Some n) None = None
super_and p (Some n) (Some cs) = Some (record { name = n; place = p } ∷ cs)

abbrev pub each_super : List Item → Option (List WrittenSuper)
each_super [] = Some []
each_super (d ∷ ds) = super_and (place_of d) (name_in (symbol_of d)) (each_super ds)

abbrev pub supers_in : Option (List Item) → Option (List WrittenSuper)
supers_in None = None
supers_in (Some ds) = each_super ds

-- options of the class: `(:abstractp t)` or `(:abstractp nil)`, at most one; some others are left out
pub data ClassOption : Type 0 where
  no_option : ClassOption
  left_out : ClassOption
  abstract : Bool → ClassOption

abbrev pub is_nil_content : Content → Bool
is_nil_content nil = true
is_nil_content (integer n) = false
is_nil_content (character c) = false
is_nil_content (symbol s) = false
is_nil_content (string bytes) = false
is_nil_content (vector ds) = false
is_nil_content (list ds t) = false

abbrev pub is_nil : Item → Bool
is_nil (item p c) = is_nil_content c

abbrev pub abstract_option : List (List ℕ) → List Item → ClassOption
abstract_option names [] = no_option
abstract_option names (d ∷ []) =
    if is_word names (codes "t") d then abstract true else if is_nil d then abstract false else no_option
abstract_option names (d ∷ e ∷ ds) = no_option

abbrev pub is_left_out_option : List (List ℕ) → Item → Bool
is_left_out_option names h =
    is_word names (codes ":metaclass") h || is_word names (codes ":generic-function-class") h
    || is_word names (codes ":method-combination") h

abbrev pub class_option : List (List ℕ) → Option (List Item) → ClassOption
class_option names None = no_option
class_option names (Some []) = no_option
class_option names (Some (h ∷ ds)) =
    if is_word names (codes ":abstractp") h then abstract_option names ds
    else if is_left_out_option names h then left_out
    else no_option

abbrev pub class_options : List (List ℕ) → List Item → List ClassOption
class_options names ds = map (λ d. class_option names (list_items d)) ds

abbrev pub is_no_option : ClassOption → Bool
is_no_option no_option = true
is_no_option left_out = false
is_no_option (abstract b) = false

abbrev pub is_of_left_out : ClassOption → Bool
is_of_left_out left_out = true
is_of_left_out no_option = false
is_of_left_out (abstract b) = false

abbrev pub abstract_in : ClassOption → Option Bool
abstract_in (abstract b) = Some b
abstract_in no_option = None
abstract_in left_out = None

abbrev pub are_options : List ClassOption → Bool
are_options os = if list_any is_no_option os then false else nat_lt (length (filter_map abstract_in os)) 2

abbrev pub first_truth : List Bool → Bool
first_truth [] = false
first_truth (b ∷ bs) = b

abbrev pub is_abstract : List ClassOption → Bool
is_abstract os = first_truth (filter_map abstract_in os)
