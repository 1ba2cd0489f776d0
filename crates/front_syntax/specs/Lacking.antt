-- Names that a definition asks for: whether the table of names lacks one, and that no later table does.
use Rattle.std.specs.Prelude.{◌≡◌, ℕ, Bool, ◌||◌, true, false, nat_le, List, [], ◌∷◌, Option, Some, None, flat_map, if◌then◌else◌, length, codes}
use Rattle.std.specs.List.{list_any}
use Rattle.base.specs.Names.{Extends}
use Rattle.base.specs.Data.{Item}
use Rattle.base.specs.DataNames.{text_of}
use Rattle.lang_derived.specs.Asked.{list_items, is_word, setf_text}
use Rattle.front_profile.specs.declared.special.Special.{Special}
use Rattle.front_profile.specs.declared.special.Special.TheVariants as name
use Rattle.front_profile.specs.GivenNames.{GivenName, no_name, unfit, lacking, given, given_name, longest_set, setter_of_symbol}
use Rattle.front_profile.specs.ClassShapes.{SlotOption, slot_option, slot_options, WrittenSlot, slot_by, each_slot, slots_in}
use Rattle.front_profile.specs.Shapes.{symbol_of}
use Rattle.front_profile.specs.ClassRows.{functions_of_option, functions_of, all_functions, is_lacking}
use Rattle.front_profile.specs.Rows.{special_of}

-- names

abbrev pub is_lacking_name : GivenName → Bool
is_lacking_name lacking = true
is_lacking_name no_name = false
is_lacking_name unfit = false
is_lacking_name (given n) = false

-- the name `(setf s)` of a datum that is the symbol s, and the name that a datum is

abbrev pub setter_lacks : Item → List (List ℕ) → Bool
setter_lacks d names = is_lacking_name (setter_of_symbol names (symbol_of d))

abbrev pub name_lacks : Item → List (List ℕ) → Bool
name_lacks d names = is_lacking_name (given_name names d)

-- the text of the name `(setf s)`, where a name is made of the text of s
abbrev pub text_to_set : Option (List ℕ) → Option (List ℕ)
text_to_set None = None
text_to_set (Some text) = if nat_le (length text) longest_set then Some (setf_text text) else None

-- the datum s of a list `(setf s)`
abbrev pub operator_in : List (List ℕ) → Option (List Item) → Option Item
operator_in names None = None
operator_in names (Some []) = None
operator_in names (Some (h ∷ [])) = None
operator_in names (Some (h ∷ d ∷ [])) = if is_word names (codes "setf") h then Some d else None
operator_in names (Some (h ∷ d ∷ e ∷ ds)) = None

-- what stands behind the first datum of a list
abbrev pub behind_first : Option (List Item) → Option (List Item)
behind_first None = None
behind_first (Some []) = None
behind_first (Some (d ∷ ds)) = Some ds

-- the slots of a class definition, by what stands behind its head
abbrev pub slots_behind : List Item → Option (List Item)
slots_behind [] = None
slots_behind (d ∷ []) = None
slots_behind (d ∷ cs ∷ []) = None
slots_behind (d ∷ cs ∷ xs ∷ os) = list_items xs

-- slots and their options as they are written

abbrev pub option_lacks : Option SlotOption → Bool
option_lacks None = false
option_lacks (Some o) = list_any is_lacking (functions_of_option o)

abbrev pub options_lack : Option (List SlotOption) → Bool
options_lack None = false
options_lack (Some os) = list_any is_lacking (flat_map functions_of_option os)

abbrev pub slot_lacks : Option WrittenSlot → Bool
slot_lacks None = false
slot_lacks (Some x) = list_any is_lacking (functions_of x)

abbrev pub slots_lack : Option (List WrittenSlot) → Bool
slots_lack None = false
slots_lack (Some xs) = list_any is_lacking (all_functions xs)

-- whether the value of that option is the name of a generic function
abbrev pub asks_in : List (List ℕ) → Item → Bool
asks_in names o = (is_word names (codes ":reader") o || is_word names (codes ":writer") o) || is_word names (codes ":boundp") o

-- an option and its value, a list of them, a slot, and a list of slots

abbrev pub pair_lacks : Item → Item → List (List ℕ) → Bool
pair_lacks o d names = option_lacks (slot_option names o d)

abbrev pub list_lacks : List Item → List (List ℕ) → Bool
list_lacks ds names = options_lack (slot_options names ds)

abbrev pub datum_lacks : Item → List (List ℕ) → Bool
datum_lacks d names = slot_lacks (slot_by names d (symbol_of d))

abbrev pub each_lacks : List Item → List (List ℕ) → Bool
each_lacks ds names = slots_lack (each_slot names ds)

-- definitions, by what stands behind their heads

abbrev pub class_lacks : List Item → List (List ℕ) → Bool
class_lacks ds names = slots_lack (slots_in names (slots_behind ds))

abbrev pub first_lacks : List Item → List (List ℕ) → Bool
first_lacks [] names = false
first_lacks (d ∷ ds) names = is_lacking_name (given_name names d)

abbrev pub special_in : List (List ℕ) → Option (List Item) → Option Special
special_in names None = None
special_in names (Some []) = None
special_in names (Some (d ∷ ds)) = special_of (text_of names d)

abbrev pub defines_class : Option Special → Bool
defines_class (Some name.Defclass) = true
defines_class (Some x) = false
defines_class None = false

abbrev pub defines_methods : Option Special → Bool
defines_methods (Some name.Defgeneric) = true
defines_methods (Some name.Defmethod) = true
defines_methods (Some x) = false
defines_methods None = false

abbrev pub headed_lacks : List (List ℕ) → Option Special → Option (List Item) → Bool
headed_lacks names x None = false
headed_lacks names x (Some ds) =
    if defines_class x then class_lacks ds names else if defines_methods x then first_lacks ds names else false

-- whether a form asks for a name that is lacking
abbrev pub form_lacks : Item → List (List ℕ) → Bool
form_lacks d names = headed_lacks names (special_in names (list_items d)) (behind_first (list_items d))

-- neither this table nor a later one lacks a name
pub record HasNames (names : List (List ℕ)) (lacks : List (List ℕ) → Bool) : Type 0 where
  pub under : (later : List (List ℕ)) → Extends names later → lacks later ≡ false
