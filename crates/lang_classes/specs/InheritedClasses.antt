-- The classes of a file: what a definition adds, and when it is refused (ISO/IEC 13816:2007, 15).
use Rattle.std.specs.Prelude.{◌≡◌, ℕ, ◌+◌, ◌<◌, ◌≤◌, Bool, true, false, ◌||◌, nat_lt, List, [], ◌∷◌, ◌++◌, Option, Some, None, length, map, take, slice_get, option_map, All, if◌then◌else◌}
use Rattle.base.specs.declared.datum.Name.{Name}
use Rattle.base.specs.declared.place.Place.{Place}
use Rattle.base.specs.declared.reason.Refusal.{Refusal}
use Rattle.base.specs.declared.reason.Reason.TheVariants.{BadSupers, BadSlot}
use Rattle.lang_meaning.specs.declared.program.ClassRow.{ClassRow}
use Rattle.lang_meaning.specs.declared.program.SlotRow.{SlotRow}
use Rattle.lang_meaning.specs.BuiltIn.{built_in_precedence, built_in_slots}
use Rattle.lang_meaning.specs.Objects.{built_in_classes}
use Rattle.lang_classes.specs.InheritedPrecedence.{above, precedence_below, supers_fit}
use Rattle.lang_classes.specs.InheritedSlots.{same_name, has_name, each_first, names_of, said_by, united}

-- the classes so far: the row of each, and what each says of slots in its own definition
pub record Hierarchy : Type 0 where
  pub rows : List ClassRow
  pub own : List (List SlotRow)

-- the class of a name
abbrev pub class_named : List ClassRow → Name → Option ℕ
class_named [] n = None
class_named (row ∷ rows) n = if same_name n row.name then Some 0 else option_map (λ c. c + 1) (class_named rows n)

-- the place of a slot among those of its class
abbrev pub place_of_slot : List SlotRow → Name → Option ℕ
place_of_slot [] n = None
place_of_slot (s ∷ ss) n = if same_name n s.name then Some 0 else option_map (λ p. p + 1) (place_of_slot ss n)

-- a slot of a definition, with its place
pub record GivenSlot : Type 0 where
  pub place : Place
  pub slot : SlotRow

abbrev pub slots_given : List GivenSlot → List SlotRow
slots_given given = map (λ g. g.slot) given

-- a class has at most 64 slots, those that it inherits among them (this profile's own limit)
abbrev pub slot_limit : ℕ
slot_limit = 64

-- the first slot of a definition that repeats an earlier one, or that is one past the limit, where the
-- superclasses have slots of the names `inherited`
abbrev pub first_wrong : List Name → List Name → List GivenSlot → Option Place
first_wrong inherited earlier [] = None
first_wrong inherited earlier (g ∷ gs) =
    if has_name g.slot.name earlier || nat_lt slot_limit (length (each_first (inherited ++ earlier ++ g.slot.name ∷ [])))
    then Some g.place
    else first_wrong inherited (earlier ++ g.slot.name ∷ []) gs

abbrev pub bad_slot : Place → Refusal
bad_slot place = record { place = place; reason = BadSlot }

-- the superclasses have too many slots by themselves, which stands at the form, or one slot is wrong, which
-- stands at that slot
unfoldable pub slots_refusal : Place → List Name → List GivenSlot → Option Refusal
slots_refusal place inherited given =
    if nat_lt slot_limit (length (each_first inherited)) then Some (bad_slot place)
    else option_map bad_slot (first_wrong inherited [] given)

-- the names of the slots that the superclasses have
abbrev pub inherited_names : Hierarchy → List ℕ → List Name
inherited_names h supers = names_of (said_by h.own (above h.rows supers))

-- why a definition is refused: its superclasses do not go together, which stands at the form, and else its slots
unfoldable pub refusal : Hierarchy → Place → List ℕ → List GivenSlot → Option Refusal
refusal h place supers given =
    if supers_fit h.rows supers then slots_refusal place (inherited_names h supers) given
    else Some (record { place = place; reason = BadSupers })

-- a class by its precedence list, where the classes say in their own definitions of slots what `own` has
abbrev pub row_of : Name → List ℕ → List (List SlotRow) → Bool → ClassRow
row_of name precedence own abstract_class = record {
  name = name;
  precedence = precedence;
  slots = united (said_by own precedence);
  abstract_class = abstract_class;
}

-- with one class more
abbrev pub with_own : Hierarchy → List GivenSlot → List (List SlotRow)
with_own h given = h.own ++ slots_given given ∷ []

unfoldable pub with_class : Hierarchy → Name → List ℕ → List GivenSlot → Bool → Hierarchy
with_class h name supers given abstract_class = record {
  rows = h.rows ++ row_of name (precedence_below h.rows (length h.rows) supers) (with_own h given) abstract_class ∷ [];
  own = with_own h given;
}

-- what each class is

-- the precedence list of a file's own class is that of its superclasses, which go together
pub record IsInherited (rows : List ClassRow) (c : ℕ) (precedence : List ℕ) : Type 0 where
  pub supers : List ℕ
  pub fit : supers_fit rows supers ≡ true
  pub is : precedence ≡ precedence_below rows c supers

-- the row of class c, where `rows` are those before it and `own` is said up to it
pub record IsRow (rows : List ClassRow) (own : List (List SlotRow)) (c : ℕ) (row : ClassRow) : Type 0 where
  pub in_range : All (λ d. d ≤ c) row.precedence
  pub slots : row.slots ≡ united (said_by own row.precedence)
  pub few : length row.slots ≤ slot_limit
  pub below : built_in_classes ≤ c → IsInherited rows c row.precedence

-- classes by their numbers: each says something of slots of its own, is right, and is the one of its name
pub record AreClasses (h : Hierarchy) : Type 0 where
  pub paired : length h.own ≡ length h.rows
  pub right : (c : ℕ) (row : ClassRow) → slice_get h.rows c ≡ Some row → IsRow (take c h.rows) (take (c + 1) h.own) c row
  pub named : (c : ℕ) (row : ClassRow) → slice_get h.rows c ≡ Some row → class_named h.rows row.name ≡ Some c

-- a built-in class: its precedence list and the number of its slots, by its number
pub record IsBuiltIn (c : ℕ) (row : ClassRow) : Type 0 where
  pub precedence : slice_get built_in_precedence c ≡ Some row.precedence
  pub count : slice_get built_in_slots c ≡ Some (length row.slots)
  pub concrete : row.abstract_class ≡ false

-- the classes of a file: the built-in ones come first
pub record IsHierarchy (h : Hierarchy) : Type 0 where
  pub classes : AreClasses h
  pub enough : built_in_classes ≤ length h.rows
  pub built_in : (c : ℕ) (row : ClassRow) → c < built_in_classes → slice_get h.rows c ≡ Some row → IsBuiltIn c row
