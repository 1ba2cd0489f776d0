-- What a definition says of slots, and how a call stops.
use Rattle.std.specs.Prelude.{◌≡◌, Bool, ◌||◌, nat_lt, List, Option, Some, length, map}
use Rattle.base.specs.declared.datum.Name.{Name}
use Rattle.base.specs.declared.reason.Refusal.{Refusal}
use Rattle.base.specs.declared.reason.Stop.{Stop}
use Rattle.base.specs.declared.reason.Stop.TheVariants.{Refused, NoMemory}
use Rattle.lang_classes.specs.declared.slot_spec.SlotSpec.{SlotSpec}
use Rattle.lang_classes.specs.InheritedClasses.{GivenSlot, slot_limit}
use Rattle.lang_classes.specs.InheritedSlots.{has_name, with_name}

-- the slots of a definition with their places, and their names
abbrev pub given_slot : SlotSpec → GivenSlot
given_slot s = record {
  place = s.place;
  slot = record { name = s.name; initargs = s.initargs; initform = s.initform };
}

abbrev pub given : List SlotSpec → List GivenSlot
given specs = map given_slot specs

abbrev pub spec_names : List SlotSpec → List Name
spec_names specs = map (λ s. s.name) specs

-- a slot is wrong where it repeats an earlier one, or is one past the limit behind the names so far
abbrev pub is_wrong : Name → List Name → List Name → Bool
is_wrong n earlier names = has_name n earlier || nat_lt slot_limit (length (with_name n names))

-- a call that is refused is refused for this reason; for want of memory it may always stop
abbrev pub StopsBy : Option Refusal → Stop → Type 0
StopsBy r (Refused x) = r ≡ Some x
StopsBy r NoMemory = Unit {0}
