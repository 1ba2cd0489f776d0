-- Slots that a class has by its own definition and by those of the classes above it (ISO/IEC 13816:2007, 15).
use Rattle.std.specs.Prelude.{ℕ, ◌==◌, Bool, not, List, [], ◌∷◌, ◌++◌, Option, Some, None, map, filter, flat_map, slice_get, is_some, if◌then◌else◌}
use Rattle.std.specs.List.{list_any}
use Rattle.base.specs.declared.datum.Name.{Name}
use Rattle.lang_meaning.specs.declared.program.SlotRow.{SlotRow}

abbrev pub same_name : Name → Name → Bool
same_name m n = m.0 == n.0

abbrev pub has_name : Name → List Name → Bool
has_name n ns = list_any (same_name n) ns

-- each name kept at its first place
abbrev pub without_name : Name → List Name → List Name
without_name n ms = filter (λ m. not (same_name n m)) ms

abbrev pub each_first : List Name → List Name
each_first [] = []
each_first (n ∷ ns) = n ∷ without_name n (each_first ns)

-- with the name at its end, unless it is there, and with these names
abbrev pub with_name : Name → List Name → List Name
with_name n ns = if has_name n ns then ns else ns ++ n ∷ []

abbrev pub with_names : List Name → List Name → List Name
with_names [] ns = ns
with_names (m ∷ ms) ns = with_names ms (with_name m ns)

-- all that is said of the slot of a name
abbrev pub of_name : Name → List SlotRow → List SlotRow
of_name n slots = filter (λ s. same_name n s.name) slots

-- the last initform that is given
abbrev pub last_initform : List SlotRow → Option ℕ
last_initform [] = None
last_initform (s ∷ ss) = if is_some (last_initform ss) then last_initform ss else s.initform

-- of all that is said of it from the least specific class to the most specific one, the initargs of a slot are
-- united, and its initform is that of the most specific class that gives one
abbrev pub initargs_of : Name → List SlotRow → List Name
initargs_of n said = each_first (flat_map (λ s. s.initargs) (of_name n said))

abbrev pub initform_of : Name → List SlotRow → Option ℕ
initform_of n said = last_initform (of_name n said)

abbrev pub slot_of : List SlotRow → Name → SlotRow
slot_of said n = record { name = n; initargs = initargs_of n said; initform = initform_of n said }

abbrev pub slots_of : List SlotRow → List Name → List SlotRow
slots_of said names = map (slot_of said) names

-- the slots, each name kept at its first place
abbrev pub names_of : List SlotRow → List Name
names_of said = map (λ s. s.name) said

unfoldable pub united : List SlotRow → List SlotRow
united said = slots_of said (each_first (names_of said))

-- what the classes of a precedence list say of slots in their own definitions, from the least specific class to
-- the most specific one
abbrev pub slots_said_by : Option (List SlotRow) → List SlotRow
slots_said_by (Some slots) = slots
slots_said_by None = []

abbrev pub own_slots : List (List SlotRow) → ℕ → List SlotRow
own_slots own c = slots_said_by (slice_get own c)

abbrev pub said_by : List (List SlotRow) → List ℕ → List SlotRow
said_by own [] = []
said_by own (c ∷ cs) = said_by own cs ++ own_slots own c
