-- What stands for the name of a class or slot, which is no object, and what stands for a slot.
use Rattle.std.specs.Prelude.{ℕ, List}
use Rattle.base.specs.declared.datum.Name.{Name}
use Rattle.lang_meaning.specs.declared.program.SlotRow.{SlotRow}
use Rattle.lang_meaning.specs.declared.program.ClassRow.{ClassRow}
use Rattle.lang_meaning.specs.Values.{Value, symbol, named}
use Rattle.lang_meaning.specs.Lookup.{text}
use Rattle.lang_meaning.specs.Recipes.{Recipe, OfSlot, no_more}
use Rattle.lang_meaning.specs.Recipes as recipes

-- the symbol of a name, which is no object
abbrev pub name_recipe : List (List ℕ) → Name → Recipe Value
name_recipe names name = no_more (symbol (named (text names name.0)))

-- what a class says of a slot: its name, the list of its initargs, and its initform's function
pub record SlotValues : Type 0 where
  pub name : Value
  pub initargs : Value
  pub initform : Value

abbrev pub of_slot : List (List ℕ) → OfSlot SlotValues
of_slot names s initargs initform = record { name = symbol (named (text names s.name.0)); initargs = initargs; initform = initform }

abbrev pub slot_recipe : List (List ℕ) → SlotRow → Recipe SlotValues
slot_recipe names s = recipes.slot_recipe (of_slot names) names s

abbrev pub slots_recipe : List (List ℕ) → ClassRow → Recipe (List SlotValues)
slots_recipe names c = recipes.slots_recipe (of_slot names) names c
