-- What the parts of a program make, so far as it is this crate's own: the classes behind those that are built in, symbols, and what stands for a slot.
use Rattle.std.specs.Prelude.{ℕ, List, map}
use Rattle.base.specs.declared.datum.Name.{Name}
use Rattle.lang_meaning.specs.declared.program.SlotRow.{SlotRow}
use Rattle.lang_meaning.specs.declared.program.ClassRow.{ClassRow}
use Rattle.lang_meaning.specs.Values.{Value, symbol, named}
use Rattle.lang_meaning.specs.Objects.{built_in_classes}
use Rattle.lang_meaning.specs.Lookup.{text}
use Rattle.lang_meaning.specs.Recipes.{Recipe, OfSlot, classes_recipe}
use Rattle.lang_meaning.specs.Recipes as recipes

unfoldable pub first_recipe : ℕ → Recipe (List Value × Value × Value)
first_recipe classes = classes_recipe built_in_classes classes

-- the symbols of names
abbrev pub symbols_of : List (List ℕ) → List Name → List Value
symbols_of names ns = map (λ (a : Name). symbol (named (text names a.0))) ns

-- for a slot stand the list of its initargs and its initform's function
abbrev pub of_slot : OfSlot (Value × Value)
of_slot s initargs initform = (initargs, initform)

abbrev pub slot_recipe : List (List ℕ) → SlotRow → Recipe (Value × Value)
slot_recipe names s = recipes.slot_recipe of_slot names s

abbrev pub slots_recipe : List (List ℕ) → ClassRow → Recipe (List (Value × Value))
slots_recipe names c = recipes.slots_recipe of_slot names c
