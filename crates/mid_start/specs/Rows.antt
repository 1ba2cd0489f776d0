-- What is asked of the rows of a program, and how large what they make can be.
use Rattle.std.specs.Prelude.{◌≡◌, ℕ, ◌+◌, ◌*◌, ◌^◌, ◌<◌, true, List, [], ◌∷◌, length, Some, slice_get}
use Rattle.std.specs.List.{sum_by}
use Rattle.base.specs.declared.datum.Name.{Name}
use Rattle.base.specs.DataMeasures.{NamesBelow, size_of}
use Rattle.base.specs.Data.{Item}
use Rattle.base.specs.WellFormedData.{WellFormed}
use Rattle.lang_meaning.specs.declared.program.ProgramRows.{ProgramRows}
use Rattle.lang_meaning.specs.declared.program.SlotRow.{SlotRow}
use Rattle.lang_meaning.specs.declared.program.ClassRow.{ClassRow}
use Rattle.lang_meaning.specs.declared.program.Callee.{Callee}
use Rattle.lang_meaning.specs.declared.program.Callee.TheVariants as callee
use Rattle.lang_meaning.specs.declared.program.FunctionRow.{FunctionRow}
use Rattle.lang_meaning.specs.declared.program.LiteralRow.{LiteralRow}
use Rattle.lang_meaning.specs.declared.program.LiteralRow.TheVariants as row
use Rattle.lang_meaning.specs.BuiltIn.{built_in_precedence, built_in_slots}
use Rattle.lang_meaning.specs.Facts.{begins_with_built_in}
use Rattle.lang_meaning.specs.ProgramCounts.{row_nodes, class_nodes}
use Rattle.mid_arena.specs.FixedWords.{nil_text}

-- ---- sizes: each unit takes at most 160 words

abbrev pub literal_size : LiteralRow → ℕ
literal_size (row.Datum d) = size_of d
literal_size (row.Class c) = 0
literal_size (row.Function name) = 0

-- a slot's name, the list of its initargs, and the function of its initform
abbrev pub slot_size : SlotRow → ℕ
slot_size s = 3 + length s.initargs

abbrev pub slots_size : ClassRow → ℕ
slots_size c = sum_by slot_size c.slots

-- a class with its name
abbrev pub class_size : ClassRow → ℕ
class_size c = 2 + length c.precedence + length c.slots

-- all together, with the symbol t and the streams: at most so many, by the nodes of the literals and of the classes
abbrev pub static_size : List ClassRow → List FunctionRow → List LiteralRow → ℕ
static_size classes functions literals =
    2 + length functions + sum_by row_nodes literals + 4 * sum_by class_nodes classes + 2 * length classes

-- ---- words: what rows make takes at most so many

-- a symbol, or a unit of the size of a datum
abbrev pub unit_words : ℕ
unit_words = 70

abbrev pub most_literal_words : LiteralRow → ℕ
most_literal_words l = unit_words * literal_size l

-- a slot's name, the list of its initargs, and the function of its initform
abbrev pub most_slot_words : SlotRow → ℕ
most_slot_words s = unit_words + 2 + 2 * unit_words * length s.initargs

abbrev pub most_slots_words : ClassRow → ℕ
most_slots_words c = sum_by most_slot_words c.slots

-- a class, with its name, and three words for each slot
abbrev pub most_class_words : ClassRow → ℕ
most_class_words c = unit_words + 7 + length c.precedence + 3 * length c.slots

-- all together, with the symbol t and the streams
abbrev pub most_static_words : List ClassRow → List FunctionRow → List LiteralRow → ℕ
most_static_words classes functions literals =
    unit_words + 2 + 2 * length functions + sum_by most_literal_words literals + (sum_by most_slots_words classes + sum_by most_class_words classes)

-- ---- rows

-- the number of what a name calls is no greater than any program's
abbrev pub CalleeFits : Callee → Type 0
CalleeFits (callee.Procedure p) = p < 2 ^ 28
CalleeFits (callee.Generic g) = g < 2 ^ 28

-- data are in form, and their names in the table
abbrev pub LiteralFits : (names : ℕ) → LiteralRow → Type 0
LiteralFits names (row.Datum d) = WellFormed names d
LiteralFits names (row.Class c) = Unit {0}
LiteralFits names (row.Function name) = Unit {0}

-- the names of the slot are in the table
pub record SlotFits (names : ℕ) (s : SlotRow) : Type 0 where
  pub name : s.name.0 < names
  pub initargs : (i : ℕ) (a : Name) → slice_get s.initargs i ≡ Some a → a.0 < names
  pub initform : (p : ℕ) → s.initform ≡ Some p → p < 2 ^ 28

-- the names of the class are in the table, and the classes above it are among so many
pub record ClassFits (names classes : ℕ) (c : ClassRow) : Type 0 where
  pub name : c.name.0 < names
  pub precedence : (i d : ℕ) → slice_get c.precedence i ≡ Some d → d < classes
  pub slots : (i : ℕ) (s : SlotRow) → slice_get c.slots i ≡ Some s → SlotFits names s

-- all rows, where t is the name of the usual true value, and no name has the text of nil
pub record RowsFit (names : List (List ℕ)) (true_name : Name) (classes : List ClassRow) (functions : List FunctionRow) (literals : List LiteralRow) : Type 0 where
  pub true_text : slice_get names true_name.0 ≡ Some (116 ∷ [])
  pub no_nil : (i : ℕ) → slice_get names i ≡ Some nil_text → ⊥
  pub built_in : begins_with_built_in classes built_in_precedence built_in_slots ≡ true
  pub class_rows : (i : ℕ) (c : ClassRow) → slice_get classes i ≡ Some c → ClassFits (length names) (length classes) c
  pub function_rows : (i : ℕ) (f : FunctionRow) → slice_get functions i ≡ Some f → CalleeFits f.callee
  pub literal_rows : (i : ℕ) (l : LiteralRow) → slice_get literals i ≡ Some l → LiteralFits (length names) l

-- the names of a program's classes, slots and data are in the table, t has that name, and no name has the text of nil
pub record NamesThere (names : List (List ℕ)) (true_name : Name) (program : ProgramRows) : Type 0 where
  pub true_text : slice_get names true_name.0 ≡ Some (116 ∷ [])
  pub no_nil : (i : ℕ) → slice_get names i ≡ Some nil_text → ⊥
  pub classes : (i : ℕ) (c : ClassRow) → slice_get program.classes i ≡ Some c → c.name.0 < length names
  pub slots :
      (i j : ℕ) (c : ClassRow) (s : SlotRow) → slice_get program.classes i ≡ Some c → slice_get c.slots j ≡ Some s → s.name.0 < length names
  pub initargs :
      (i j k : ℕ) (c : ClassRow) (s : SlotRow) (a : Name) → slice_get program.classes i ≡ Some c → slice_get c.slots j ≡ Some s
      → slice_get s.initargs k ≡ Some a → a.0 < length names
  pub literals : (i : ℕ) (d : Item) → slice_get program.literals i ≡ Some (row.Datum d) → NamesBelow (length names) d
