-- The precedence lists and the slots of a hierarchy.
use Rattle.std.specs.Prelude.{ℕ, List, Option, slice_get}
use Rattle.base.specs.declared.datum.Name.{Name}
use Rattle.lang_meaning.specs.declared.program.ClassRow.{ClassRow}
use Rattle.lang_meaning.specs.Classes.{precedence_of, slots_of}
use Rattle.lang_classes.specs.InheritedSlots.{names_of}
use Rattle.lang_classes.specs.InheritedClasses.{Hierarchy}

-- the precedence list of a class
abbrev pub line : Hierarchy → ℕ → List ℕ
line h c = precedence_of (slice_get h.rows c)

-- the names of the slots of a class
abbrev pub names_in : Option ClassRow → List Name
names_in row = names_of (slots_of row)

abbrev pub slots_named : Hierarchy → ℕ → List Name
slots_named h c = names_in (slice_get h.rows c)
