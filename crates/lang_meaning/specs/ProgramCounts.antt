-- The nodes of a program (this profile's own measure).
use Rattle.std.specs.Prelude.{ℕ, ◌+◌, ◌*◌, length}
use Rattle.std.specs.List.{sum_by}
use Rattle.base.specs.DataMeasures.{size_of}
use Rattle.lang_meaning.specs.declared.program.LiteralRow.{LiteralRow}
use Rattle.lang_meaning.specs.declared.program.LiteralRow.TheVariants as row
use Rattle.lang_meaning.specs.declared.program.Procedure.{Procedure}
use Rattle.lang_meaning.specs.declared.program.SlotRow.{SlotRow}
use Rattle.lang_meaning.specs.declared.program.ClassRow.{ClassRow}
use Rattle.lang_meaning.specs.declared.program.ProgramRows.{ProgramRows}
use Rattle.lang_meaning.specs.Counts.{nodes, all_nodes, parameter_count, application_words}

-- a literal counts the size of its datum; a class or a function counts one
abbrev pub row_nodes : LiteralRow → ℕ
row_nodes (row.Datum d) = size_of d
row_nodes (row.Class c) = 1
row_nodes (row.Function name) = 1

-- a procedure counts its body with the functions inside, its parameters, and four
abbrev pub procedure_nodes : Procedure → ℕ
procedure_nodes p = all_nodes p.body + parameter_count p.required p.rest + 4

-- a class counts its precedence list, its slots and their initargs
abbrev pub slot_nodes : SlotRow → ℕ
slot_nodes s = 1 + length s.initargs

abbrev pub class_nodes : ClassRow → ℕ
class_nodes c = length c.precedence + sum_by slot_nodes c.slots

-- a generic function counts four
abbrev pub program_nodes : ProgramRows → ℕ
program_nodes program =
    sum_by row_nodes program.literals
    + sum_by procedure_nodes program.procedures
    + sum_by class_nodes program.classes
    + 4 * length program.generics
    + sum_by all_nodes program.main

-- the stack words of an active application of a procedure, besides one for each argument
abbrev pub frame_words : Procedure → ℕ
frame_words p = application_words (nodes p.body)
