-- In a program that was made flat, each variable with a box is captured by a function that is made in the body of its function.
use Rattle.lang_meaning.specs.declared.program.ProgramRows.{ProgramRows}
use Rattle.flat_language.specs.Flatten.{flat_program}
use Rattle.flat_boxes.specs.Boxes.{ProgramBoxes}
use Rattle.flat_boxes.specs.Parameters.{ParametersDiffer}

abbrev pub LawOfBoxesCaptured : Type 0
LawOfBoxesCaptured = (program : ProgramRows) → ParametersDiffer program → ProgramBoxes (flat_program program)
