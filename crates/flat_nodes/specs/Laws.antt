-- A program that is made flat has as many nodes as before.
use Rattle.std.specs.Prelude.{◌≡◌}
use Rattle.lang_meaning.specs.declared.program.ProgramRows.{ProgramRows}
use Rattle.lang_meaning.specs.ProgramCounts.{program_nodes}
use Rattle.flat_language.specs.Flatten.{flat_program}
use Rattle.flat_nodes.specs.ProgramNodes.{flat_program_nodes}

abbrev pub LawOfFlatProgramNodes : Type 0
LawOfFlatProgramNodes = (program : ProgramRows) → flat_program_nodes (flat_program program) ≡ program_nodes program
