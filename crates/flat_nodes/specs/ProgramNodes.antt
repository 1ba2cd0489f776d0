-- The nodes of a flat program, counted as those of a program are.
use Rattle.std.specs.Prelude.{ℕ, ◌+◌, ◌*◌, length, sum_by}
use Rattle.lang_meaning.specs.ProgramCounts.{row_nodes, class_nodes}
use Rattle.flat_language.specs.declared.program.FlatProcedure.{FlatProcedure}
use Rattle.flat_language.specs.declared.program.FlatProgram.{FlatProgram}
use Rattle.flat_language.specs.FlatNodes.{homes, nodes}

-- a procedure, and the function of a form, counts its body, its parameters, and four
abbrev pub function_nodes : FlatProcedure → ℕ
function_nodes q = nodes q.body + length (homes q) + 4

-- a generic function counts four
abbrev pub flat_program_nodes : FlatProgram → ℕ
flat_program_nodes program =
    sum_by row_nodes program.literals
    + (sum_by function_nodes program.procedures + sum_by function_nodes program.lambdas)
    + sum_by class_nodes program.classes
    + 4 * length program.generics
    + sum_by nodes program.main
