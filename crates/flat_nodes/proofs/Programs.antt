-- Whole programs: their procedures and main forms, with the functions inside these.
use Rattle.std.proofs.Common.{◌≡◌, ℕ, ◌+◌, List, [], ◌∷◌, arith}
use Rattle.std.specs.Prelude.{sum_by}
use Rattle.std.proofs.lemmas.List.Sums.{sum_by-cons, sum_by-append}
use Rattle.lang_meaning.specs.declared.program.Procedure.{Procedure}
use Rattle.lang_meaning.specs.Counts.{all_nodes}
use Rattle.lang_meaning.specs.Form.{Form}
use Rattle.lang_meaning.specs.ProgramCounts.{procedure_nodes}
use Rattle.flat_language.specs.FlatNodes.{nodes}
use Rattle.flat_language.specs.Scope.{no_scope}
use Rattle.flat_language.specs.Flatten.{functions, functions_of_procedures, flat, body_scope, flat_procedure, inner_procedures, flat_procedures, inner_of_procedures, flat_mains, inner_of_mains}
use Rattle.flat_nodes.specs.ProgramNodes.{function_nodes}
use Rattle.flat_nodes.specs.Laws.{LawOfFlatProgramNodes}
use Rattle.flat_nodes.proofs.Forms.{parameters_count, inside_same}

procedures_inside :
    (n : ℕ) (ps : List Procedure)
    → sum_by function_nodes (flat_procedures n ps) + sum_by function_nodes (inner_of_procedures n ps) ≡ sum_by procedure_nodes ps
procedures_inside n [] = omega arith
procedures_inside n (p ∷ ps) =
    let m = n + functions p.body in
    let s = body_scope p.required p.rest p.body no_scope in
    omega (
      arith,
      inside_same s n p.body,
      parameters_count p.required p.rest p.body,
      procedures_inside m ps,
      sum_by-cons function_nodes (flat_procedure no_scope n [] p.required p.rest p.body) (flat_procedures m ps),
      sum_by-append function_nodes (inner_procedures s n p.body) (inner_of_procedures m ps),
      sum_by-cons procedure_nodes p ps,
    )

mains_inside :
    (n : ℕ) (fs : List Form) → sum_by nodes (flat_mains n fs) + sum_by function_nodes (inner_of_mains n fs) ≡ sum_by all_nodes fs
mains_inside n [] = omega arith
mains_inside n (f ∷ fs) =
    let m = n + functions f in
    omega (
      arith,
      inside_same no_scope n f,
      mains_inside m fs,
      sum_by-cons nodes (flat no_scope n f) (flat_mains m fs),
      sum_by-append function_nodes (inner_procedures no_scope n f) (inner_of_mains m fs),
      sum_by-cons all_nodes f fs,
    )

-- **the law of the nodes of flat programs**
pub law_of_flat_program_nodes : LawOfFlatProgramNodes
law_of_flat_program_nodes program =
    let n = functions_of_procedures program.procedures in
    omega (
      arith,
      procedures_inside 0 program.procedures,
      mains_inside n program.main,
      sum_by-append function_nodes (inner_of_procedures 0 program.procedures) (inner_of_mains n program.main),
    )
