-- What is made of all bodies of a program.
use Rattle.std.specs.Prelude.{◌≡◌, List, ◌++◌, drop}
use Rattle.lang_meaning.specs.Form.{Form}
use Rattle.lang_meaning.specs.declared.program.Procedure.{Procedure}
use Rattle.lang_meaning.specs.declared.program.ProgramRows.{ProgramRows}
use Rattle.flat_language.specs.FlatForm.{FlatForm}
use Rattle.flat_language.specs.declared.program.FlatProcedure.{FlatProcedure}
use Rattle.flat_language.specs.Flatten.{functions_of_procedures, flat_procedures, inner_of_procedures, flat_mains, inner_of_mains}
use Rattle.flat_conversion.specs.declared.program.Bodies.{Bodies}
use Rattle.flat_conversion.specs.declared.progress.Progress.{Progress}
use Rattle.flat_conversion.specs.declared.variables.Binder.{Binder}
use Rattle.flat_conversion.specs.Binders.{binders_of_procedures, binders_of_mains}
use Rattle.flat_conversion.specs.Makes.{MakesSo}

-- all procedures, and all main forms
abbrev pub MakesProcedures : List Procedure → List Binder → Progress → Progress → List FlatProcedure → Type 0
MakesProcedures ps table before after made =
    (rest : List Binder) → drop before.binders table ≡ binders_of_procedures ps rest
    → MakesSo (λ n. flat_procedures n ps) (λ n. inner_of_procedures n ps) table before after made rest

abbrev pub MakesMains : List Form → List Binder → Progress → Progress → List FlatForm → Type 0
MakesMains fs table before after made =
    (rest : List Binder) → drop before.binders table ≡ binders_of_mains fs rest
    → MakesSo (λ n. flat_mains n fs) (λ n. inner_of_mains n fs) table before after made rest

-- procedures and main forms made flat, and the procedures of the functions inside both
pub record AreBodies (rows : ProgramRows) (made : Bodies) : Type 0 where
  pub procedures : made.procedures ≡ flat_procedures 0 rows.procedures
  pub lambdas : made.lambdas ≡ inner_of_procedures 0 rows.procedures ++ inner_of_mains (functions_of_procedures rows.procedures) rows.main
  pub main : made.main ≡ flat_mains (functions_of_procedures rows.procedures) rows.main
