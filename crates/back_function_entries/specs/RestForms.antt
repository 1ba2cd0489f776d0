-- **The form that calls a function of a definition by its name**, which takes further arguments.
use Rattle.std.specs.Prelude.{◌≡◌, ℕ, ◌≤◌, true, Some, length, slice_get, is_some}
use Rattle.lang_meaning.specs.declared.program.Callee.TheVariants.{Procedure}
use Rattle.lang_meaning.specs.declared.program.FunctionRow.{FunctionRow}
use Rattle.lang_meaning.specs.Literals.{function_row}
use Rattle.lang_meaning.specs.Lookup.{text}
use Rattle.flat_language.specs.declared.program.FlatProcedure.{FlatProcedure}
use Rattle.flat_language.specs.FlatForm.{call, FlatForms}
use Rattle.flat_language.specs.FlatNodes.{count_forms}
use Rattle.back_relation.specs.Setting.{Setting}
use Rattle.back_relation.specs.Forms.{DoesForm, context_at, code_at}
use Rattle.back_relation.specs.Right.{ProgramIsRight}
use Rattle.back_relation.specs.FormLaws.{AllDo}
use Rattle.back_function_entries.specs.KnownCalls.{BodiesBelow}

-- a name with so many arguments is that of such a function
pub record IsRestCall (setting : Setting) (name count : ℕ) : Type 0 where
  pub row : FunctionRow
  pub there : function_row setting.names setting.program.functions (text setting.names name) ≡ Some row
  pub number : ℕ
  pub callee : row.callee ≡ Procedure number
  pub function : FlatProcedure
  pub found : slice_get setting.program.procedures number ≡ Some function
  pub takes_more : is_some function.rest ≡ true
  pub enough : length function.required ≤ count

-- the form does what it means where its arguments do
abbrev pub LawOfRestForms : Type 0
LawOfRestForms =
    (setting : Setting) (k turns name : ℕ) (fs : FlatForms) → ProgramIsRight setting → turns ≤ setting.turns_each → IsRestCall setting name (count_forms fs)
    → AllDo setting k turns fs → BodiesBelow setting k → DoesForm setting turns (context_at setting k) (code_at setting k turns) (call name fs)
