-- **A call of a generic function by its name**: the arguments come in registers and are lent in a block, and the routine is called; or there is a wrong
-- number of them.
use Rattle.std.specs.Prelude.{◌≡◌, ℕ, List, Some, slice_get}
use Rattle.lang_meaning.specs.declared.program.Callee.TheVariants.{Generic}
use Rattle.lang_meaning.specs.declared.program.FunctionRow.{FunctionRow}
use Rattle.lang_meaning.specs.declared.program.GenericRow.{GenericRow}
use Rattle.lang_meaning.specs.Literals.{function_row}
use Rattle.lang_meaning.specs.Lookup.{text}
use Rattle.lang_meaning.specs.State.{DynamicContext}
use Rattle.flat_language.specs.FlatForm.{FlatForms, call}
use Rattle.flat_language.specs.FlatState.{FlatState}
use Rattle.mid_code.specs.State.{MidState}
use Rattle.back_relation.specs.Setting.{Setting}
use Rattle.back_relation.specs.Placed.{IsPlaced}
use Rattle.back_relation.specs.Worlds.{World, Standing}
use Rattle.back_relation.specs.Forms.{DoesForm, context_at, code_at}
use Rattle.back_relation.specs.RoutineClaims.{GenericDoes}
use Rattle.back_relation.specs.FormLaws.{AllDo}
use Rattle.back_function_entries.specs.KnownCalls.{Fails}

-- a name is that of a generic function
pub record IsGenericCall (setting : Setting) (name : ℕ) : Type 0 where
  pub row : FunctionRow
  pub there : function_row setting.names setting.program.functions (text setting.names name) ≡ Some row
  pub number : ℕ
  pub callee : row.callee ≡ Generic number
  pub generic : GenericRow
  pub found : slice_get setting.program.generics number ≡ Some generic

-- the routine that applies generic functions does what is claimed of it, wherever it is called
abbrev pub AppliesGenerics : Setting → (k turns : ℕ) → Type 0
AppliesGenerics setting k turns =
    (rs valid : List Standing) (w : World) (around : DynamicContext) (z : FlatState) (y : MidState) → GenericDoes setting k turns rs valid w around z y

-- the form does what it means where its arguments do
abbrev pub LawOfGenericCalls : Type 0
LawOfGenericCalls =
    (setting : Setting) (k turns name : ℕ) (fs : FlatForms) → IsPlaced setting → IsGenericCall setting name → AllDo setting k turns fs → AppliesGenerics setting k turns
    → Fails setting k turns → DoesForm setting turns (context_at setting k) (code_at setting k turns) (call name fs)
