-- **A call of a function of a definition**, by its name, with as many arguments as it requires, where it takes no further ones.
use Rattle.std.specs.Prelude.{◌≡◌, ℕ, suc, ◌≤◌, false, List, Some, None, length, slice_get, is_some}
use Rattle.lang_meaning.specs.declared.program.Callee.TheVariants.{Procedure}
use Rattle.lang_meaning.specs.declared.program.FunctionRow.{FunctionRow}
use Rattle.lang_meaning.specs.Literals.{function_row}
use Rattle.lang_meaning.specs.Lookup.{text}
use Rattle.lang_meaning.specs.Signals.{takes}
use Rattle.lang_meaning.specs.State.{DynamicContext}
use Rattle.flat_language.specs.declared.program.FlatProcedure.{FlatProcedure}
use Rattle.flat_language.specs.FlatForm.{call, FlatForms}
use Rattle.flat_language.specs.FlatNodes.{count_forms}
use Rattle.back_lowering.specs.Program.{Extra}
use Rattle.flat_language.specs.FlatState.{FlatState}
use Rattle.mid_code.specs.State.{MidState}
use Rattle.back_relation.specs.Setting.{Setting}
use Rattle.back_relation.specs.Placed.{IsPlaced}
use Rattle.back_relation.specs.Worlds.{World, Standing}
use Rattle.back_relation.specs.RoutineClaims.{FailingDoes, FailingWithDoes}
use Rattle.back_relation.specs.Forms.{DoesForm, context_at, code_at}
use Rattle.back_relation.specs.Procedures.{IsFunction, BodyDoes}
use Rattle.back_relation.specs.Right.{ProgramIsRight}
use Rattle.back_relation.specs.FormLaws.{AllDo}

-- a name with so many arguments is that of such a function
pub record IsKnownCall (setting : Setting) (name count : ℕ) : Type 0 where
  pub row : FunctionRow
  pub there : function_row setting.names setting.program.functions (text setting.names name) ≡ Some row
  pub number : ℕ
  pub callee : row.callee ≡ Procedure number
  pub function : FlatProcedure
  pub found : slice_get setting.program.procedures number ≡ Some function
  pub no_rest : function.rest ≡ None
  pub many : count ≡ length function.required

-- all bodies do what is claimed of them, one level below
abbrev pub BodiesBelow : Setting → ℕ → Type 0
BodiesBelow setting k =
    (j : ℕ) → k ≡ suc j → (entry : ℕ) (extra : Extra) (q : FlatProcedure) → IsFunction setting entry extra q → BodyDoes setting j entry extra q

-- the form does what it means where its arguments do
abbrev pub LawOfKnownCalls : Type 0
LawOfKnownCalls =
    (setting : Setting) (k turns name : ℕ) (fs : FlatForms) → ProgramIsRight setting → turns ≤ setting.turns_each → IsKnownCall setting name (count_forms fs)
    → AllDo setting k turns fs → BodiesBelow setting k → DoesForm setting turns (context_at setting k) (code_at setting k turns) (call name fs)

-- the routine of conditions of one slot does what is claimed of it, wherever it is called
abbrev pub FailsWith : Setting → (k turns : ℕ) → Type 0
FailsWith setting k turns =
    (rs valid : List Standing) (w : World) (around : DynamicContext) (z : FlatState) (y : MidState) → FailingWithDoes setting k turns rs valid w around z y

-- a call of a name without a function does what it means
abbrev pub LawOfUndefinedCalls : Type 0
LawOfUndefinedCalls =
    (setting : Setting) (k turns name : ℕ) (fs : FlatForms) → function_row setting.names setting.program.functions (text setting.names name) ≡ None
    → AllDo setting k turns fs → FailsWith setting k turns → DoesForm setting turns (context_at setting k) (code_at setting k turns) (call name fs)

-- a name with so many arguments is that of a function of a definition that does not take so many
pub record IsWrongCall (setting : Setting) (name count : ℕ) : Type 0 where
  pub row : FunctionRow
  pub there : function_row setting.names setting.program.functions (text setting.names name) ≡ Some row
  pub number : ℕ
  pub callee : row.callee ≡ Procedure number
  pub function : FlatProcedure
  pub found : slice_get setting.program.procedures number ≡ Some function
  pub takes_others : takes (length function.required) (is_some function.rest) count ≡ false

-- and the one of conditions without slots
abbrev pub Fails : Setting → (k turns : ℕ) → Type 0
Fails setting k turns =
    (rs valid : List Standing) (w : World) (around : DynamicContext) (z : FlatState) (y : MidState) → FailingDoes setting k turns rs valid w around z y

-- a call with a wrong number of arguments does what it means
abbrev pub LawOfWrongCalls : Type 0
LawOfWrongCalls =
    (setting : Setting) (k turns name : ℕ) (fs : FlatForms) → IsPlaced setting → IsWrongCall setting name (count_forms fs) → AllDo setting k turns fs → Fails setting k turns
    → DoesForm setting turns (context_at setting k) (code_at setting k turns) (call name fs)
