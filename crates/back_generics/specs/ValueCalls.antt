-- **A call of a value**: the function and the arguments come in registers, the arguments are lent in a block, and the routine is called.
use Rattle.std.specs.Prelude.{ℕ, List}
use Rattle.lang_meaning.specs.State.{DynamicContext}
use Rattle.flat_language.specs.FlatForm.{FlatForms, call_value}
use Rattle.flat_language.specs.FlatState.{FlatState}
use Rattle.mid_code.specs.State.{MidState}
use Rattle.back_relation.specs.Setting.{Setting}
use Rattle.back_relation.specs.Placed.{IsPlaced}
use Rattle.back_relation.specs.Worlds.{World, Standing}
use Rattle.back_relation.specs.Forms.{DoesForm, context_at, code_at}
use Rattle.back_relation.specs.RoutineClaims.{FunctionDoes}
use Rattle.back_relation.specs.FormLaws.{AllDo}

-- the routine that applies values does what is claimed of it, wherever it is called
abbrev pub AppliesValues : Setting → (k turns : ℕ) → Type 0
AppliesValues setting k turns =
    (rs valid : List Standing) (w : World) (around : DynamicContext) (z : FlatState) (y : MidState) → FunctionDoes setting k turns rs valid w around z y

-- the form does what it means where its parts do
abbrev pub LawOfValueCalls : Type 0
LawOfValueCalls =
    (setting : Setting) (k turns : ℕ) (fs : FlatForms) → IsPlaced setting → AllDo setting k turns fs → AppliesValues setting k turns
    → DoesForm setting turns (context_at setting k) (code_at setting k turns) (call_value fs)
