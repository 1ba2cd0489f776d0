-- **The application of a function to a list**: two forms, and a routine that is called with their words.
use Rattle.std.specs.Prelude.{ℕ, List}
use Rattle.lang_meaning.specs.State.{DynamicContext}
use Rattle.flat_language.specs.FlatForm.{FlatForm, apply}
use Rattle.flat_language.specs.FlatState.{FlatState}
use Rattle.mid_code.specs.State.{MidState}
use Rattle.back_relation.specs.Setting.{Setting}
use Rattle.back_relation.specs.Worlds.{World, Standing}
use Rattle.back_relation.specs.Forms.{DoesForm, context_at, code_at}
use Rattle.back_relation.specs.RoutineClaims.{ApplyDoes}

-- the routine does what is claimed of it, wherever it is called
abbrev pub AppliesWithin : Setting → (k turns : ℕ) → Type 0
AppliesWithin setting k turns =
    (rs valid : List Standing) (w : World) (around : DynamicContext) (z : FlatState) (y : MidState) → ApplyDoes setting k turns rs valid w around z y

-- the form has one unit for the call of the routine, and what its parts leave of theirs
abbrev pub LawOfApplies : Type 0
LawOfApplies =
    (setting : Setting) (k turns : ℕ) (f list : FlatForm) → DoesForm setting turns (context_at setting k) (code_at setting k turns) f
    → DoesForm setting turns (context_at setting k) (code_at setting k turns) list → AppliesWithin setting k turns
    → DoesForm setting turns (context_at setting k) (code_at setting k turns) (apply f list)
