-- **The form of the next method**: what is known of the method around comes into registers, the site is stored, and the routine is called.
use Rattle.std.specs.Prelude.{ℕ, List}
use Rattle.lang_meaning.specs.State.{DynamicContext}
use Rattle.flat_language.specs.declared.place.MethodPlace.{MethodPlace}
use Rattle.flat_language.specs.FlatForm.{next_method}
use Rattle.flat_language.specs.FlatState.{FlatState}
use Rattle.mid_code.specs.State.{MidState}
use Rattle.back_relation.specs.Setting.{Setting}
use Rattle.back_relation.specs.Worlds.{World, Standing}
use Rattle.back_relation.specs.Forms.{DoesForm, context_at, code_at}
use Rattle.back_relation.specs.RoutineClaims.{NextDoes}

-- the routine of the next method does what is claimed of it, wherever it is called
abbrev pub CallsNext : Setting → (k turns : ℕ) → Type 0
CallsNext setting k turns = (rs valid : List Standing) (w : World) (around : DynamicContext) (z : FlatState) (y : MidState) → NextDoes setting k turns rs valid w around z y

-- the form does what it means
abbrev pub LawOfNextForms : Type 0
LawOfNextForms =
    (setting : Setting) (k turns : ℕ) (p : MethodPlace) → CallsNext setting k turns → DoesForm setting turns (context_at setting k) (code_at setting k turns) (next_method p)
