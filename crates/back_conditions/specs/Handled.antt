-- What is asked where a handler is applied, and what a control error behind it leaves over.
use Rattle.std.specs.Prelude.{ℕ, List, [], ◌∷◌, ◌+◌}
use Rattle.lang_meaning.specs.Objects.{control_error_class}
use Rattle.lang_meaning.specs.State.{DynamicContext}
use Rattle.lang_meaning.specs.Counts.{unit_cost}
use Rattle.flat_language.specs.FlatSignals.{signal}
use Rattle.flat_language.specs.FlatState.{FlatState, charged}
use Rattle.mid_code.specs.State.{MidState}
use Rattle.back_lowering.specs.Routines.{failing_routine}
use Rattle.back_relation.specs.Setting.{Setting}
use Rattle.back_relation.specs.Room.{failing_words}
use Rattle.back_relation.specs.Worlds.{World, Standing}
use Rattle.back_relation.specs.Around.{CallBegins, SiteStored}
use Rattle.back_relation.specs.Ends.{Ends, Returned, LeftCall}
use Rattle.back_relation.specs.Forms.{context_at, code_at}
use Rattle.back_relation.specs.Procedures.{called}
use Rattle.back_relation.specs.RoutineClaims.{FunctionDoes}
use Rattle.back_conditions.specs.Within.{making_credit}

module _ (setting : Setting) (k turns : ℕ) (around : DynamicContext) where
  -- the application of a function, wherever it is with that around, and with so many turns
  abbrev pub FunctionsDo : Type 0
  FunctionsDo =
      (rs valid : List Standing) (w : World) (z : FlatState) (y : MidState) → FunctionDoes setting k turns rs valid w around z y

  -- a control error, which leaves one of the units of its words over
  abbrev pub FailsPaid : Type 0
  FailsPaid =
      (rs valid : List Standing) (w : World) (z : FlatState) (y : MidState) → SiteStored setting around y → CallBegins setting rs valid failing_words w around z y
      → Ends setting (making_credit + unit_cost)
      (Returned setting making_credit w (charged 1 z) y (signal (context_at setting k) control_error_class [] around z)
      (called (code_at setting k turns) (failing_routine setting.at) (control_error_class ∷ []) y))
      (LeftCall setting making_credit rs valid w around (charged 1 z) y (signal (context_at setting k) control_error_class [] around z)
      (called (code_at setting k turns) (failing_routine setting.at) (control_error_class ∷ []) y))
      turns (charged 1 z) y (signal (context_at setting k) control_error_class [] around z)
      (called (code_at setting k turns) (failing_routine setting.at) (control_error_class ∷ []) y)
