-- The laws of the routine that raises a condition, with any handlers around.
use Rattle.std.specs.Prelude.{◌≡◌, ℕ, ◌<◌, List, length}
use Rattle.lang_meaning.specs.Values.{Value}
use Rattle.lang_meaning.specs.State.{DynamicContext}
use Rattle.flat_language.specs.FlatState.{FlatState}
use Rattle.flat_language.specs.FlatSignals.{FlatContext, FlatSignals, apply_value}
use Rattle.mid_code.specs.State.{MidState}
use Rattle.back_relation.specs.Setting.{Setting}
use Rattle.back_relation.specs.Placed.{IsPlaced}
use Rattle.back_relation.specs.Worlds.{World, Standing}
use Rattle.back_conditions.specs.Law.{Errors}
use Rattle.back_conditions.specs.Within.{RaisesWithin, raise_credit}
use Rattle.back_conditions.specs.Handled.{FunctionsDo}

-- what signals what goes wrong in an application matters only under what is around it
abbrev pub LawOfWrong : Type 0
LawOfWrong =
    (context : FlatContext) (w1 w2 : FlatSignals) (f : Value) (vs : List Value) (around : DynamicContext) (z : FlatState)
    → ((class : ℕ) (slots : List Value) (y : FlatState) → w1 class slots around y ≡ w2 class slots around y)
    → apply_value context w1 f vs around z ≡ apply_value context w2 f vs around z

-- functions are applied under fewer handlers than are around, and with fewer turns
pub record UnderFewer (setting : Setting) (k turns : ℕ) (around : DynamicContext) : Type 0 where
  pub apply : (t : ℕ) → t < turns → (inner : DynamicContext) → length inner.handlers < length around.handlers → FunctionsDo setting k t inner

-- **a condition is raised**, whatever handlers are around: the innermost one is applied under those outside it
abbrev pub LawOfRaising : Type 0
LawOfRaising = (setting : Setting) (k turns : ℕ) (around : DynamicContext) → IsPlaced setting → UnderFewer setting k turns around → RaisesWithin setting k turns around 1 raise_credit

-- **what goes wrong**: all routines of conditions do what is claimed of them
abbrev pub LawOfHandledErrors : Type 0
LawOfHandledErrors =
    (setting : Setting) (k turns : ℕ) (rs valid : List Standing) (w : World) (around : DynamicContext) (z : FlatState) (y : MidState) → IsPlaced setting → UnderFewer setting k turns around
    → Errors setting k turns rs valid w around z y
