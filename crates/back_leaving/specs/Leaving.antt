-- How applications leave, and what a control error behind them comes to.
use Rattle.std.specs.Prelude.{◌≡◌, ℕ, List, []}
use Rattle.base.specs.declared.place.Place.{Place}
use Rattle.lang_meaning.specs.Objects.{control_error_class}
use Rattle.lang_meaning.specs.State.{DynamicContext, at_site, value, exit}
use Rattle.lang_meaning.specs.Values.{Value}
use Rattle.flat_language.specs.FlatSignals.{FlatContext, signal, apply_value}
use Rattle.flat_language.specs.FlatState.{FlatState}
use Rattle.mid_code.specs.State.{MidState}
use Rattle.back_relation.specs.Setting.{Setting}
use Rattle.back_relation.specs.Worlds.{World, Standing}
use Rattle.back_relation.specs.Around.{CallBegins}
use Rattle.back_relation.specs.Forms.{context_at}

-- how an application ends: a transfer at a site goes to the end of the program; and where it has a value, the control error behind it has none
pub record LeavesSo (context : FlatContext) (f : Value) (vs : List Value) (around : DynamicContext) (z : FlatState) : Type 0 where
  pub sites : (e : ℕ) (v : Value) (place : Place) → (apply_value context (signal context) f vs around z).outcome ≡ exit e v (at_site place) → e ≡ 0
  pub never :
      (v : Value) → (apply_value context (signal context) f vs around z).outcome ≡ value v → (u : Value)
      → (signal context control_error_class [] around (apply_value context (signal context) f vs around z).state).outcome ≡ value u → ⊥

-- how an application ends where all stands
abbrev pub FunctionsLeave : Setting → (k : ℕ) → DynamicContext → Type 0
FunctionsLeave setting k around =
    (n : ℕ) (rs valid : List Standing) (w : World) (z : FlatState) (y : MidState) → CallBegins setting rs valid n w around z y
    → (f : Value) (vs : List Value) → LeavesSo (context_at setting k) f vs around z

-- **functions leave so**, at every level and whatever is around
abbrev pub LawOfFunctionsLeave : Type 0
LawOfFunctionsLeave = (setting : Setting) (k : ℕ) (around : DynamicContext) → FunctionsLeave setting k around
