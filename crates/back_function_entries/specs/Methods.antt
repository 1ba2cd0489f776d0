-- **The law of the routine that keeps the call of a method.**
use Rattle.std.specs.Prelude.{◌≡◌, ℕ, ◌+◌, ◌≤◌, List, [], ◌∷◌, ◌++◌, length}
use Rattle.lang_meaning.specs.Objects.{Called}
use Rattle.lang_meaning.specs.State.{DynamicContext}
use Rattle.lang_meaning.specs.Values.{nil}
use Rattle.flat_language.specs.FlatState.{FlatState, FlatEvaluated, gives}
use Rattle.mid_code.specs.State.{MidState}
use Rattle.back_relation.specs.Setting.{Setting}
use Rattle.back_relation.specs.Placed.{IsPlaced}
use Rattle.back_relation.specs.Worlds.{World, Standing}
use Rattle.back_relation.specs.RoutineClaims.{MethodDoes}

-- the address is behind the words of the call, which is one more in the world
pub record CallSays (c : Called) (w : World) (z : FlatState) (r : FlatEvaluated) (word : ℕ) (w' : World) : Type 0 where
  pub start : ℕ
  pub behind : word ≡ start + 8
  pub places : World
  pub added : w' ≡ record places { methods = w.methods ++ (start, c) ∷ [] }
  pub outcome : r ≡ gives nil r.state
  pub frame : r.state.frame ≡ z.frame
  pub units : z.state.units + 2 + length c.arguments ≤ r.state.state.units

-- it does what is claimed of it
abbrev pub LawOfMethods : Type 0
LawOfMethods =
    (setting : Setting) (k turns : ℕ) (rs valid : List Standing) (w : World) (around : DynamicContext) (z : FlatState) (y : MidState) → IsPlaced setting
    → MethodDoes setting k turns rs valid w around z y
