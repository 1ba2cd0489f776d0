-- **The law of the routine of lists.**
use Rattle.std.specs.Prelude.{◌≡◌, ℕ, ◌+◌, ◌*◌, ◌≤◌, List, [], ◌∷◌, Some}
use Rattle.lang_meaning.specs.Objects.{cons}
use Rattle.lang_meaning.specs.State.{DynamicContext, Limit, value}
use Rattle.lang_meaning.specs.Values.{Value}
use Rattle.flat_language.specs.FlatState.{FlatState, FlatEvaluated, make}
use Rattle.mid_code.specs.State.{MidState}
use Rattle.mid_arena.specs.Places.{word_of}
use Rattle.back_relation.specs.Setting.{Setting}
use Rattle.back_relation.specs.Placed.{IsPlaced}
use Rattle.back_relation.specs.Worlds.{World, Standing}
use Rattle.back_relation.specs.RoutineClaims.{ListDoes}

-- values in front of a list, the first of them next to it, which comes from the last one to the first
abbrev pub conses : Limit → List Value → Value → FlatState → (Value → FlatState → FlatEvaluated) → FlatEvaluated
conses limit [] tail z next = next tail z
conses limit (v ∷ vs) tail z next = make limit 2 0 (cons v tail) z (λ list after. conses limit vs list after next)

-- the word of the list, for which so many units were charged
pub record ListSays (z : FlatState) (r : FlatEvaluated) (count word : ℕ) (w : World) : Type 0 where
  pub result : Value
  pub outcome : r.outcome ≡ value result
  pub of_value : word_of w.places result ≡ Some word
  pub frame : r.state.frame ≡ z.frame
  pub units : z.state.units + 2 * count ≤ r.state.state.units

-- it does what is claimed of it
abbrev pub LawOfLists : Type 0
LawOfLists =
    (setting : Setting) (k turns : ℕ) (rs valid : List Standing) (w : World) (around : DynamicContext) (z : FlatState) (y : MidState) → IsPlaced setting
    → ListDoes setting k turns rs valid w around z y
