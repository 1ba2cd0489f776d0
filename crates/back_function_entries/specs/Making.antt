-- **A routine that makes something and returns a word**: what it leaves behind, in its frame and outside it.
use Rattle.std.specs.Prelude.{◌≡◌, ℕ, ◌+◌, ◌≤◌}
use Rattle.flat_language.specs.FlatState.{FlatState, FlatEvaluated}
use Rattle.mid_code.specs.State.{returns, MidState, MidOutcome}
use Rattle.mid_arena.specs.Growing.{Grows}
use Rattle.back_relation.specs.Setting.{Setting}
use Rattle.back_relation.specs.Worlds.{World}
use Rattle.back_relation.specs.Ends.{ControlBack, ChargedFrom, WorldKept}

-- A word is returned, of which something is said in a later world; the heap may have grown, all that stood stands, and it cost at most so much.
pub record Makes (setting : Setting) (most : ℕ) (says : ℕ → World → Type 0) (w : World) (z : FlatState) (y : MidState) (r : FlatEvaluated) (q : MidOutcome) : Type 0 where
  pub word : ℕ
  pub end : q.end ≡ returns word
  pub w' : World
  pub world : WorldKept setting w w' z r.state y q.state
  pub control : ControlBack y q.state
  pub blocks : q.state.arena.blocks ≡ y.arena.blocks
  pub charged : ChargedFrom z y r.state q.state
  pub grows : Grows y.arena q.state.arena
  pub cost : q.state.cost ≤ y.cost + most
  pub said : says word w'
