-- A point where code begins, in one record; and what of the growth of the meaning the relation asks.
use Rattle.std.specs.Prelude.{◌≡◌, ℕ, ◌+◌, ◌*◌, ◌≤◌, List}
use Rattle.lang_meaning.specs.Counts.{unit_cost}
use Rattle.lang_meaning.specs.Prefixes.{IsPrefix}
use Rattle.lang_meaning.specs.State.{DynamicContext, value}
use Rattle.lang_meaning.specs.Values.{nil}
use Rattle.flat_language.specs.FlatState.{FlatEnvironment, FlatState, FlatEvaluated}
use Rattle.mid_code.specs.State.{falls, Registers, MidState, MidOutcome}
use Rattle.back_relation.specs.Setting.{Setting}
use Rattle.back_relation.specs.Worlds.{World, Standing}
use Rattle.back_relation.specs.Activation.{FormScope}
use Rattle.back_relation.specs.Ends.{Reached, Fell, Left, Ends}
use Rattle.back_relation.specs.Forms.{Begins, FormEnds, SparingForm}

-- what was printed stays, and units and exits do not fall
pub record FlatGrown (z z' : FlatState) : Type 0 where
  pub printed : IsPrefix z.state.printed z'.state.printed
  pub units : z.state.units ≤ z'.state.units
  pub exits : z.state.exits ≤ z'.state.exits

module _ (setting : Setting) where
  -- so many turns are left where it begins, and so many words of the stack it may lay
  pub record Start : Type 0 where
    pub turns : ℕ
    pub rs : List Standing
    pub valid : List Standing
    pub s : FormScope
    pub d : ℕ
    pub n : ℕ
    pub w : World
    pub env : FlatEnvironment
    pub around : DynamicContext
    pub z : FlatState
    pub regs : Registers
    pub y : MidState
    pub begins : Begins setting rs valid s d n w env around z regs y

  -- from a start, with the result in a register at or behind its first one
  abbrev pub EndsFrom : ℕ → Start → ℕ → FlatEvaluated → MidOutcome → Type 0
  EndsFrom credit a d r q = FormEnds setting credit a.turns a.rs a.valid a.s d a.w a.env a.around a.z a.regs a.y r q

  abbrev pub EndsAt : ℕ → Start → FlatEvaluated → MidOutcome → Type 0
  EndsAt credit a r q = EndsFrom credit a a.d r q

  abbrev pub FellFrom : ℕ → Start → ℕ → FlatEvaluated → MidOutcome → Type 0
  FellFrom credit a d r q = Fell setting credit a.rs a.valid a.s d a.w a.env a.around a.z a.regs a.y r q

  abbrev pub ReachedFrom : ℕ → Start → ℕ → World → FlatState → Registers → MidState → Type 0
  ReachedFrom credit a d w z regs y = Reached setting credit a.s d a.rs a.valid a.w w a.env a.around a.z z a.regs regs a.y y

  abbrev pub LeftFrom : ℕ → Start → ℕ → FlatEvaluated → MidOutcome → Type 0
  LeftFrom credit a d r q = Left setting credit a.rs a.valid a.s d a.w a.env a.around a.z a.regs a.y r q

  -- what a form comes to from there
  abbrev pub SparingAt : Start → FlatEvaluated → MidOutcome → Type 0
  SparingAt a r q = SparingForm setting a.turns a.rs a.valid a.s a.d a.w a.env a.around a.z a.regs a.y r q

  -- what ends so that something is done, or a transfer leaves it
  abbrev pub EndsBy : (Done : Type 0) → ℕ → Start → FlatEvaluated → MidOutcome → Type 0
  EndsBy Done credit a r q =
      Ends setting (credit + unit_cost) Done (Left setting credit a.rs a.valid a.s a.d a.w a.env a.around a.z a.regs a.y r q) a.turns a.z a.y r q

  -- a loop of the program fell out: its value is nil, whatever the registers hold, and it is paid that nil's word comes behind it
  pub record FellNil (credit : ℕ) (a : Start) (r : FlatEvaluated) (q : MidOutcome) : Type 0 where
    pub outcome : r.outcome ≡ value nil
    pub end : q.end ≡ falls
    pub w' : World
    pub reached : ReachedFrom credit a a.d w' r.state q.registers q.state
    pub spare : q.state.cost + unit_cost * a.z.state.units + 6 ≤ a.y.cost + unit_cost * r.state.state.units + credit

  abbrev pub LoopEnds : ℕ → Start → FlatEvaluated → MidOutcome → Type 0
  LoopEnds credit a r q = EndsBy (FellNil credit a r q) credit a r q
