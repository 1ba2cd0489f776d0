-- What one instruction of a run has come to: as the definition's run of one instruction has it, or a
-- fault at an environment call, with nothing changed.
use Rattle.std.specs.Prelude.{◌≡◌, ◌≤◌, ℕ, ◌+◌, List, [], Option, Some, None, IfSome}
use Rattle.rv_machine.specs.declared.ending.Ending.{Ending}
use Rattle.rv_machine.specs.declared.ending.Ending.TheVariants.{Budget}
use Rattle.rv_machine.specs.State.{State, Counted}
use Rattle.rv_machine.specs.Step.{Result, environment_call}
use Rattle.rv_machine.specs.Run.{Moment, Ended, Outside, Feeds, StandsAt, Tells, IsNoFault, act, stop, first, run_from}

-- what a step comes to in a run of one instruction
abbrev pub acted : Result → Counted → List ℕ → Ended
acted r old input = act stop r (first old.state input)

-- the turn is that of the definition, for each input that the source tells, or that is not read; and
-- where no byte is put the sink is as it was
pub record Turned (r : Result) (told : Option Ending) (old new : Counted) (o o' : Outside) (SinkSame : Type 0) : Type 0 where
  pub tells : (input : List ℕ) → Feeds o.left input (acted r old input) → Tells told (acted r old input)
  pub stands :
      (input : List ℕ) → Feeds o.left input (acted r old input)
      → StandsAt (acted r old input).at input old new o o'
  pub unwritten :
      (input : List ℕ) → Feeds o.left input (acted r old input) → (acted r old input).at.printed ≡ [] → SinkSame

-- nothing is told of a turn that ends in a fault
abbrev pub IsFaultless : Option Ending → Type 0
IsFaultless told = IfSome told IsNoFault

-- how far the count rises
abbrev pub Counts : Option Ending → ℕ → ℕ → Type 0
Counts None count count' = count' ≡ count + 1
Counts (Some ending) count count' = (count ≤ count') × (count' ≤ count + 1) × (ending ≡ Budget → ⊥)

-- at a fault the machine stands before that environment call
abbrev pub StandsBefore : ℕ → Result → Counted → Counted → Type 0
StandsBefore call r old new = (r ≡ environment_call call) × (new ≡ old)

-- a run of so many instructions from the first state comes to the second one and goes on, and has read and put nothing
abbrev pub Walks : ℕ → State → State → Type 0
Walks k s s' = (m : Moment) → m.state ≡ s → run_from k m ≡ stop (record m { state = s'; executed = m.executed + k })
