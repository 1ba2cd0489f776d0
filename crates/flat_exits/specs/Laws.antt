-- Exits and units.
use Rattle.std.specs.Prelude.{◌≤◌, ℕ, ◌+◌, List, []}
use Rattle.lang_meaning.specs.InitialHeap.{objects_at_start}
use Rattle.lang_meaning.specs.State.{DynamicContext, Limit, first_state}
use Rattle.lang_meaning.specs.Values.{nil}
use Rattle.flat_language.specs.declared.program.FlatProgram.{FlatProgram}
use Rattle.flat_language.specs.FlatNodes.{tables}
use Rattle.flat_language.specs.FlatState.{FlatEnvironment, FlatState, FlatEvaluated}
use Rattle.flat_language.specs.FlatSignals.{FlatTask}
use Rattle.flat_language.specs.FlatMeaning.{flat_meaning_at, mean_mains}

-- from a state to a later one there are no more new exits than units were charged
pub record ExitsArePaid (before after : FlatState) : Type 0 where
  pub by : after.state.exits + before.state.units ≤ before.state.exits + after.state.units

abbrev pub LawOfExitsOfForms : Type 0
LawOfExitsOfForms =
    (names : List (List ℕ)) (program : FlatProgram) (limit : Limit) (k : ℕ) (task : FlatTask) (env : FlatEnvironment) (around : DynamicContext) (z : FlatState)
    → ExitsArePaid z (flat_meaning_at names program limit k task env around z).state

-- what a program comes to from its start
abbrev pub program_meant : List (List ℕ) → FlatProgram → List ℕ → (k : ℕ) → Limit → FlatEvaluated
program_meant names program input k limit =
    mean_mains names program limit k program.main nil
    (record { state = first_state (objects_at_start names (tables program)) input; frame = []; captured = [] })

abbrev pub LawOfExitsOfRuns : Type 0
LawOfExitsOfRuns =
    (names : List (List ℕ)) (program : FlatProgram) (input : List ℕ) (k : ℕ) (limit : Limit)
    → (program_meant names program input k limit).state.state.exits ≤ 1 + (program_meant names program input k limit).state.state.units
