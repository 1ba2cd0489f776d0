-- Laws of the meaning: what was printed stays, costs never fall, more levels and turns change only an end for want of them, and words
-- stay below 2 ^ 32.
use Rattle.std.specs.Prelude.{◌≡◌, ℕ, ◌≤◌, true, List, ◌++◌, length}
use Rattle.mid_code.specs.declared.program.MidProgram.{MidProgram}
use Rattle.mid_code.specs.Arena.{Arena}
use Rattle.mid_code.specs.State.{MidState, End, falls, returns, cuts, no_room, no_level, no_turn, halts, unhandled, exhausted, stuck, MidOutcome}
use Rattle.mid_code.specs.Meaning.{runs}
use Rattle.mid_code.specs.Checked.{is_checked_program}
use Rattle.mid_code.specs.Bounds.{AreWords, BoundedState, BoundedOutcome}

-- an arena of the same size with the same words laid beside the code, and a heap that is no smaller
pub record Enlarged (before after : Arena) : Type 0 where
  pub size : length after.memory ≡ length before.memory
  pub laid_from : after.laid_from ≡ before.laid_from
  pub laid_to : after.laid_to ≡ before.laid_to
  pub heap_from : after.heap_from ≡ before.heap_from
  pub heap_to : before.heap_to ≤ after.heap_to

-- a later state: more was printed behind what was printed, and the cost is no less
pub record Grown (before after : MidState) : Type 0 where
  pub arena : Enlarged before.arena after.arena
  pub printed : (more : List ℕ) × (after.printed ≡ before.printed ++ more)
  pub cost : before.cost ≤ after.cost

-- an end that is not for want of levels or turns
abbrev pub IsReached : End → Type 0
IsReached falls = Unit {0}
IsReached (returns w) = Unit {0}
IsReached (cuts n w) = Unit {0}
IsReached (no_room asked left) = Unit {0}
IsReached no_level = ⊥
IsReached no_turn = ⊥
IsReached (halts w) = Unit {0}
IsReached (unhandled class site condition) = Unit {0}
IsReached exhausted = Unit {0}
IsReached stuck = Unit {0}

-- an outcome with more levels and turns: the same where the end was reached, and a later state in any case
pub record OutcomeExtends (less more : MidOutcome) : Type 0 where
  pub same : IsReached less.end → more ≡ less
  pub later : Grown less.state more.state

-- what a run prints stands behind what was printed before
abbrev pub LawOfPrinting : Type 0
LawOfPrinting =
    (program : MidProgram) (k turns_each entry : ℕ) (arguments : List ℕ) (z : MidState)
    → (more : List ℕ) × ((runs program k turns_each entry arguments z).state.printed ≡ z.printed ++ more)

-- the cost of a run is no less than the cost before
abbrev pub LawOfCosts : Type 0
LawOfCosts =
    (program : MidProgram) (k turns_each entry : ℕ) (arguments : List ℕ) (z : MidState)
    → z.cost ≤ (runs program k turns_each entry arguments z).state.cost

-- a run leaves the size of the arena and what is laid beside the code, and gives no word of the heap back
abbrev pub LawOfArenas : Type 0
LawOfArenas =
    (program : MidProgram) (k turns_each entry : ℕ) (arguments : List ℕ) (z : MidState)
    → Enlarged z.arena (runs program k turns_each entry arguments z).state.arena

-- with more levels and turns a run goes on where it ended for want of them, and else is the same
abbrev pub LawOfLevels : Type 0
LawOfLevels =
    (program : MidProgram) (k l turns_each more_turns entry : ℕ) (arguments : List ℕ) (z : MidState) → k ≤ l → turns_each ≤ more_turns
    → OutcomeExtends (runs program k turns_each entry arguments z) (runs program l more_turns entry arguments z)

-- Words stay below 2 ^ 32, in the arena, in registers and in ends: for a program in form, arguments that are words, and a state where it is so.
abbrev pub LawOfWords : Type 0
LawOfWords =
    (program : MidProgram) (k turns_each entry : ℕ) (arguments : List ℕ) (z : MidState)
    → is_checked_program program ≡ true → AreWords arguments → BoundedState z
    → BoundedOutcome (runs program k turns_each entry arguments z)
