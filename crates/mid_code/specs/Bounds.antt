-- What it is for all words to be below 2 ^ 32: in the arena, in registers, and in ends.
use Rattle.std.specs.Prelude.{ℕ, ◌*◌, ◌^◌, ◌<◌, ◌≤◌, List, [], ◌∷◌, length, Option, Some, None}
use Rattle.mid_code.specs.Arena.{Arena}
use Rattle.mid_code.specs.State.{Registers, MidState, End, falls, returns, cuts, no_room, no_level, no_turn, halts, unhandled, exhausted, stuck, MidOutcome}

abbrev pub IsWord : ℕ → Type 0
IsWord word = word < 2 ^ 32

-- arguments, input
abbrev pub AreWords : List ℕ → Type 0
AreWords [] = Unit {0}
AreWords (w ∷ ws) = IsWord w × AreWords ws

abbrev pub IsWordOrNone : Option ℕ → Type 0
IsWordOrNone None = Unit {0}
IsWordOrNone (Some word) = IsWord word

-- memory, registers
abbrev pub AreWordsOrNone : List (Option ℕ) → Type 0
AreWordsOrNone [] = Unit {0}
AreWordsOrNone (w ∷ ws) = IsWordOrNone w × AreWordsOrNone ws

-- an arena whose addresses are words too
pub record BoundedArena (a : Arena) : Type 0 where
  pub memory : AreWordsOrNone a.memory
  pub size : IsWord (4 * length a.memory)
  pub heap_to : a.heap_to ≤ 4 * length a.memory

pub record BoundedState (z : MidState) : Type 0 where
  pub arena : BoundedArena z.arena
  pub input : AreWords z.input

abbrev pub BoundedEnd : End → Type 0
BoundedEnd falls = Unit {0}
BoundedEnd (returns w) = IsWord w
BoundedEnd (cuts n w) = IsWord w
BoundedEnd (no_room asked left) = IsWord asked × IsWord left
BoundedEnd no_level = Unit {0}
BoundedEnd no_turn = Unit {0}
BoundedEnd (halts w) = IsWord w
BoundedEnd (unhandled class site condition) = IsWord class × IsWord site × IsWord condition
BoundedEnd exhausted = Unit {0}
BoundedEnd stuck = Unit {0}

-- an activation's registers and the state
pub record BoundedPoint (rs : Registers) (z : MidState) : Type 0 where
  pub registers : AreWordsOrNone rs
  pub state : BoundedState z

pub record BoundedOutcome (r : MidOutcome) : Type 0 where
  pub end : BoundedEnd r.end
  pub point : BoundedPoint r.registers r.state
