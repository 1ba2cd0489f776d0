-- How a run of the machine ends where lines end.
use Rattle.std.specs.Prelude.{◌≡◌, ◌≢◌, ◌≤◌, ℕ, List, slice_index}
use Rattle.rv_machine.specs.declared.ending.Ending.TheVariants.{Halt, Unhandled, Full, Budget}
use Rattle.rv_machine.specs.Memory.{bytes_of}
use Rattle.rv_machine.specs.Run.{Moment, Ended, run_from}
use Rattle.mid_code.specs.State.{MidState, End, falls, returns, cuts, no_room, no_level, no_turn, halts, unhandled, exhausted, stuck}
use Rattle.back_places.specs.Relation.{HasArena}

-- an end of which something is said: a return of the first procedure, a halt, a condition that is not handled, no room, and no serial number
abbrev pub IsSaid : End → Type 0
IsSaid (returns w) = Unit {0}
IsSaid (halts w) = Unit {0}
IsSaid (unhandled class site condition) = Unit {0}
IsSaid (no_room asked left) = Unit {0}
IsSaid falls = ⊥
IsSaid (cuts n w) = ⊥
IsSaid no_level = ⊥
IsSaid no_turn = ⊥
IsSaid exhausted = Unit {0}
IsSaid stuck = ⊥

-- a moment at which a run ended leaves what a state has: the words of the arena in the memory, what was printed, and the input that is left
pub record Leaves (z : MidState) (m : Moment) : Type 0 where
  pub words : List ℕ
  pub memory : m.state.memory ≡ bytes_of words
  pub arena : HasArena words z.arena
  pub printed : m.printed ≡ z.printed
  pub input : m.input ≡ z.input

-- A run of the machine has ended with an end of lines. The site of a condition that is not handled is in register 11, and the condition in
-- register 12. Where serial numbers are exhausted, it goes on, and has printed what lines have.
abbrev pub EndsAs : End → MidState → Ended → Type 0
EndsAs (returns w) z x = (x.ending ≡ Halt w) × Leaves z x.at
EndsAs (halts w) z x = (x.ending ≡ Halt w) × Leaves z x.at
EndsAs (unhandled class site condition) z x =
    (x.ending ≡ Unhandled class) × Leaves z x.at × (slice_index x.at.state.registers 11 ≡ site) × (slice_index x.at.state.registers 12 ≡ condition)
EndsAs (no_room asked left) z x = (x.ending ≡ Full asked left) × Leaves z x.at
EndsAs falls z x = ⊥
EndsAs (cuts n w) z x = ⊥
EndsAs no_level z x = ⊥
EndsAs no_turn z x = ⊥
EndsAs exhausted z x = (x.ending ≡ Budget) × (x.at.printed ≡ z.printed)
EndsAs stuck z x = ⊥

-- A run that has ended so, and does not go on, stays so: with more instructions it is the same run.
abbrev pub LawOfGoingOn : Type 0
LawOfGoingOn =
    (e : End) (z : MidState) (m : Moment) (n more : ℕ) → n ≤ more → e ≢ exhausted → EndsAs e z (run_from n m)
    → (run_from more m ≡ run_from n m) × EndsAs e z (run_from more m)
