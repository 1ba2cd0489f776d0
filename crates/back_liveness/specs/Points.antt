-- Intervals that have the points of registers.
use Rattle.std.specs.Prelude.{◌≡◌, ◌≤◌, ◌<◌, ◌⊎◌, ℕ, ◌+◌, Bool, true, false, List, [], length, slice_get, slice_index, slice_index_or, Option, Some, None}
use Rattle.back_liveness.specs.declared.barrier.Barrier.{Barrier}
use Rattle.back_liveness.specs.declared.step.Interval.{Interval}
use Rattle.back_liveness.specs.declared.step.Step.{Step}
use Rattle.back_liveness.specs.Barriers.{TellsLoop}
use Rattle.back_liveness.specs.Liveness.{is_read, have_line, IsWithin, IsCovered, IsEndOf}
use Rattle.back_liveness.specs.Ahead.{alive_ahead}

-- all points of the first lines: lines that read a register, and lines behind those that write it
pub record ArePoints (steps : List Step) (count : ℕ) (hulls : List (Option Interval)) : Type 0 where
  pub reads :
      (v line : ℕ) (s : Step) → v < length hulls → line < count → slice_get steps line ≡ Some s → is_read s v ≡ true → IsCovered hulls v line
  pub written :
      (v line : ℕ) (s : Step) → v < length hulls → line < count → slice_get steps line ≡ Some s → s.written ≡ Some v → IsCovered hulls v (line + 1)

-- A point of a register is a line that reads it, or one behind a line that writes it.
pub data IsPoint (steps : List Step) (v : ℕ) : (line : ℕ) → Type 0 where
  reads : (line : ℕ) (s : Step) → slice_get steps line ≡ Some s → is_read s v ≡ true → IsPoint steps v line
  behind_write : (line : ℕ) (s : Step) → slice_get steps line ≡ Some s → s.written ≡ Some v → IsPoint steps v (line + 1)

-- an end of the interval of a register is one that it was before, or a line that is added
abbrev pub HasEndOr : (old new : List (Option Interval)) (v line : ℕ) (added : Type 0) → Type 0
HasEndOr old new v line added = IsEndOf (slice_index_or new v None) line → IsEndOf (slice_index_or old v None) line ⊎ added

-- an interval that ends by a line, and all of them
abbrev pub EndsBy : (n : ℕ) → Option Interval → Type 0
EndsBy n None = Unit {0}
EndsBy n (Some i) = i.to ≤ n

abbrev pub EndBy : (n : ℕ) → List (Option Interval) → Type 0
EndBy n hulls = (v : ℕ) → EndsBy n (slice_index_or hulls v None)

-- the lines from one to another, both of them too
abbrev pub HasLoop : Option Interval → (line last : ℕ) → Type 0
HasLoop None line last = ⊥
HasLoop (Some i) line last = (i.from ≤ line) × (last ≤ i.to)

-- The intervals of the first registers have the lines at which they are alive along paths forwards, with the loops of which these are the
-- heads, and each line behind one that writes them.
pub record HaveLives (steps : List Step) (latest : List ℕ) (registers : ℕ) (found : List (Option Interval)) : Type 0 where
  pub ahead :
      (v line : ℕ) → v < registers → alive_ahead steps v line ≡ true → HasLoop (slice_index_or found v None) line (slice_index latest line)
  pub written : (v line : ℕ) (s : Step) → v < registers → slice_get steps line ≡ Some s → s.written ≡ Some v → IsCovered found v (line + 1)

-- the parts of the interval of a register: they have the lines at which it is alive along paths forwards, with the loops of which these are the heads,
-- and those lines of it that are behind lines that write the register
pub record AreParts (steps : List Step) (latest : List ℕ) (v : ℕ) (i : Interval) (parts : List Interval) : Type 0 where
  pub ahead : (h line : ℕ) → alive_ahead steps v h ≡ true → h ≤ line → line ≤ slice_index latest h → have_line parts line ≡ true
  pub written : (line : ℕ) (s : Step) → slice_get steps line ≡ Some s → s.written ≡ Some v → IsWithin (Some i) (line + 1) → have_line parts (line + 1) ≡ true
  pub inside : (line : ℕ) → have_line parts line ≡ true → IsWithin (Some i) line

-- and those of the first registers
abbrev pub PartsOf : List Step → (latest : List ℕ) → (register : ℕ) → Option Interval → List Interval → Type 0
PartsOf steps latest v None parts = parts ≡ []
PartsOf steps latest v (Some i) parts = AreParts steps latest v i parts

abbrev pub HaveParts : (steps : List Step) (latest : List ℕ) (registers : ℕ) (found : List (Option Interval)) (parts : List (List Interval)) → Type 0
HaveParts steps latest registers found parts =
    (v : ℕ) → v < registers → PartsOf steps latest v (slice_index_or found v None) (slice_index_or parts v [])

-- the registers that were told to be crossed: each at whose lines a barrier crosses it where it is alive, along paths forwards or in a loop of which
-- such a line is the head
abbrev pub is_told : List Bool → (register : ℕ) → Bool
is_told crossed v = slice_index_or crossed v false

abbrev pub HaveCrossings : (steps : List Step) (barriers : List Barrier) (latest : List ℕ) (registers : ℕ) (crossed : List Bool) → Type 0
HaveCrossings steps barriers latest registers crossed =
    (v line : ℕ) → v < registers → alive_ahead steps v line ≡ true → TellsLoop barriers latest v line (is_told crossed v)
