-- When a register is alive at a line, by paths, and what an interval of lines covers.
use Rattle.std.specs.Prelude.{◌≡◌, ◌≢◌, ◌≤◌, ◌<◌, ◌⊎◌, ℕ, ◌+◌, ◌==◌, ◌&&◌, nat_le, Bool, true, false, List, [], length, slice_get, slice_index_or, Option, Some, None}
use Rattle.std.specs.List.{list_any}
use Rattle.back_liveness.specs.declared.barrier.Barrier.{Barrier}
use Rattle.back_liveness.specs.declared.step.Interval.{Interval}
use Rattle.back_liveness.specs.declared.step.Step.{Step}
use Rattle.back_liveness.specs.Barriers.{Crosses, barrier_at}

-- whether a line reads a register, and whether it goes aside to a line
abbrev pub is_read : Step → (register : ℕ) → Bool
is_read s v = list_any (λ r. r == v) s.reads

abbrev pub goes_aside : Step → (line : ℕ) → Bool
goes_aside s to = list_any (λ t. t == to) s.aside

-- A register is alive at a line from which some path leads to a read of it before it is written: the line reads it, or goes on to a line at
-- which it is alive without writing it. Where a line goes aside it has not written.
pub data IsLive (steps : List Step) (v : ℕ) : (line : ℕ) → Type 0 where
  by_read : (line : ℕ) (s : Step) → slice_get steps line ≡ Some s → is_read s v ≡ true → IsLive steps v line
  behind : (line : ℕ) (s : Step) → slice_get steps line ≡ Some s → s.falls ≡ true → s.written ≢ Some v → IsLive steps v (line + 1) → IsLive steps v line
  aside : (line to : ℕ) (s : Step) → slice_get steps line ≡ Some s → goes_aside s to ≡ true → IsLive steps v to → IsLive steps v line

-- a line of an interval
abbrev pub IsWithin : Option Interval → (line : ℕ) → Type 0
IsWithin None line = ⊥
IsWithin (Some i) line = (i.from ≤ line) × (line ≤ i.to)

-- the first and the last line of an interval
abbrev pub IsEndOf : Option Interval → (line : ℕ) → Type 0
IsEndOf None line = ⊥
IsEndOf (Some i) line = (line ≡ i.from) ⊎ (line ≡ i.to)

-- a line goes aside to another one
pub record Goes (steps : List Step) (line to : ℕ) : Type 0 where
  pub step : Step
  pub there : slice_get steps line ≡ Some step
  pub goes : goes_aside step to ≡ true

-- A line at which a register is wanted: it is alive there; or the line before it writes the register; or it lies in a loop, between a head at which the
-- register is alive and a line that goes back to the head.
pub data IsWanted (steps : List Step) (v : ℕ) : (line : ℕ) → Type 0 where
  alive : (line : ℕ) → IsLive steps v line → IsWanted steps v line
  behind_write : (line : ℕ) (s : Step) → slice_get steps line ≡ Some s → s.written ≡ Some v → IsWanted steps v (line + 1)
  around : (head line back : ℕ) → IsLive steps v head → head ≤ line → line ≤ back → Goes steps back head → IsWanted steps v line

-- Loops lie one in another and are entered at their heads: what goes to a line of a loop but its head comes from the loop.
abbrev pub AreStructured : List Step → Type 0
AreStructured steps =
    (head back line to : ℕ) → Goes steps back head → head < to → to ≤ back → Goes steps line to
    → (head ≤ line) × ((line ≤ back) ⊎ ((last : ℕ) × (line ≤ last) × Goes steps last head))

-- no interval is longer than it has to be: its register is wanted at its first line and at its last
abbrev pub AreTight : List Step → (found : List (Option Interval)) → Type 0
AreTight steps found = (v line : ℕ) → IsEndOf (slice_index_or found v None) line → IsWanted steps v line

-- whether an interval has a line, some of these does, and one of a register
abbrev pub has_line : Interval → (line : ℕ) → Bool
has_line i line = nat_le i.from line && nat_le line i.to

abbrev pub have_line : List Interval → (line : ℕ) → Bool
have_line parts line = list_any (λ i. has_line i line) parts

abbrev pub is_held : (parts : List (List Interval)) → (register line : ℕ) → Bool
is_held parts v line = have_line (slice_index_or parts v []) line

-- a line of the interval of a register
abbrev pub IsCovered : List (Option Interval) → (register line : ℕ) → Type 0
IsCovered found v line = IsWithin (slice_index_or found v None) line

-- a barrier crosses the register at some line of its interval
pub record IsCrossedWithin (barriers : List Barrier) (interval : Option Interval) (v : ℕ) : Type 0 where
  pub line : ℕ
  pub within : IsWithin interval line
  pub crosses : Crosses (barrier_at barriers line) v

-- only such registers are told to be crossed
abbrev pub OnlyCrossed : List Barrier → (found : List (Option Interval)) → (crossed : List Bool) → Type 0
OnlyCrossed barriers found crossed =
    (v : ℕ) → slice_index_or crossed v false ≡ true → IsCrossedWithin barriers (slice_index_or found v None) v

-- A test that goes along with lines: it holds where a register is read, and before each line at which it holds, but behind a line
-- that writes the register.
pub record GoesAlong (steps : List Step) (test : (register line : ℕ) → Bool) : Type 0 where
  pub reads : (v line : ℕ) (s : Step) → slice_get steps line ≡ Some s → is_read s v ≡ true → test v line ≡ true
  pub behind :
      (v line : ℕ) (s : Step) → slice_get steps line ≡ Some s → s.falls ≡ true → s.written ≢ Some v → test v (line + 1) ≡ true → test v line ≡ true
  pub aside : (v line to : ℕ) (s : Step) → slice_get steps line ≡ Some s → goes_aside s to ≡ true → test v to ≡ true → test v line ≡ true

-- The intervals of the first registers, and their parts. These have the lines at which a test that goes along tells that the registers are alive,
-- and each line behind one that writes them; and where a barrier crosses a register at a line at which that test tells it, the register was
-- told to be crossed.
pub record Covers
    (steps : List Step) (barriers : List Barrier) (found : List (Option Interval)) (parts : List (List Interval)) (crossed : List Bool) : Type 0 where
  pub test : (register line : ℕ) → Bool
  pub along : GoesAlong steps test
  pub within : (v line : ℕ) → v < length found → test v line ≡ true → is_held parts v line ≡ true
  pub written : (v line : ℕ) (s : Step) → v < length found → slice_get steps line ≡ Some s → s.written ≡ Some v → is_held parts v (line + 1) ≡ true
  pub inside : (v line : ℕ) → is_held parts v line ≡ true → IsCovered found v line
  pub crossings :
      (v line : ℕ) → v < length found → test v line ≡ true → Crosses (barrier_at barriers line) v → slice_index_or crossed v false ≡ true

-- a register is alive only where such a test tells it
abbrev pub LawOfAlive : Type 0
LawOfAlive = (steps : List Step) (test : (register line : ℕ) → Bool) → GoesAlong steps test → (v line : ℕ) → IsLive steps v line → test v line ≡ true
