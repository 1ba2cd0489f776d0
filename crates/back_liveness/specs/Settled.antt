-- Marks at lines that tell where a register is alive, made from a last line backwards.
use Rattle.std.specs.Prelude.{◌≡◌, ◌≤◌, ◌<◌, ℕ, ◌+◌, ◌-◌, Bool, true, false, List, slice_get, slice_index, slice_index_or, Some}
use Rattle.back_liveness.specs.declared.lives.Life.{Life}
use Rattle.back_liveness.specs.declared.barrier.Barrier.{Barrier}
use Rattle.back_liveness.specs.declared.step.Step.{Step}
use Rattle.back_liveness.specs.Barriers.{TellsLoop}
use Rattle.back_liveness.specs.Liveness.{is_read, goes_aside, IsLive, IsEndOf, IsWanted, IsCrossedWithin}
use Rattle.back_liveness.specs.Ahead.{is_written}

abbrev pub is_marked : List Bool → (line : ℕ) → Bool
is_marked marks line = slice_index_or marks line false

-- The lines from one to the last are marked where they read the register, or lead on to a marked one. What leads to a marked one is to be looked
-- at, and the life has the marked lines with the loops of which they are the heads.
pub record Settled (steps : List Step) (earliest latest : List ℕ) (v : ℕ) (marks : List Bool) (high : ℕ) (life : Life) (line : ℕ) : Type 0 where
  pub reads : (k : ℕ) (s : Step) → line ≤ k → k ≤ high → slice_get steps k ≡ Some s → is_read s v ≡ true → is_marked marks k ≡ true
  pub behind :
      (k : ℕ) (s : Step) → line ≤ k → k < high → slice_get steps k ≡ Some s → s.falls ≡ true → is_written s.written v ≡ false
      → is_marked marks (k + 1) ≡ true → is_marked marks k ≡ true
  pub aside :
      (k t : ℕ) (s : Step) → line ≤ k → k < t → t ≤ high → slice_get steps k ≡ Some s → goes_aside s t ≡ true → is_marked marks t ≡ true
      → is_marked marks k ≡ true
  pub looked :
      (k : ℕ) → line ≤ k → k ≤ high → is_marked marks k ≡ true
      → (life.need ≤ k - 1) × (life.need ≤ slice_index earliest k) × (life.from ≤ k) × (slice_index latest k ≤ life.to)

-- such lines are marked only where the register is alive
abbrev pub AreAlive : List Step → (v : ℕ) → (marks : List Bool) → (high line : ℕ) → Type 0
AreAlive steps v marks high line = (k : ℕ) → line ≤ k → k ≤ high → is_marked marks k ≡ true → IsLive steps v k

-- why a line is marked: it reads the register, or leads to a marked one
pub data IsMarkedBy (steps : List Step) (v : ℕ) (marks : List Bool) (high line : ℕ) : Type 0 where
  by_read : (s : Step) → slice_get steps line ≡ Some s → is_read s v ≡ true → IsMarkedBy steps v marks high line
  by_next :
      (s : Step) → line < high → slice_get steps line ≡ Some s → s.falls ≡ true → is_written s.written v ≡ false → is_marked marks (line + 1) ≡ true
      → IsMarkedBy steps v marks high line
  by_aside :
      (t : ℕ) (s : Step) → line < t → t ≤ high → slice_get steps line ≡ Some s → goes_aside s t ≡ true → is_marked marks t ≡ true
      → IsMarkedBy steps v marks high line

-- the ends of a life are wanted
abbrev pub IsTight : List Step → (v : ℕ) → Life → Type 0
IsTight steps v life = (x : ℕ) → IsEndOf (Some (record { from = life.from; to = life.to })) x → IsWanted steps v x

-- for each marked line from one on: where a barrier crosses the register in the loop of which it is the head, that was told
abbrev pub CrossingsTold : (barriers : List Barrier) (latest : List ℕ) (v : ℕ) (marks : List Bool) (high : ℕ) (crossed : Bool) (line : ℕ) → Type 0
CrossingsTold barriers latest v marks high crossed line =
    (k : ℕ) → line ≤ k → k ≤ high → is_marked marks k ≡ true → TellsLoop barriers latest v k crossed

-- what was told to be crossed so far is crossed at some line of the life
abbrev pub OnlyWithin : (barriers : List Barrier) (v : ℕ) → Life → Type 0
OnlyWithin barriers v life = life.crossed ≡ true → IsCrossedWithin barriers (Some (record { from = life.from; to = life.to })) v
