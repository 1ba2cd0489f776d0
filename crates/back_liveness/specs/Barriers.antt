-- Barriers at lines: which registers have to outlast something there.
use Rattle.std.specs.Prelude.{◌≡◌, ◌≢◌, ◌≤◌, ◌<◌, ◌⊎◌, ℕ, Bool, true, List, slice_index, slice_index_or}
use Rattle.back_liveness.specs.declared.barrier.Barrier.{Barrier}
use Rattle.back_liveness.specs.declared.barrier.Barrier.TheVariants.{Open, Closed, ClosedBut, ClosedAmong}

-- a register that is alive where the barrier is has to outlast it
abbrev pub Crosses : Barrier → (register : ℕ) → Type 0
Crosses Open v = ⊥
Crosses Closed v = Unit {0}
Crosses (ClosedBut to) v = v ≢ to
Crosses (ClosedAmong register from to written) v = (v ≢ written) × ((v ≡ register) ⊎ ((from ≤ v) × (v < to)))

-- beyond the end all is closed
abbrev pub barrier_at : List Barrier → (line : ℕ) → Barrier
barrier_at barriers line = slice_index_or barriers line Closed

-- a barrier crosses the register at some line of a loop, from its head to the last line from which one comes back to it; then that was told
abbrev pub TellsLoop : (barriers : List Barrier) (latest : List ℕ) (v head : ℕ) → (crossed : Bool) → Type 0
TellsLoop barriers latest v head crossed =
    (x : ℕ) → head ≤ x → x ≤ slice_index latest head → Crosses (barrier_at barriers x) v → crossed ≡ true
