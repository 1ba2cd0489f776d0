-- How the parts of the interval of a register are found, from one line to the next.
use Rattle.std.specs.Prelude.{◌≡◌, ◌≤◌, ◌<◌, ◌⊎◌, ℕ, ◌+◌, ◌-◌, Bool, true, false, List, [], ◌∷◌, ◌++◌, slice_get, slice_index, Option, Some, None}
use Rattle.back_liveness.specs.declared.step.Interval.{Interval}
use Rattle.back_liveness.specs.declared.step.Step.{Step}
use Rattle.back_liveness.specs.Liveness.{have_line}
use Rattle.back_liveness.specs.Settled.{is_marked}

-- A run of lines, from one on, that is not a part yet: it goes on with a line that is held, begins with one where there was none, and ends before
-- one that is not.
abbrev pub run_with : (run : Option ℕ) → (line : ℕ) → (held : Bool) → Option ℕ
run_with run line false = None
run_with None line true = Some line
run_with (Some from) line true = Some from

abbrev pub parts_with : List Interval → (run : Option ℕ) → (line : ℕ) → (held : Bool) → List Interval
parts_with parts run line true = parts
parts_with parts None line false = parts
parts_with parts (Some from) line false = parts ++ record { from = from; to = line - 1 } ∷ []

-- a line of a run
abbrev pub IsOfRun : (run : Option ℕ) → (line : ℕ) → Type 0
IsOfRun None line = ⊥
IsOfRun (Some from) line = from ≤ line

-- What the lines from one up to another have come to: each that is in a loop of a marked head, and each behind one that writes the register, is in a
-- part or in the run; and no other line is in a part.
pub record InParts
    (steps : List Step) (latest : List ℕ) (v : ℕ) (marks : List Bool) (high from line : ℕ) (parts : List Interval) (run : Option ℕ) (reach : ℕ)
    : Type 0 where
  pub reached : (h : ℕ) → from ≤ h → h < line → h ≤ high → is_marked marks h ≡ true → slice_index latest h ≤ reach
  pub marked :
      (h x : ℕ) → from ≤ h → h ≤ high → is_marked marks h ≡ true → h ≤ x → x ≤ slice_index latest h → x < line
      → (have_line parts x ≡ true) ⊎ IsOfRun run x
  pub written :
      (k : ℕ) (s : Step) → slice_get steps k ≡ Some s → s.written ≡ Some v → from ≤ k + 1 → k + 1 < line
      → (have_line parts (k + 1) ≡ true) ⊎ IsOfRun run (k + 1)
  pub within : (x : ℕ) → have_line parts x ≡ true → (from ≤ x) × (x < line)
  pub begun : (f : ℕ) → run ≡ Some f → (from ≤ f) × (f < line)
