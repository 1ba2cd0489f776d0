-- Intervals into which no line leads from outside but one that writes the register.
use Rattle.std.specs.Prelude.{◌≡◌, ◌≤◌, ℕ, ◌+◌, true, List, length, slice_get, slice_index, Some}
use Rattle.back_liveness.specs.declared.step.Interval.{Interval}
use Rattle.back_liveness.specs.declared.step.Step.{Step}
use Rattle.back_liveness.specs.Ahead.{is_written}

abbrev pub IsWrittenBefore : List Step → (register line : ℕ) → Type 0
IsWrittenBefore steps v line = (k : ℕ) (s : Step) → slice_get steps k ≡ Some s → k + 1 ≡ line → is_written s.written v ≡ true

pub record IsClosed (steps : List Step) (floors roofs : List ℕ) (v : ℕ) (i : Interval) : Type 0 where
  pub order : i.from ≤ i.to
  pub ends : i.to ≤ length steps
  pub floor : i.from ≤ slice_index floors i.from
  pub roof : slice_index roofs i.to ≤ i.to
  pub written : IsWrittenBefore steps v i.from
