-- What the scan has when it has come to a line: the last line up to which each place is taken, the value registers before the slots.
use Rattle.std.specs.Prelude.{◌≡◌, ◌≤◌, ◌<◌, ℕ, ◌+◌, List, length, slice_index_or, Option, Some, None}
use Rattle.back_liveness.specs.declared.step.Interval.{Interval}
use Rattle.back_liveness.specs.Liveness.{IsCovered}
use Rattle.back_scan.specs.declared.spot.Spot.{Spot}
use Rattle.back_scan.specs.declared.spot.Spot.TheVariants.{Held, Slot}
use Rattle.back_scan.specs.declared.spot.Wish.{Wish}
use Rattle.back_scan.specs.Spots.{spot_of, HasHolder, StandApart, AreAllowed, AreFull}

-- the number of a spot among all places
abbrev pub rank : Spot → ℕ
rank (Held r) = r
rank (Slot k) = 14 + k

-- a place is taken at a line, or is free from it on
abbrev pub IsTaken : Option ℕ → (line : ℕ) → Type 0
IsTaken None line = ⊥
IsTaken (Some last) line = line ≤ last

abbrev pub IsFree : Option ℕ → (line : ℕ) → Type 0
IsFree None line = Unit {0}
IsFree (Some last) line = last < line

abbrev pub taken_of : List (Option ℕ) → (place : ℕ) → Option ℕ
taken_of taken q = slice_index_or taken q None

-- the later of the line up to which a place is taken and another one
pub record IsLater (taken : Option ℕ) (to last : ℕ) : Type 0 where
  pub kept : (x : ℕ) → IsTaken taken x → x ≤ last
  pub added : to ≤ last
  pub only : (x : ℕ) → x ≤ last → to < x → IsTaken taken x

pub record Scanned
    (intervals : List (Option Interval)) (parts : List (List Interval)) (wishes : List Wish) (spots : List (Option Spot)) (taken : List (Option ℕ)) (line : ℕ)
    : Type 0 where
  pub known : (v : ℕ) (p : Spot) → spot_of spots v ≡ Some p → rank p < length taken
  pub taken_up : (v : ℕ) (p : Spot) (x : ℕ) → spot_of spots v ≡ Some p → IsCovered intervals v x → IsTaken (taken_of taken (rank p)) x
  pub apart : StandApart intervals parts spots
  pub held : (r x : ℕ) → r < 14 → line ≤ x → IsTaken (taken_of taken r) x → HasHolder intervals parts spots x r
  pub allowed : AreAllowed intervals parts spots wishes
  pub full : AreFull intervals parts spots wishes
