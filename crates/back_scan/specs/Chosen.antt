-- What is chosen for an interval that begins at a line.
use Rattle.std.specs.Prelude.{◌≡◌, ◌≤◌, ◌<◌, ℕ, ◌+◌, Bool, true, false, List, length, Option, Some}
use Rattle.back_liveness.specs.declared.step.Interval.{Interval}
use Rattle.back_scan.specs.declared.spot.Spot.{Spot}
use Rattle.back_scan.specs.declared.spot.Spot.TheVariants.{Slot}
use Rattle.back_scan.specs.declared.spot.Wish.{Wish}
use Rattle.back_scan.specs.Spots.{Allows, IsAllowed, spot_of}
use Rattle.back_scan.specs.Scanned.{rank, IsTaken, IsFree, taken_of, Scanned}
use Rattle.back_scan.specs.declared.windows.Window.{Window}
use Rattle.back_scan.specs.Windows.{AreOpen, IsOpenFor}

-- a spot that may be had and is free from the line on; a slot only where all that may be had is taken at the line
pub record IsChosen (wish : Wish) (taken : List (Option ℕ)) (line : ℕ) (p : Spot) : Type 0 where
  pub known : rank p < length taken
  pub free : IsFree (taken_of taken (rank p)) line
  pub allowed : IsAllowed wish p
  pub full : (k r : ℕ) → p ≡ Slot k → Allows wish r → IsTaken (taken_of taken r) line

-- the same places are taken, and maybe there is one more, which is not
pub record IsSame (old new : List (Option ℕ)) : Type 0 where
  pub same : (q : ℕ) → taken_of new q ≡ taken_of old q
  pub more : length old ≤ length new
  pub few : length new ≤ length old + 1

-- A spot for a register with these parts: one in which all else has ended, or a value register with windows for all parts.
abbrev pub IsSpotFor : Wish → (taken : List (Option ℕ)) → List Window → (own : List Interval) → (line : ℕ) → (ended : Bool) → Spot → Type 0
IsSpotFor wish taken windows own line true p = IsChosen wish taken line p
IsSpotFor wish taken windows own line false p = IsOpenFor wish windows own p

-- the scan goes on with a register more
pub record GoesOn
    (intervals : List (Option Interval)) (parts : List (List Interval)) (wishes : List Wish) (register line : ℕ) (old new : List (Option Spot))
    (taken more : List (Option ℕ)) (windows : List Window)
    : Type 0 where
  pub scanned : Scanned intervals parts wishes new more line
  pub clear : AreOpen parts new windows
  pub count : length new ≡ length old
  pub placed : (p : Spot) × (spot_of new register ≡ Some p)
  pub kept : (u : ℕ) (p : Spot) → spot_of old u ≡ Some p → spot_of new u ≡ Some p
  pub room : length taken ≤ length more
  pub few : length more ≤ length taken + 1
