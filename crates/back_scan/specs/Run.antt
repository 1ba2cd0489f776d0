-- The scan over the first entries.
use Rattle.std.specs.Prelude.{◌≡◌, ◌≤◌, ◌<◌, ℕ, ◌+◌, List, length, slice_get, Option, Some}
use Rattle.back_liveness.specs.declared.step.Interval.{Interval}
use Rattle.back_scan.specs.declared.entries.Entry.{Entry}
use Rattle.back_scan.specs.declared.spot.Spot.{Spot}
use Rattle.back_scan.specs.declared.spot.Wish.{Wish}
use Rattle.back_scan.specs.Spots.{spot_of}
use Rattle.back_scan.specs.Entries.{begins}
use Rattle.back_scan.specs.Scanned.{Scanned}
use Rattle.back_scan.specs.declared.windows.Window.{Window}
use Rattle.back_scan.specs.Windows.{AreOpen}

-- the registers of so many entries have their spots, and the entries behind them begin at a line or later
pub record HasScanned
    (intervals : List (Option Interval)) (parts : List (List Interval)) (wishes : List Wish) (entries : List Entry) (at : ℕ) (spots : List (Option Spot))
    (taken : List (Option ℕ)) (windows : List Window) (line : ℕ) : Type 0 where
  pub scanned : Scanned intervals parts wishes spots taken line
  pub clear : AreOpen parts spots windows
  pub count : length spots ≡ length intervals
  pub room : 14 ≤ length taken
  pub few : length taken ≤ at + 14
  pub placed : (j : ℕ) (e : Entry) → j < at → slice_get entries j ≡ Some e → (p : Spot) × (spot_of spots e.register ≡ Some p)
  pub later : (j : ℕ) (e : Entry) → at ≤ j → slice_get entries j ≡ Some e → line ≤ begins e
