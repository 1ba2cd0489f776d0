-- Registers with their intervals, by the lines at which these begin.
use Rattle.std.specs.Prelude.{◌≡◌, ◌≤◌, ◌<◌, ℕ, List, length, Option, Some}
use Rattle.std.specs.List.{All, Contains}
use Rattle.back_liveness.specs.declared.step.Interval.{Interval}
use Rattle.back_scan.specs.declared.entries.Entry.{Entry}
use Rattle.back_scan.specs.Spots.{interval_of}

abbrev pub IsEntry : List (Option Interval) → Entry → Type 0
IsEntry intervals e = interval_of intervals e.register ≡ Some e.interval

-- an entry for each of the first registers that has an interval, and no other
pub record AreEntries (intervals : List (Option Interval)) (count : ℕ) (entries : List Entry) : Type 0 where
  pub each : All (IsEntry intervals) entries
  pub all : (v : ℕ) (i : Interval) → v < count → interval_of intervals v ≡ Some i → Contains entries (record { register = v; interval = i })
  pub few : length entries ≤ count

abbrev pub begins : Entry → ℕ
begins e = e.interval.from
