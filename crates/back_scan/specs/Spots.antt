-- When registers stand well: apart where they are held, as they ask, and in a slot only where no value register was left.
use Rattle.std.specs.Prelude.{◌≡◌, ◌≤◌, ◌<◌, ℕ, true, List, length, slice_index_or, Option, Some, None}
use Rattle.back_liveness.specs.declared.step.Interval.{Interval}
use Rattle.back_liveness.specs.Liveness.{is_held, IsCovered}
use Rattle.back_scan.specs.declared.spot.Spot.{Spot}
use Rattle.back_scan.specs.declared.spot.Spot.TheVariants.{Held, Slot}
use Rattle.back_scan.specs.declared.spot.Wish.{Wish}
use Rattle.back_scan.specs.declared.spot.Wish.TheVariants.{Any, Only, InSlot}

-- a value register that a register asks for, one of the fourteen
abbrev pub Allows : Wish → (number : ℕ) → Type 0
Allows Any r = r < 14
Allows (Only q) r = (r < 14) × (r ≡ q)
Allows InSlot r = ⊥

-- a spot that is as it asks
abbrev pub IsAllowed : Wish → Spot → Type 0
IsAllowed wish (Held r) = Allows wish r
IsAllowed wish (Slot k) = Unit {0}

-- where a register stands, and its interval, by its number
abbrev pub spot_of : List (Option Spot) → (register : ℕ) → Option Spot
spot_of spots v = slice_index_or spots v None

abbrev pub interval_of : List (Option Interval) → (register : ℕ) → Option Interval
interval_of intervals v = slice_index_or intervals v None

module _ (intervals : List (Option Interval)) (parts : List (List Interval)) (spots : List (Option Spot)) where
  -- some register whose interval has a line stands in that value register
  pub record HasHolder (line number : ℕ) : Type 0 where
    pub holder : ℕ
    pub stands : spot_of spots holder ≡ Some (Held number)
    pub covers : IsCovered intervals holder line

  -- at a line all that may be had is held by others
  abbrev pub NoneIsLeft : Wish → (line : ℕ) → Type 0
  NoneIsLeft wish line = (r : ℕ) → Allows wish r → HasHolder line r

  -- No line lies in parts of two registers that stand in one spot.
  abbrev pub StandApart : Type 0
  StandApart =
      (v u : ℕ) (p : Spot) (line : ℕ) → spot_of spots v ≡ Some p → spot_of spots u ≡ Some p → is_held parts v line ≡ true → is_held parts u line ≡ true → v ≡ u

  -- a register in a slot: others hold all that it may have where its interval begins
  abbrev pub AreFull : List Wish → Type 0
  AreFull wishes =
      (v k : ℕ) (i : Interval) → spot_of spots v ≡ Some (Slot k) → interval_of intervals v ≡ Some i → NoneIsLeft (slice_index_or wishes v InSlot) i.from

  abbrev pub AreAllowed : List Wish → Type 0
  AreAllowed wishes = (v : ℕ) (p : Spot) → spot_of spots v ≡ Some p → IsAllowed (slice_index_or wishes v InSlot) p

-- All registers stand well. A register has a spot where it has an interval, and slots are no more than registers.
pub record StandWell
    (intervals : List (Option Interval)) (parts : List (List Interval)) (wishes : List Wish) (spots : List (Option Spot)) (slots : ℕ) : Type 0 where
  pub count : length spots ≡ length intervals
  pub all : (v : ℕ) (i : Interval) → interval_of intervals v ≡ Some i → (p : Spot) × (spot_of spots v ≡ Some p)
  pub apart : StandApart intervals parts spots
  pub allowed : AreAllowed intervals parts spots wishes
  pub full : AreFull intervals parts spots wishes
  pub within : (v k : ℕ) → spot_of spots v ≡ Some (Slot k) → k < slots
  pub few : slots ≤ length intervals
