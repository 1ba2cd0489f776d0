-- Lines at which nothing stands in a value register.
use Rattle.std.specs.Prelude.{◌≡◌, ◌≤◌, ℕ, ◌==◌, Bool, true, ◌&&◌, nat_le, ◌⊎◌, List, Option, Some}
use Rattle.std.specs.List.{list_any}
use Rattle.back_liveness.specs.declared.step.Interval.{Interval}
use Rattle.back_liveness.specs.Liveness.{have_line, is_held}
use Rattle.back_scan.specs.declared.spot.Spot.{Spot}
use Rattle.back_scan.specs.declared.spot.Spot.TheVariants.{Held, Slot}
use Rattle.back_scan.specs.declared.spot.Wish.{Wish}
use Rattle.back_scan.specs.declared.windows.Window.{Window}
use Rattle.back_scan.specs.Spots.{Allows, spot_of}

-- whether a window is one of a register with a line, and whether some of these is
abbrev pub has_window : Window → (number line : ℕ) → Bool
has_window w r x = (w.number == r) && (nat_le w.from x && nat_le x w.to)

abbrev pub is_open : List Window → (number line : ℕ) → Bool
is_open windows r x = list_any (λ w. has_window w r x) windows

-- nothing stands there in that register
abbrev pub AreOpen : (parts : List (List Interval)) → List (Option Spot) → List Window → Type 0
AreOpen parts spots windows = (r x v : ℕ) → is_open windows r x ≡ true → spot_of spots v ≡ Some (Held r) → is_held parts v x ≡ true → ⊥

-- a line of a window
pub record IsLineOf (w : Window) (number line : ℕ) : Type 0 where
  pub same : w.number ≡ number
  pub from : w.from ≤ line
  pub to : line ≤ w.to

-- a value register that is as it asks, with windows for all these parts
abbrev pub IsOpenFor : Wish → List Window → (own : List Interval) → Spot → Type 0
IsOpenFor wish windows own (Held r) = Allows wish r × ((x : ℕ) → have_line own x ≡ true → is_open windows r x ≡ true)
IsOpenFor wish windows own (Slot k) = ⊥

-- The windows when a register with these parts has come to a spot from a line on: those that were there, and, if all else in the spot has ended, one
-- of the lines from there on; and none with a line of these parts.
pub record AreKept (old new : List Window) (spot : Spot) (ended : Bool) (own : List Interval) (line : ℕ) : Type 0 where
  pub were : (r x : ℕ) → is_open new r x ≡ true → (is_open old r x ≡ true) ⊎ ((ended ≡ true) × (spot ≡ Held r) × (line ≤ x))
  pub apart : (r x : ℕ) → is_open new r x ≡ true → spot ≡ Held r → have_line own x ≡ true → ⊥
