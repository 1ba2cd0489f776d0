-- The places of registers that stand in value registers and slots.
use Rattle.std.specs.Prelude.{◌≡◌, ◌<◌, ℕ, ◌+◌, ◌==◌, Bool, true, false, List, slice_index_or, Option, Some, None}
use Rattle.mid_lines.specs.declared.line.Line.{Line}
use Rattle.back_places.specs.declared.place.Place.{Place}
use Rattle.back_places.specs.declared.place.Place.TheVariants.{InRegister, InSlot, AsConstant}
use Rattle.back_places.specs.Places.{argument_register}
use Rattle.back_trivial.specs.OwnSlots.{no_target}
use Rattle.back_liveness.specs.declared.barrier.Barrier.{Barrier}
use Rattle.back_liveness.specs.declared.step.Interval.{Interval}
use Rattle.back_liveness.specs.Barriers.{Crosses, barrier_at}
use Rattle.back_liveness.specs.Liveness.{is_held}
use Rattle.back_scan.specs.declared.spot.Spot.{Spot}
use Rattle.back_scan.specs.declared.spot.Spot.TheVariants.{Held, Slot}
use Rattle.back_allocation.specs.Standing.{AllStand}

-- slots stand behind the word of the return address
abbrev pub place_of : Option Spot → Place
place_of None = no_target
place_of (Some (Held r)) = InRegister (argument_register r)
place_of (Some (Slot k)) = InSlot (k + 1)

-- and a name to which one constant alone is given stands nowhere
abbrev pub place_chosen : (constant : Option ℕ) → Option Spot → Place
place_chosen None spot = place_of spot
place_chosen (Some w) spot = AsConstant w

abbrev pub place_in : (constants : List (Option ℕ)) → List (Option Spot) → (name : ℕ) → Place
place_in constants spots v = place_chosen (slice_index_or constants v None) (slice_index_or spots v None)

-- places of registers, by their numbers; a register that is not there is nowhere
abbrev pub place_at : List Place → (register : ℕ) → Place
place_at places v = slice_index_or places v no_target

-- the entry brings a register to its place where it is held at the first line
abbrev pub enters_in : (parts : List (List Interval)) → (register : ℕ) → Bool
enters_in parts v = is_held parts v 0

-- whether its interval begins there
abbrev pub is_entered : Option Interval → Bool
is_entered None = false
is_entered (Some i) = i.from == 0

abbrev pub begins_in : List (Option Interval) → (register : ℕ) → Bool
begins_in intervals v = is_entered (slice_index_or intervals v None)

-- Some test tells where names may be alive, with which all stand well; one that is alive at the first line is told to begin there. Where that is told to
-- be clear, none of the first names is alive at a line at which a barrier of these crosses it.
pub record ChosenWell
    (lines : List Line) (parameters : ℕ) (landings : ℕ → List ℕ) (spot : (name : ℕ) → Place) (enters begins : (name : ℕ) → Bool) (slots : ℕ)
    (barriers : List Barrier) (names : ℕ) (clear : Bool)
    : Type 0 where
  pub alive : (name line : ℕ) → Bool
  pub stand : AllStand lines parameters landings spot alive enters slots
  pub begun : (v : ℕ) → v < names → alive v 0 ≡ true → begins v ≡ true
  pub clear_is : clear ≡ true → (v line : ℕ) → v < names → alive v line ≡ true → Crosses (barrier_at barriers line) v → ⊥
