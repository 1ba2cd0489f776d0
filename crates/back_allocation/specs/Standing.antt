-- When the registers of a procedure stand well, each in one place.
use Rattle.std.specs.Prelude.{◌≡◌, ◌≢◌, ◌<◌, ℕ, ◌+◌, ◌==◌, Bool, true, List, slice_get, Some}
use Rattle.std.specs.List.{list_any}
use Rattle.mid_code.specs.declared.operation.Callee.{Callee}
use Rattle.mid_code.specs.declared.operation.Operation.TheVariants.{Constant, Call}
use Rattle.mid_lines.specs.declared.line.Line.{Line}
use Rattle.mid_lines.specs.declared.line.Line.TheVariants.{Do, Cut}
use Rattle.back_places.specs.declared.place.Place.{Place}
use Rattle.back_places.specs.declared.place.Place.TheVariants.{InRegister, InSlot, AsConstant}
use Rattle.back_places.specs.Places.{argument_register}
use Rattle.back_places.specs.Facts.{Apart, Outlasts, IsSomewhere, CanHold, IsPlace}
use Rattle.back_liveness.specs.Liveness.{GoesAlong}
use Rattle.back_allocation.specs.LineSteps.{line_gives, steps_from}

-- a line from which a cut may go to the landings of the records that stand at it
abbrev pub MayCut : Line → Type 0
MayCut (Do (Call to callee arguments)) = Unit {0}
MayCut (Cut block word) = Unit {0}
MayCut x = ⊥

-- a place where the word of a line can be given: one that holds words, or the constant that is given
abbrev pub CanBeGiven : Line → Place → Type 0
CanBeGiven (Do (Constant to word)) p = CanHold p word
CanBeGiven x p = IsSomewhere p

-- Where a test tells registers that may be alive, it goes along with lines. Two registers that it tells at one line are in places apart, and so
-- is one that it tells behind a line from the one to which the line gives a word. What it tells behind a call but its result, and what it tells
-- at a landing, outlasts calls.
pub record StandsWell (lines : List Line) (landings : ℕ → List ℕ) (spot : (register : ℕ) → Place) (alive : (register line : ℕ) → Bool) : Type 0 where
  pub along : GoesAlong (steps_from landings 0 lines) alive
  pub apart : (v u line : ℕ) → alive v line ≡ true → alive u line ≡ true → v ≢ u → Apart (spot v) (spot u)
  pub given :
      (line to v : ℕ) (x : Line) → slice_get lines line ≡ Some x → line_gives x ≡ Some to → alive v (line + 1) ≡ true → v ≢ to
      → Apart (spot v) (spot to)
  pub somewhere : (line to : ℕ) (x : Line) → slice_get lines line ≡ Some x → line_gives x ≡ Some to → CanBeGiven x (spot to)
  pub calls :
      (line to v : ℕ) (callee : Callee) (arguments : List ℕ) → slice_get lines line ≡ Some (Do (Call to callee arguments)) → alive v (line + 1) ≡ true
      → v ≢ to → Outlasts (spot v)
  pub landed :
      (line landing v : ℕ) (x : Line) → slice_get lines line ≡ Some x → MayCut x → list_any (λ t. t == landing) (landings line) ≡ true
      → alive v landing ≡ true → Outlasts (spot v)

-- a parameter stays in the register in which it is passed, or is put into a slot
abbrev pub IsOwnPlace : (parameter : ℕ) → Place → Type 0
IsOwnPlace i (InRegister r) = (i < 14) × (r ≡ argument_register i)
IsOwnPlace i (InSlot k) = Unit {0}
IsOwnPlace i (AsConstant w) = ⊥

-- So it is with the registers of a procedure that has so many parameters, and all places are value registers and the first slots. The entry brings
-- the words of some registers to their places, which are apart from each other, and among them are those of the parameters that are alive.
pub record AllStand
    (lines : List Line) (parameters : ℕ) (landings : ℕ → List ℕ) (spot : (register : ℕ) → Place) (alive : (register line : ℕ) → Bool)
    (enters : (register : ℕ) → Bool) (slots : ℕ)
    : Type 0 where
  pub well : StandsWell lines landings spot alive
  pub entered : (v : ℕ) → v < parameters → alive v 0 ≡ true → enters v ≡ true
  pub apart : (v u : ℕ) → enters v ≡ true → enters u ≡ true → v ≢ u → Apart (spot v) (spot u)
  pub passed : (v : ℕ) → v < parameters → enters v ≡ true → IsOwnPlace v (spot v)
  pub places : (v : ℕ) → IsPlace (slots + 1) (spot v)
