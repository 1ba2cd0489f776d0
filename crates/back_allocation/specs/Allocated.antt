-- Decisions by which each register has one place, and when they are good but for positions.
use Rattle.std.specs.Prelude.{◌≡◌, ◌≤◌, ◌<◌, ℕ, zero, suc, ◌+◌, ◌==◌, Bool, false, ◌&&◌, ◌||◌, List, [], ◌∷◌, slice_get, Option, Some, None, if◌then◌else◌}
use Rattle.mid_lines.specs.declared.line.Line.{Line}
use Rattle.mid_lines.specs.declared.line.LineProcedure.{LineProcedure}
use Rattle.mid_lines.specs.declared.line.LineProgram.{LineProgram}
use Rattle.mid_lines.specs.Lines.{line_of}
use Rattle.back_places.specs.declared.place.Place.{Place}
use Rattle.back_places.specs.declared.place.Place.TheVariants.{InRegister, InSlot, AsConstant}
use Rattle.back_places.specs.Places.{Located, way_at, reachable}
use Rattle.back_places.specs.StepLaw.{Known}
use Rattle.back_places.specs.Trivial.{ToRecords, RecordsFollow, ArgumentsFit}
use Rattle.back_trivial.specs.OwnSlots.{no_target, is_there, IsPlacedWell}
use Rattle.back_allocation.specs.LineSteps.{landings_of, line_gives}
use Rattle.back_allocation.specs.Names.{read_name, AreNamings, NamesStand}
use Rattle.back_allocation.specs.Standing.{AllStand}

-- What is chosen for a program: the lines of each procedure with names of registers, whose names these are and how many there are, the place of each,
-- where names may be alive, which of them the entry brings to their places, and how many slots there are.
pub record Choice : Type 0 where
  pub lines : (number : ℕ) → List Line
  pub owner : (number name : ℕ) → ℕ
  pub names : (number : ℕ) → ℕ
  pub spot : (number name : ℕ) → Place
  pub alive : (number name line : ℕ) → Bool
  pub enters : (number name : ℕ) → Bool
  pub slots : (number : ℕ) → ℕ

abbrev pub is_same_place : Place → Place → Bool
is_same_place (InRegister r) (InRegister q) = r == q
is_same_place (InSlot k) (InSlot j) = k == j
is_same_place (AsConstant w) (AsConstant u) = w == u
is_same_place p q = false

-- whether a test tells one of the first numbers
abbrev pub any_below : (count : ℕ) → (ℕ → Bool) → Bool
any_below zero test = false
any_below (suc count) test = test count || any_below count test

-- what is known at a line: a name that may be alive is in its place, and so is the register of which it is a name
abbrev pub has_name : Choice → (number line register : ℕ) → Place → (name : ℕ) → Bool
has_name c number line v p w = (c.owner number w == v) && (c.alive number w line && is_same_place p (c.spot number w))

abbrev pub is_chosen : LineProgram → Choice → (number line register : ℕ) → Place → Bool
is_chosen program c number line v p = is_there (slice_get program.procedures number) && any_below (c.names number) (has_name c number line v p)

-- where a line gives its word
abbrev pub place_given : (spot : (register : ℕ) → Place) → Option ℕ → Place
place_given spot None = no_target
place_given spot (Some to) = spot to

-- where a line reads a register, and where it gives its word, by the names that it has
abbrev pub source_in : (spot : (name : ℕ) → Place) → (line named : Option Line) → (register : ℕ) → Place
source_in spot None o v = no_target
source_in spot (Some x) None v = no_target
source_in spot (Some x) (Some y) v = spot (read_name x y v)

abbrev pub target_in : (spot : (name : ℕ) → Place) → (line named : Option Line) → Place
target_in spot None o = no_target
target_in spot (Some x) None = no_target
target_in spot (Some x) (Some y) = place_given spot (line_gives y)

-- so many parameters from one on; those that the entry does not bring to their places go nowhere
abbrev pub parameter_places : (spot : (register : ℕ) → Place) → (enters : (register : ℕ) → Bool) → (from count : ℕ) → List Place
parameter_places spot enters v zero = []
parameter_places spot enters v (suc count) = (if enters v then spot v else no_target) ∷ parameter_places spot enters (v + 1) count

-- Each register is read from the place of its name, and given to it; the return address is always taken from the frame; the records that stand follow the
-- lines; and the frame has a word for each slot and one for the return address, all within reach at each line.
pub record IsAllocated (program : LineProgram) (l : Located) (c : Choice) : Type 0 where
  pub named :
      (number : ℕ) (p : LineProcedure) → slice_get program.procedures number ≡ Some p → AreNamings (c.owner number) (c.names number) p.lines (c.lines number)
  pub owned :
      (number : ℕ) (p : LineProcedure) → slice_get program.procedures number ≡ Some p
      → NamesStand (c.lines number) p.registers (c.owner number) (c.names number) (c.spot number) (c.alive number)
  pub sources :
      (number line v : ℕ) → l.source number line v ≡ source_in (c.spot number) (line_of program number line) (slice_get (c.lines number) line) v
  pub targets : (number line : ℕ) → l.target number line ≡ target_in (c.spot number) (line_of program number line) (slice_get (c.lines number) line)
  pub parameters :
      (number : ℕ) (p : LineProcedure) → slice_get program.procedures number ≡ Some p
      → l.parameters number ≡ parameter_places (c.spot number) (c.enters number) 0 p.parameters
  pub unlinked : (number line : ℕ) → l.linked number line ≡ false
  pub saves : (number : ℕ) → l.saves number ≡ is_there (slice_get program.procedures number)
  pub records : (number line : ℕ) (x : Line) → line_of program number line ≡ Some x → RecordsFollow l number line x
  pub landings : (number line : ℕ) → ToRecords l number (l.records number line)
  pub first : (number : ℕ) → l.records number 0 ≡ []
  pub arguments : (number line : ℕ) (x : Line) → line_of program number line ≡ Some x → ArgumentsFit l x
  pub few : (number : ℕ) (p : LineProcedure) → slice_get program.procedures number ≡ Some p → p.parameters ≤ l.argument_words
  pub stand :
      (number : ℕ) (p : LineProcedure) → slice_get program.procedures number ≡ Some p
      → AllStand (c.lines number) p.parameters (λ line. landings_of (l.records number line)) (c.spot number) (c.alive number) (c.enters number) (c.slots number)
  pub frames : (number : ℕ) (p : LineProcedure) → slice_get program.procedures number ≡ Some p → c.slots number < p.frame
  pub reach : (number line : ℕ) (p : LineProcedure) → slice_get program.procedures number ≡ Some p → c.slots number < reachable (way_at l number line) p.frame

-- such decisions are good but for positions
abbrev pub LawOfAllocated : Type 0
LawOfAllocated = (program : LineProgram) (l : Located) (c : Choice) → IsAllocated program l c → IsPlacedWell program l (Known (is_chosen program c))
