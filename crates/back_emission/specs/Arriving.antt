-- Where the machine comes behind the code of a line, and what has to be known to say so.
use Rattle.std.specs.Prelude.{◌≡◌, ◌⊎◌, ℕ, List, length, Some}
use Rattle.rv_machine.specs.Run.{Moment}
use Rattle.mid_code.specs.Arena.{Block}
use Rattle.mid_code.specs.State.{Registers, MidState, register}
use Rattle.mid_lines.specs.declared.line.LineProgram.{LineProgram}
use Rattle.mid_lines.specs.LineMeaning.{Activation, Caller}
use Rattle.back_places.specs.declared.place.Place.{Place}
use Rattle.back_places.specs.Places.{Located}
use Rattle.back_places.specs.Facts.{Apart}
use Rattle.back_places.specs.Relation.{IsAt, base_of, Runs}
use Rattle.back_places.specs.StepLaw.{Comes}

module _ (program : LineProgram) (l : Located) (Fact : (number line register : ℕ) → Place → Type 0) (first : List Block) where
  -- the machine comes to a line of an activation, with these registers, in so many instructions
  pub record Given (a : Activation) (line' : ℕ) (rs' : Registers) (callers : List Caller) (z' : MidState) (m : Moment) (count : ℕ) : Type 0 where
    pub moment' : Moment
    pub comes : Comes count m moment'
    pub runs : Runs program l Fact first a line' rs' callers z' moment'

  -- each fact of a line is of the word that is given, or of one that was there and is apart
  abbrev pub Arrives : (a : Activation) (z : MidState) (registers words : List ℕ) (line' : ℕ) (rs' : Registers) (target : Place) (w : ℕ) → Type 0
  Arrives a z registers words line' rs' target w =
      (v : ℕ) (p : Place) (x : ℕ) → Fact a.procedure line' v p → register v rs' ≡ Some x
      → ((p ≡ target) × (x ≡ w)) ⊎ (IsAt registers words (base_of program (length z.arena.memory) a) p x × Apart p target)
