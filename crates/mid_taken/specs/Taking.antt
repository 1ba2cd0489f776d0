-- Data that are taken out of words: wherever the words represent a state, of the value that is there.
use Rattle.std.specs.Prelude.{◌≡◌, ℕ, List, Some}
use Rattle.base.specs.declared.place.Place.{Place}
use Rattle.base.specs.declared.reason.Reason.{Reason}
use Rattle.base.specs.declared.reason.Stop.{Stop}
use Rattle.base.specs.declared.reason.Stop.TheVariants.{Refused, NoMemory}
use Rattle.base.specs.Data.{Item}
use Rattle.lang_meaning.specs.Values.{Value}
use Rattle.lang_meaning.specs.State as meaning
use Rattle.mid_arena.specs.Places.{word_of}
use Rattle.lang_taken.specs.Shapes.{Shape}
use Rattle.lang_taken.specs.Taken.{TakesShape, Takes}
use Rattle.lang_taken.specs.Failing.{FailsShape, Fails}
use Rattle.mid_taken.specs.declared.parts.Part.{Part}
use Rattle.mid_taken.specs.declared.memory.Memory.{Memory}
use Rattle.mid_taken.specs.Stands.{Stands}
use Rattle.mid_taken.specs.Parts.{IsPart}

-- a refusal is at the place and for such a reason; want of memory says nothing
abbrev pub StopsBy : Place → (Reason → Type 0) → Stop → Type 0
StopsBy place For (Refused refusal) = (refusal.place ≡ place) × For refusal.reason
StopsBy place For NoMemory = Unit {0}

-- what the part stands for, and what is left behind it
pub record PartTaken (from : Memory) (part : Part) (deep left : ℕ) (d : Item) (rest : ℕ) : Type 0 where
  pub there :
      (names : List (List ℕ)) (z : meaning.State) (m : Stands names z from.words.now from.symbols.now) (s : Shape)
      → IsPart names m.places from.words.now from.expansion s part
      → TakesShape names z.store from.place from.expansion deep left s d rest

-- and that it is refused
pub record PartFails (from : Memory) (part : Part) (deep left : ℕ) (r : Reason) : Type 0 where
  pub there :
      (names : List (List ℕ)) (z : meaning.State) (m : Stands names z from.words.now from.symbols.now) (s : Shape)
      → IsPart names m.places from.words.now from.expansion s part
      → FailsShape names z.store from.place from.expansion deep left s r

-- the same of the value that has a word
pub record WordTaken (from : Memory) (word deep left : ℕ) (d : Item) (rest : ℕ) : Type 0 where
  pub there :
      (names : List (List ℕ)) (z : meaning.State) (m : Stands names z from.words.now from.symbols.now) (v : Value) → word_of m.places v ≡ Some word
      → Takes names z.store from.place from.expansion deep left v d rest

pub record WordFails (from : Memory) (word deep left : ℕ) (r : Reason) : Type 0 where
  pub there :
      (names : List (List ℕ)) (z : meaning.State) (m : Stands names z from.words.now from.symbols.now) (v : Value) → word_of m.places v ≡ Some word
      → Fails names z.store from.place from.expansion deep left v r
