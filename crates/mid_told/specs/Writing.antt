-- Texts that are appended for words: wherever the words represent a state, of the value that is there.
use Rattle.std.specs.Prelude.{◌≡◌, ℕ, List, ◌++◌, Some}
use Rattle.lang_meaning.specs.declared.program.ClassRow.{ClassRow}
use Rattle.lang_meaning.specs.Values.{Value}
use Rattle.lang_meaning.specs.State as meaning
use Rattle.mid_arena.specs.Places.{word_of}
use Rattle.lang_taken.specs.Shapes.{Shape, shape_of}
use Rattle.lang_told.specs.Spelled.{atom_text}
use Rattle.lang_told.specs.Written.{Writes, IsUnwritten}
use Rattle.mid_told.specs.declared.parts.Atom.{Atom}
use Rattle.mid_told.specs.declared.parts.Part.{Part}
use Rattle.mid_told.specs.declared.writing.Halt.{Halt}
use Rattle.mid_told.specs.declared.writing.Halt.TheVariants.{Unwritten, NoMemory}
use Rattle.mid_told.specs.Stands.{Stands}
use Rattle.mid_told.specs.Parts.{IsAtomIn, IsPart}

-- want of memory says nothing
abbrev pub HaltsBy : Type 0 → Halt → Type 0
HaltsBy Fact Unwritten = Fact
HaltsBy Fact NoMemory = Unit {0}

pub record AtomWritten (words : List ℕ) (atom : Atom) (before after : List ℕ) : Type 0 where
  pub text : List ℕ
  pub appended : after ≡ before ++ text
  pub there : (s : Shape) → IsAtomIn words s atom → atom_text s ≡ text

-- the text of a part, and what is left behind it
pub record PartWritten (words : List ℕ) (part : Part) (left : ℕ) (before after : List ℕ) (rest : ℕ) : Type 0 where
  pub text : List ℕ
  pub appended : after ≡ before ++ text
  pub there :
      (names : List (List ℕ)) (classes : List ClassRow) (z : meaning.State) (m : Stands names classes z words) (s : Shape)
      → IsPart m.places words s part → Writes z.store left s text rest

-- and that it is not written
pub record PartUnwritten (words : List ℕ) (part : Part) (left : ℕ) : Type 0 where
  pub there :
      (names : List (List ℕ)) (classes : List ClassRow) (z : meaning.State) (m : Stands names classes z words) (s : Shape)
      → IsPart m.places words s part → IsUnwritten z.store left s

-- the same of the value that has a word
pub record WordWritten (words : List ℕ) (word left : ℕ) (before after : List ℕ) (rest : ℕ) : Type 0 where
  pub text : List ℕ
  pub appended : after ≡ before ++ text
  pub there :
      (names : List (List ℕ)) (classes : List ClassRow) (z : meaning.State) (m : Stands names classes z words) (v : Value)
      → word_of m.places v ≡ Some word → Writes z.store left (shape_of z.store v) text rest

pub record WordUnwritten (words : List ℕ) (word left : ℕ) : Type 0 where
  pub there :
      (names : List (List ℕ)) (classes : List ClassRow) (z : meaning.State) (m : Stands names classes z words) (v : Value)
      → word_of m.places v ≡ Some word → IsUnwritten z.store left (shape_of z.store v)
