-- Finite data: trees of conses, strings, vectors and what has no such parts (ISO/IEC 13816:2007, 13.3), and when two are alike.
use Rattle.std.specs.Prelude.{◌≡◌, ◌≤◌, ⊤, ℕ, ◌+◌, Bool, true, false, ◌&&◌, List, [], ◌∷◌, Option, Some, None, length, slice_get}
use Rattle.std.specs.Str.{bytes_eq}
use Rattle.lang_meaning.specs.Values.{Value, nil, integer, character, symbol, object, same}
use Rattle.lang_meaning.specs.Objects.{Object, cons, string, vector}

mutual
  pub data Structure : Type 0 where
    -- what is alike only to itself: a number, a character, a symbol, nil, or another object, as a symbol that the program made
    atom : Value → Structure
    pair : Structure → Structure → Structure
    text : List ℕ → Structure
    row : Structures → Structure

  pub data Structures : Type 0 where
    no_structure : Structures
    structure_and : Structure → Structures → Structures

-- the object of a value in a store
abbrev pub object_in : List Object → Value → Option Object
object_in store (object i) = slice_get store i
object_in store nil = None
object_in store (integer n) = None
object_in store (character c) = None
object_in store (symbol x) = None

-- an object that is there, and is no cons, no string and no vector
abbrev pub HasNoParts : Option Object → Type 0
HasNoParts None = ⊥
HasNoParts (Some (cons a d)) = ⊥
HasNoParts (Some (string bytes)) = ⊥
HasNoParts (Some (vector vs)) = ⊥
HasNoParts (Some o) = ⊤

abbrev pub IsAtom : List Object → Value → Type 0
IsAtom store (object i) = HasNoParts (slice_get store i)
IsAtom store v = ⊤

-- the value stands for the structure in a store; lengths are integers of this profile
abbrev mutual
  pub StandsFor : List Object → Value → Structure → Type 0
  StandsFor store v (atom x) = (v ≡ x) × IsAtom store v
  StandsFor store v (pair a d) =
      (i : ℕ) × (x : Value) × (y : Value) × (v ≡ object i) × (slice_get store i ≡ Some (cons x y)) × StandsFor store x a × StandsFor store y d
  StandsFor store v (text bytes) = (i : ℕ) × (v ≡ object i) × (slice_get store i ≡ Some (string bytes)) × (length bytes ≤ 536870911)
  StandsFor store v (row ts) =
      (i : ℕ) × (vs : List Value) × (v ≡ object i) × (slice_get store i ≡ Some (vector vs)) × (length vs ≤ 536870911) × StandForEach store vs ts

  pub StandForEach : List Object → List Value → Structures → Type 0
  StandForEach store vs no_structure = vs ≡ []
  StandForEach store vs (structure_and t ts) =
      (x : Value) × (xs : List Value) × (vs ≡ x ∷ xs) × StandsFor store x t × StandForEach store xs ts

-- strings, each with its characters
abbrev pub AreStrings : List Object → List (Value × List ℕ) → Type 0
AreStrings store [] = ⊤
AreStrings store (s ∷ ss) = StandsFor store s.0 (text s.1) × AreStrings store ss

-- whether two structures are equal: the same atoms, texts of the same bytes, pairs and rows of equal parts
abbrev mutual
  pub alike : Structure → Structure → Bool
  alike (atom x) (atom y) = same x y
  alike (pair a d) (pair b e) = alike a b && alike d e
  alike (text s) (text r) = bytes_eq s r
  alike (row ts) (row rs) = alike_each ts rs
  alike t r = false

  pub alike_each : Structures → Structures → Bool
  alike_each no_structure no_structure = true
  alike_each (structure_and t ts) (structure_and r rs) = alike t r && alike_each ts rs
  alike_each ts rs = false

-- how many there are
abbrev pub count_each : Structures → ℕ
count_each no_structure = 0
count_each (structure_and t ts) = count_each ts + 1

-- levels that are enough to compare a structure with any other one, beside that of the call
abbrev mutual
  pub depth : Structure → ℕ
  depth (atom x) = 0
  depth (pair a d) = depth a + depth d + 1
  depth (text bytes) = length bytes + 1
  depth (row ts) = count_each ts + depth_of_each ts + 2

  pub depth_of_each : Structures → ℕ
  depth_of_each no_structure = 0
  depth_of_each (structure_and t ts) = depth t + depth_of_each ts
