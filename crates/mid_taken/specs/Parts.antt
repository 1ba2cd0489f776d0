-- What the code finds where the word of a value points, and what the value then is at its outermost.
use Rattle.std.specs.Prelude.{◌≡◌, ℕ, ◌+◌, ◌*◌, ◌/◌, ◌<◌, true, List, length, Some, slice_get, slice_index_or}
use Rattle.lang_meaning.specs.Values.{Value, nil, in_range}
use Rattle.lang_meaning.specs.State as meaning
use Rattle.mid_arena.specs.Places.{Places, word_of}
use Rattle.mid_arena.specs.Layouts.{byte_words, packed, AreBytes}
use Rattle.lang_taken.specs.Shapes.{Shape, shape_of}
use Rattle.lang_taken.specs.Shapes as shape
use Rattle.lang_taken.specs.Taken.{IsByte, SymbolFor}
use Rattle.mid_taken.specs.declared.parts.Part.{Part}
use Rattle.mid_taken.specs.declared.parts.Part.TheVariants.{Int, Char, Sym, Str, Vector, Nil, Cons, NoDatum}
use Rattle.mid_taken.specs.declared.memory.Memory.{Memory}
use Rattle.mid_taken.specs.Stands.{Stands}

-- bytes stand in the words from a place on, four in each
pub record BytesIn (words : List ℕ) (at : ℕ) (bytes : List ℕ) : Type 0 where
  pub are_bytes : AreBytes bytes
  pub each : (i : ℕ) → i < byte_words (length bytes) → slice_get words (at + i) ≡ Some (packed bytes (4 * i))

-- the word of a value stands at a place
pub record ValueIn (places : Places) (words : List ℕ) (at : ℕ) (v : Value) : Type 0 where
  pub word : ℕ
  pub stands : slice_get words at ≡ Some word
  pub of_value : word_of places v ≡ Some word

-- so do the words of values, from a place on
pub record ValuesIn (places : Places) (words : List ℕ) (at : ℕ) (vs : List Value) : Type 0 where
  pub each : (i : ℕ) → i < length vs → ValueIn places words (at + i) (slice_index_or vs i nil)

pub record IsString (words : List ℕ) (at count : ℕ) (s : Shape) : Type 0 where
  pub bytes : List ℕ
  pub shape_is : s ≡ shape.string bytes
  pub count_is : length bytes ≡ count
  pub there : BytesIn words at bytes

pub record IsVector (places : Places) (words : List ℕ) (at count : ℕ) (s : Shape) : Type 0 where
  pub values : List Value
  pub shape_is : s ≡ shape.vector values
  pub count_is : length values ≡ count
  pub there : ValuesIn places words at values

pub record IsCons (places : Places) (car cdr : ℕ) (s : Shape) : Type 0 where
  pub first : Value
  pub second : Value
  pub shape_is : s ≡ shape.cons first second
  pub car_is : word_of places first ≡ Some car
  pub cdr_is : word_of places second ≡ Some cdr

-- a part that was found is of that shape
abbrev pub IsPart : List (List ℕ) → Places → List ℕ → (expansion : ℕ) → Shape → Part → Type 0
IsPart names places words expansion s (Int n) = (s ≡ shape.integer n) × (in_range n ≡ true)
IsPart names places words expansion s (Char code) = (s ≡ shape.character code) × IsByte code
IsPart names places words expansion s (Sym one) = SymbolFor names expansion s one
IsPart names places words expansion s (Str at count) = IsString words at count s
IsPart names places words expansion s (Vector at count) = IsVector places words at count s
IsPart names places words expansion s Nil = s ≡ shape.nil
IsPart names places words expansion s (Cons car cdr) = IsCons places car cdr s
IsPart names places words expansion s NoDatum = s ≡ shape.no_datum

-- the part at a word: wherever the words represent a state, it is of the shape of the value that has the word
pub record IsPartAt (from : Memory) (word : ℕ) (part : Part) : Type 0 where
  pub there :
      (names : List (List ℕ)) (z : meaning.State) (m : Stands names z from.words.now from.symbols.now) (v : Value) → word_of m.places v ≡ Some word
      → IsPart names m.places from.words.now from.expansion (shape_of z.store v) part

-- how much a part takes of what is left, without what is inside it
abbrev pub part_size : Part → ℕ
part_size (Int n) = 1
part_size (Char code) = 1
part_size (Sym one) = 1
part_size (Str at count) = 1 + (count + 3) / 4
part_size (Vector at count) = 1
part_size Nil = 1
part_size (Cons car cdr) = 1
part_size NoDatum = 0
