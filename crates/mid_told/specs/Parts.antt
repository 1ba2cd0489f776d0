-- What the code finds where a word points, and what the value of the word then is at its outermost.
use Rattle.std.specs.Prelude.{◌≡◌, ℕ, ◌+◌, ◌*◌, ◌/◌, ◌%◌, ◌<◌, ◌==◌, pos, int_div, true, false, List, length, Some, slice_get, slice_index_or, if◌then◌else◌}
use Rattle.base.specs.Arithmetic.{signed}
use Rattle.lang_meaning.specs.Values.{Value, named, nil}
use Rattle.mid_arena.specs.Tags.{cons_tag, object_tag, nil_word, string_header, vector_header, symbol_header, fresh_header}
use Rattle.mid_arena.specs.Places.{Places, word_of}
use Rattle.mid_arena.specs.Layouts.{byte_words, packed, AreBytes}
use Rattle.lang_taken.specs.Shapes.{Shape, own_size, is_list}
use Rattle.lang_taken.specs.Shapes as shape
use Rattle.lang_told.specs.Spelled.{atom_text, is_atom, fresh_text}
use Rattle.mid_told.specs.declared.parts.Atom.{Atom}
use Rattle.mid_told.specs.declared.parts.Atom.TheVariants.{Int, Char, Name, Fresh, Str}
use Rattle.mid_told.specs.declared.parts.Part.{Part}
use Rattle.mid_told.specs.declared.parts.Part.TheVariants as part
use Rattle.mid_told.specs.Reading.{read_at, header_in, second_in}

-- ---- what is found

-- by the header, the word behind it and the place behind that
abbrev pub object_part : (header second inside : ℕ) → Part
object_part header second inside =
    if header == string_header then part.Atom (Str inside (second / 4)) else
    (if header == vector_header then part.Vector inside (second / 4) else
    (if header == symbol_header then part.Atom (Name inside (second / 4)) else
    (if header == fresh_header then part.Atom (Fresh (second / 4)) else part.NoDatum)))

abbrev pub immediate_part : ℕ → Part
immediate_part word = if word == nil_word then part.Nil else part.Atom (Char (word / 256 % 256))

-- by the tag of the word
unfoldable pub part_in : List ℕ → ℕ → Part
part_in words word =
    if word % 4 == 0 then part.Atom (Int (int_div (signed word) (pos 4))) else
    (if word % 4 == cons_tag then part.Cons (read_at words (word / 4)) (second_in words word) else
    (if word % 4 == object_tag then object_part (header_in words word) (second_in words word) (word / 4 + 2) else immediate_part word))

-- ---- what the value is

-- bytes stand in the words from a place on, four in each
pub record BytesIn (words : List ℕ) (at : ℕ) (bytes : List ℕ) : Type 0 where
  pub are_bytes : AreBytes bytes
  pub each : (i : ℕ) → i < byte_words (length bytes) → slice_get words (at + i) ≡ Some (packed bytes (4 * i))

-- the word of a value stands at a place
pub record ValueIn (places : Places) (words : List ℕ) (at : ℕ) (v : Value) : Type 0 where
  pub word : ℕ
  pub stands : slice_get words at ≡ Some word
  pub of_value : word_of places v ≡ Some word

-- so do the words of values, from a place on
pub record ValuesIn (places : Places) (words : List ℕ) (at : ℕ) (vs : List Value) : Type 0 where
  pub each : (i : ℕ) → i < length vs → ValueIn places words (at + i) (slice_index_or vs i nil)

-- what has these bytes
pub record IsText (words : List ℕ) (at count : ℕ) (make : List ℕ → Shape) (s : Shape) : Type 0 where
  pub bytes : List ℕ
  pub shape_is : s ≡ make bytes
  pub count_is : length bytes ≡ count
  pub there : BytesIn words at bytes

-- a symbol that was made, by the run or by an expansion
pub record IsMade (serial : ℕ) (s : Shape) : Type 0 where
  pub atom : is_atom s ≡ true
  pub text : atom_text s ≡ fresh_text serial
  pub size : own_size s ≡ 1
  pub no_list : is_list s ≡ false

pub record IsVector (places : Places) (words : List ℕ) (at count : ℕ) (s : Shape) : Type 0 where
  pub values : List Value
  pub shape_is : s ≡ shape.vector values
  pub count_is : length values ≡ count
  pub there : ValuesIn places words at values

pub record IsCons (places : Places) (car cdr : ℕ) (s : Shape) : Type 0 where
  pub first : Value
  pub second : Value
  pub shape_is : s ≡ shape.cons first second
  pub car_is : word_of places first ≡ Some car
  pub cdr_is : word_of places second ≡ Some cdr

-- what was found is of that shape
abbrev pub IsAtomIn : List ℕ → Shape → Atom → Type 0
IsAtomIn words s (Int n) = s ≡ shape.integer n
IsAtomIn words s (Char code) = s ≡ shape.character code
IsAtomIn words s (Name at count) = IsText words at count (λ bytes. shape.symbol (named bytes)) s
IsAtomIn words s (Fresh serial) = IsMade serial s
IsAtomIn words s (Str at count) = IsText words at count shape.string s

abbrev pub IsPart : Places → List ℕ → Shape → Part → Type 0
IsPart places words s (part.Atom atom) = IsAtomIn words s atom
IsPart places words s (part.Vector at count) = IsVector places words at count s
IsPart places words s part.Nil = s ≡ shape.nil
IsPart places words s (part.Cons car cdr) = IsCons places car cdr s
IsPart places words s part.NoDatum = s ≡ shape.no_datum

-- ---- sizes

-- how much a part takes of what is left, without what is inside it
abbrev pub atom_size : Atom → ℕ
atom_size (Int n) = 1
atom_size (Char code) = 1
atom_size (Name at count) = 1
atom_size (Fresh serial) = 1
atom_size (Str at count) = 1 + (count + 3) / 4

abbrev pub part_size : Part → ℕ
part_size (part.Atom atom) = atom_size atom
part_size (part.Vector at count) = 1
part_size part.Nil = 1
part_size (part.Cons car cdr) = 1
part_size part.NoDatum = 0
