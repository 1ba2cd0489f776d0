-- What the words of an object are, and of a symbol.
use Rattle.std.specs.Prelude.{◌≡◌, ℕ, ◌+◌, ◌*◌, ◌/◌, ◌%◌, ◌^◌, ◌<◌, ◌≤◌, true, List, length, Option, Some, slice_get, slice_index_or}
use Rattle.lang_meaning.specs.declared.program.ProgramRows.{ProgramRows}
use Rattle.lang_meaning.specs.declared.program.SlotRow.{SlotRow}
use Rattle.lang_meaning.specs.Values.{SymbolValue, named, unnamed, Value, symbol, truth}
use Rattle.lang_meaning.specs.Objects.{Object, cons, string, vector, instance, function, closure, generic_function, class_object, input_stream, output_stream, fresh_symbol, serious_condition_class}
use Rattle.lang_meaning.specs.Lookup.{text}
use Rattle.lang_meaning.specs.Classes.{precedence, slots, is_below}
use Rattle.lang_meaning.specs.InitialHeap.{class_value, initargs_value, initform_value}
use Rattle.lang_meaning.specs.Primitives.{class_name, can_be_made, instance_words}
use Rattle.mid_code.specs.Arena.{Arena, word_at}
use Rattle.mid_arena.specs.Tags.{cons_tag, object_tag, string_header, vector_header, instance_header, function_header, generic_header, class_header, input_header, output_header, symbol_header, fresh_header}
use Rattle.mid_arena.specs.Places.{Spot, Places}
use Rattle.mid_arena.specs.Standing.{ValueAt, ValuesAt, SlotsAt}

-- a spot of so many words with that tag
pub record HasSize (s : Spot) (n t : ℕ) : Type 0 where
  pub words : s.words ≡ n
  pub tag : s.tag ≡ t

-- how many words bytes take, four in each
abbrev pub byte_words : ℕ → ℕ
byte_words count = (count + 3) / 4

-- a byte of a list, and 0 behind its end
abbrev pub byte_at : List ℕ → ℕ → ℕ
byte_at bytes i = slice_index_or bytes i 0

-- the word with four bytes from a place on, the first one lowest
abbrev pub packed : List ℕ → ℕ → ℕ
packed bytes i = byte_at bytes i + 256 * byte_at bytes (i + 1) + 65536 * byte_at bytes (i + 2) + 16777216 * byte_at bytes (i + 3)

-- all are bytes
abbrev pub AreBytes : List ℕ → Type 0
AreBytes bytes = (i : ℕ) → i < length bytes → byte_at bytes i < 256

-- bytes behind a header: their number, as an integer, and then they themselves; behind the last byte the last word is clear
pub record TextAt (a : Arena) (s : Spot) (kind : ℕ) (text_bytes : List ℕ) : Type 0 where
  pub size : HasSize s (2 + byte_words (length text_bytes)) object_tag
  pub bytes : AreBytes text_bytes
  pub header : word_at a s.address ≡ Some kind
  pub count : word_at a (s.address + 4) ≡ Some (4 * length text_bytes)
  pub words : (i : ℕ) → i < byte_words (length text_bytes) → word_at a (s.address + 8 + 4 * i) ≡ Some (packed text_bytes (4 * i))

pub record ConsAt (places : Places) (a : Arena) (s : Spot) (first second : Value) : Type 0 where
  pub size : HasSize s 2 cons_tag
  pub car : ValueAt places a s.address first
  pub cdr : ValueAt places a (s.address + 4) second

-- the number of elements, as an integer, and the elements
pub record VectorAt (places : Places) (a : Arena) (s : Spot) (vs : List Value) : Type 0 where
  pub size : HasSize s (2 + length vs) object_tag
  pub header : word_at a s.address ≡ Some vector_header
  pub count : word_at a (s.address + 4) ≡ Some (4 * length vs)
  pub values : ValuesAt places a (s.address + 8) vs

-- a header, and one word more of this kind
pub record PairAt (a : Arena) (s : Spot) (kind second : ℕ) : Type 0 where
  pub size : HasSize s 2 object_tag
  pub header : word_at a s.address ≡ Some kind
  pub word : word_at a (s.address + 4) ≡ Some second

pub record StreamAt (a : Arena) (s : Spot) (kind : ℕ) : Type 0 where
  pub size : HasSize s 1 object_tag
  pub header : word_at a s.address ≡ Some kind

-- A function has its header, the number by which it is called, and what it captured, of which those speak who make functions.
pub record FunctionAt (a : Arena) (s : Spot) : Type 0 where
  pub words : 2 ≤ s.words
  pub tag : s.tag ≡ object_tag
  pub header : word_at a s.address ≡ Some function_header

module _ (names : List (List ℕ)) (program : ProgramRows) where
  -- the class, the slots, as many as the class has, and the mark where it is a condition
  pub record InstanceAt (places : Places) (a : Arena) (s : Spot) (c : ℕ) (values : List (Option Value)) (m : Value) : Type 0 where
    pub size : HasSize s (instance_words program c (length values)) object_tag
    pub count : length values ≡ length (slots program c)
    pub header : word_at a s.address ≡ Some (instance_header (length values))
    pub class : ValueAt places a (s.address + 4) (class_value names program c)
    pub values_there : SlotsAt places a (s.address + 8) values
    pub mark : is_below program c serious_condition_class ≡ true → ValueAt places a (s.address + 8 + 4 * length values) m

  -- what a class says of a slot of its instances: its name, its initargs and its initform
  pub record SlotRowAt (places : Places) (a : Arena) (address class place : ℕ) (row : SlotRow) : Type 0 where
    pub name : ValueAt places a address (symbol (named (text names row.name.0)))
    pub initargs : ValueAt places a (address + 4) (initargs_value names program class place)
    pub initform : ValueAt places a (address + 8) (initform_value names program class place)

  -- A class has its number, as an integer; its name; whether instances of it can be made, and whether they are conditions; how many
  -- classes its precedence list has, and how many slots its instances have; the numbers of these classes, the class itself first; and three words for each slot.
  pub record ClassAt (places : Places) (a : Arena) (s : Spot) (class : ℕ) : Type 0 where
    pub size : HasSize s (7 + length (precedence program class) + 3 * length (slots program class)) object_tag
    pub header : word_at a s.address ≡ Some class_header
    pub number : word_at a (s.address + 4) ≡ Some (4 * class)
    pub name : ValueAt places a (s.address + 8) (symbol (named (class_name names (slice_get program.classes class))))
    pub made : ValueAt places a (s.address + 12) (truth (can_be_made program class))
    pub condition : ValueAt places a (s.address + 16) (truth (is_below program class serious_condition_class))
    pub above : word_at a (s.address + 20) ≡ Some (4 * length (precedence program class))
    pub count : word_at a (s.address + 24) ≡ Some (4 * length (slots program class))
    pub classes :
        (i : ℕ) → i < length (precedence program class) → word_at a (s.address + 28 + 4 * i) ≡ Some (4 * slice_index_or (precedence program class) i 0)
    pub rows :
        (i : ℕ) (row : SlotRow) → slice_get (slots program class) i ≡ Some row
        → SlotRowAt places a (s.address + 28 + 4 * length (precedence program class) + 12 * i) class i row

  -- an object; in flat programs no function has an environment
  abbrev pub ObjectAt : Places → Arena → Spot → Object → Type 0
  ObjectAt places a s (cons car cdr) = ConsAt places a s car cdr
  ObjectAt places a s (string bytes) = TextAt a s string_header bytes
  ObjectAt places a s (vector vs) = VectorAt places a s vs
  ObjectAt places a s (instance class values mark) = InstanceAt places a s class values mark
  ObjectAt places a s (function p) = FunctionAt a s
  ObjectAt places a s (closure required rest body env) = ⊥
  ObjectAt places a s (generic_function g) = PairAt a s generic_header (4 * g)
  ObjectAt places a s (class_object class) = ClassAt places a s class
  ObjectAt places a s input_stream = StreamAt a s input_header
  ObjectAt places a s output_stream = StreamAt a s output_header
  ObjectAt places a s (fresh_symbol serial) = PairAt a s fresh_header (4 * (serial % 2 ^ 29))

-- a symbol with a text has the text; one that an expansion made has its serial, as a fresh one has
abbrev pub SymbolAt : Arena → Spot → SymbolValue → Type 0
SymbolAt a s (named name) = TextAt a s symbol_header name
SymbolAt a s (unnamed expansion serial) = PairAt a s fresh_header (4 * (serial % 2 ^ 29))
