-- The words at fixed addresses, from 0 on: what primitives find without a search, and what stands for the counters and flags of a
-- state.
use Rattle.std.specs.Prelude.{◌≡◌, ℕ, ◌*◌, ◌%◌, ◌^◌, ◌<◌, pos, List, [], ◌∷◌, Some, slice_get}
use Rattle.lang_meaning.specs.declared.program.ProgramRows.{ProgramRows}
use Rattle.lang_meaning.specs.Values.{t, truth}
use Rattle.lang_meaning.specs.Objects.{built_in_classes}
use Rattle.lang_meaning.specs.InitialHeap.{class_value, standard_input, standard_output}
use Rattle.lang_meaning.specs.Primitives.{is_fresh_line}
use Rattle.mid_code.specs.Arena.{Arena, word_at}
use Rattle.mid_arena.specs.Tags.{integer_word, nil_word, object_tag, symbol_header}
use Rattle.mid_arena.specs.Places.{Places}
use Rattle.mid_arena.specs.Standing.{ValueAt}
use Rattle.mid_arena.specs.Layouts.{TextAt}

-- the classes that are built in, each at its number
abbrev pub class_address : ℕ → ℕ
class_address class = 4 * class

abbrev pub input_address : ℕ
input_address = 136

abbrev pub output_address : ℕ
output_address = 140

-- the symbol t
abbrev pub true_address : ℕ
true_address = 144

-- the serial of the fresh symbol that is made next, as an integer of 29 bits
abbrev pub serial_address : ℕ
serial_address = 148

-- t where nothing was put or the last byte put is a newline, else nil
abbrev pub line_address : ℕ
line_address = 152

-- a byte that was looked at and not taken, as an integer; nil where there is none
abbrev pub peeked_address : ℕ
peeked_address = 156

-- a condition that is to be signalled
abbrev pub pending_address : ℕ
pending_address = 160

-- the texts of nil and of a symbol without a name, laid as those of symbols are
abbrev pub nil_name_address : ℕ
nil_name_address = 164

abbrev pub no_name_address : ℕ
no_name_address = 176

-- how many there are
abbrev pub fixed_words : ℕ
fixed_words = 46

-- the address behind them, where a program's own words begin, if it has any
abbrev pub low_address : ℕ
low_address = 184

-- the text of nil, which is no symbol of a program
abbrev pub nil_text : List ℕ
nil_text = 110 ∷ 105 ∷ 108 ∷ []

-- the input that is left, of which a byte may have been looked at
pub data InputIs (a : Arena) (left : List ℕ) : List ℕ → Type 0 where
  untouched : word_at a peeked_address ≡ Some nil_word → InputIs a left left
  looked_at : (byte : ℕ) → word_at a peeked_address ≡ Some (integer_word (pos byte)) → InputIs a left (byte ∷ left)

-- all fixed words, where so many fresh symbols were made, these bytes were printed, and this input is left, of which those bytes were not read
pub record FixedStand (names : List (List ℕ)) (program : ProgramRows) (places : Places) (a : Arena) (symbols : ℕ) (printed bytes left : List ℕ) : Type 0 where
  pub spot : slice_get places.others 0 ≡ Some (record { address = 0; words = fixed_words; tag = 0 })
  pub classes : (class : ℕ) → class < built_in_classes → ValueAt places a (class_address class) (class_value names program class)
  pub input_stream : ValueAt places a input_address (standard_input names program)
  pub output_stream : ValueAt places a output_address (standard_output names program)
  pub true_value : ValueAt places a true_address t
  pub serial : word_at a serial_address ≡ Some (4 * (symbols % 2 ^ 29))
  pub line : ValueAt places a line_address (truth (is_fresh_line printed))
  pub input : InputIs a left bytes
  pub nil_name : TextAt a (record { address = nil_name_address; words = 3; tag = object_tag }) symbol_header nil_text
  pub no_name : TextAt a (record { address = no_name_address; words = 2; tag = object_tag }) symbol_header []
