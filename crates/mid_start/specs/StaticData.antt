-- **The words before the first form**: when they are those of the objects at the start, and the states of middle code that begin with them.
use Rattle.std.specs.Prelude.{◌≡◌, ℕ, zero, suc, ◌+◌, ◌*◌, ◌%◌, ◌^◌, ◌<◌, ◌≤◌, List, [], ◌∷◌, ◌++◌, length, take, Option, Some, None, replicate, slice_get, if◌then◌else◌}
use Rattle.std.specs.Str.{bytes_eq}
use Rattle.base.specs.Data.{Item}
use Rattle.lang_meaning.specs.declared.program.ProgramRows.{ProgramRows}
use Rattle.lang_meaning.specs.declared.program.FunctionRow.{FunctionRow}
use Rattle.lang_meaning.specs.declared.program.LiteralRow.TheVariants.{Datum}
use Rattle.lang_meaning.specs.Values.{named, object}
use Rattle.lang_meaning.specs.Lookup.{text}
use Rattle.lang_meaning.specs.InitialHeap.{objects_at_start, class_value, function_value, literal_value}
use Rattle.mid_code.specs.Arena.{Arena, word_at}
use Rattle.mid_code.specs.State.{MidState}
use Rattle.mid_arena.specs.Tags.{nil_word, symbol_header}
use Rattle.mid_arena.specs.Places.{Spot, Places, of_symbol, spot_of, word_of}
use Rattle.mid_arena.specs.FixedWords.{fixed_words, low_address, nil_text, FixedStand}
use Rattle.mid_start.specs.declared.words.ArenaWords.{ArenaWords}
use Rattle.mid_start.specs.LaidArena.{end_address, memory_of, arena_of}
use Rattle.mid_start.specs.LaidWell.{LaidWell}
use Rattle.mid_start.specs.Making.{HasWord, AreNumbered}
use Rattle.mid_start.specs.declared.static_data.StaticData.{StaticData}

abbrev pub fixed_spot : Spot
fixed_spot = record { address = 0; words = fixed_words; tag = 0 }

-- the spot of so many words from an address on, where there are any
abbrev pub spot_for : (address words : ℕ) → List Spot
spot_for address zero = []
spot_for address (suc n) = record { address = address; words = suc n; tag = 0 } ∷ []

-- the spots that code has for itself: the fixed words, low words behind them, and further words from an address on
abbrev pub own_spots : (low further : List ℕ) → (at : ℕ) → List Spot
own_spots low further at = fixed_spot ∷ (spot_for low_address (length low) ++ spot_for at (length further))

-- the low words and the further ones stand as they were given
pub record OwnWordsAt (low further : List ℕ) (at : ℕ) (a : Arena) : Type 0 where
  pub low_words : (i w : ℕ) → slice_get low i ≡ Some w → word_at a (low_address + 4 * i) ≡ Some w
  pub further_words : (i w : ℕ) → slice_get further i ≡ Some w → word_at a (at + 4 * i) ≡ Some w

-- The fixed words, from those of the classes, the streams and t: the built-in classes, the streams, t, no fresh symbol, a fresh line,
-- no byte looked at, no condition, and the texts of nil and of a symbol without a name.
abbrev pub fixed_contents : (classes : List ℕ) (input output truth : ℕ) → List ℕ
fixed_contents classes input output truth =
    take 34 classes
    ++ (input ∷ output ∷ truth ∷ 0 ∷ truth ∷ nil_word ∷ nil_word ∷ symbol_header ∷ 12 ∷ 7104878 ∷ symbol_header ∷ 0 ∷ [])

-- and low words behind them
abbrev pub front_contents : (classes : List ℕ) (input output truth : ℕ) → (low : List ℕ) → List ℕ
front_contents classes input output truth low = fixed_contents classes input output truth ++ low

-- the word of the first function whose name has that text, where each row has its word
abbrev pub word_of_text : List (List ℕ) → List FunctionRow → List ℕ → List ℕ → Option ℕ
word_of_text names [] ws name = None
word_of_text names (f ∷ fs) [] name = None
word_of_text names (f ∷ fs) (w ∷ ws) name = if bytes_eq name (text names f.name.0) then Some w else word_of_text names fs ws name

-- The words represent the objects that are there before the first form, each in its spot, with the fixed words and low words in front,
-- and further words behind; and the words that are given are those of the classes, of the functions of names, and of the literals that are data.
pub record IsStaticData (names : List (List ℕ)) (program : ProgramRows) (low further : List ℕ) (start : StaticData) : Type 0 where
  pub places : Places
  pub first : start.arena.first ≡ 0
  pub further_at : ℕ
  pub further_end : further_at + 4 * length further ≡ end_address start.arena
  pub others : places.others ≡ own_spots low further further_at
  pub own : OwnWordsAt low further further_at (arena_of start.arena)
  pub no_nil : spot_of places (of_symbol (named nil_text)) ≡ None
  pub stands : LaidWell names program places (objects_at_start names program) start.arena
  pub fixed : (input : List ℕ) → FixedStand names program places (arena_of start.arena) 0 [] input input
  pub all : (i : ℕ) → i < length (objects_at_start names program) → HasWord places (object i)
  pub numbered : AreNumbered places (objects_at_start names program) start.arena
  pub class_count : length start.classes ≡ length program.classes
  pub function_count : length start.functions ≡ length program.functions
  pub literal_count : length start.literals ≡ length program.literals
  pub class_words : (class w : ℕ) → slice_get start.classes class ≡ Some w → word_of places (class_value names program class) ≡ Some w
  pub function_words :
      (name : List ℕ) (w : ℕ) → word_of_text names program.functions start.functions name ≡ Some w → word_of places (function_value names program name) ≡ Some w
  pub literal_words :
      (literal w : ℕ) (d : Item) → slice_get program.literals literal ≡ Some (Datum d) → slice_get start.literals literal ≡ Some w
      → word_of places (literal_value names program literal d) ≡ Some w

-- a state of middle code that begins with these words: behind them is an empty heap, and nothing was printed
pub record BeginsWithData (words : ArenaWords) (input : List ℕ) (y : MidState) : Type 0 where
  pub empty : ℕ
  pub memory : y.arena.memory ≡ memory_of words ++ replicate {A = Option ℕ} empty None
  pub laid_from : y.arena.laid_from ≡ words.first
  pub laid_to : y.arena.laid_to ≡ end_address words
  pub heap_from : end_address words ≤ y.arena.heap_from
  pub heap_to : y.arena.heap_to ≡ y.arena.heap_from
  pub aligned : y.arena.heap_to % 4 ≡ 0
  pub blocks : y.arena.blocks ≡ []
  pub size : length y.arena.memory ≤ 2 ^ 24
  pub room : y.arena.heap_to ≤ 4 * length y.arena.memory
  pub printed : y.printed ≡ []
  pub input_left : y.input ≡ input
