-- No value has the word of a signal or of a slot without a value, and only nil has that of nil.
use Rattle.std.proofs.Common.{◌≡◌, ℕ, ◌+◌, ◌*◌, ◌%◌, ◌<◌, List, Some, refl, arith}
use Rattle.lang_meaning.specs.declared.program.ProgramRows.{ProgramRows}
use Rattle.lang_meaning.specs.Values.{Value, integer, character, symbol, nil, object}
use Rattle.lang_meaning.specs.State as meaning
use Rattle.mid_code.specs.State.{MidState}
use Rattle.mid_arena.specs.Places.{Places, word_of}
use Rattle.mid_arena.specs.Represents.{Represents}
use Rattle.mid_arena.specs.Law.{TellsValue, LawOfValueWords}
use Rattle.mid_arena.proofs.Arguments.{character_word_is}
use Rattle.mid_arena.proofs.Telling.{integer_low, symbol_low, object_low}

-- a word whose tag is not 3
tells_low : (v : Value) (word : ℕ) → word % 4 < 3 → TellsValue v word
tells_low v word h = record { no_signal = λ e. omega arith; no_unbound = λ e. omega arith; nil_alone = λ e. absurd (omega arith) }

tells_character : (v : Value) (c word : ℕ) → word ≡ 256 * c + 15 → TellsValue v word
tells_character v c word h = record { no_signal = λ e. omega arith; no_unbound = λ e. omega arith; nil_alone = λ e. absurd (omega arith) }

tells_nil : (word : ℕ) → word ≡ 3 → TellsValue nil word
tells_nil word h = record { no_signal = λ e. omega arith; no_unbound = λ e. omega arith; nil_alone = λ e. refl }

module _ (names : List (List ℕ)) (program : ProgramRows) (places : Places) (z : meaning.State) (y : MidState) (r : Represents names program places z y) where
  pub tells_value : (v : Value) (word : ℕ) → word_of places v ≡ Some word → TellsValue v word
  tells_value (integer n) word e = tells_low (integer n) word (integer_low names program places z y r n word e)
  tells_value (character c) word e = tells_character (character c) c word (character_word_is places c word e).1
  tells_value (symbol s) word e = tells_low (symbol s) word (symbol_low names program places z y r s word e)
  tells_value nil word e = let h : 3 ≡ word = cc e in tells_nil word (omega arith)
  tells_value (object i) word e = tells_low (object i) word (object_low names program places z y r i word e)

pub value_words : LawOfValueWords
value_words names program places z y v word r e = tells_value names program places z y r v word e
