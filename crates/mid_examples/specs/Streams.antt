-- The two streams, what is printed and what is read.
use Rattle.std.specs.Prelude.{ℕ, List, [], ◌∷◌, ◌++◌}
use Rattle.lang_meaning.specs.declared.primitive.Primitive.TheVariants.{StandardInput, StandardOutput, PutChar, IsFreshLine, GetByte, PeekByte}
use Rattle.lang_meaning.specs.Objects.{character_class, stream_class}
use Rattle.mid_code.specs.State.{MidState, returns}
use Rattle.mid_arena.specs.Tags.{nil_word, character_word}
use Rattle.mid_arena.specs.FixedWords.{line_address, peeked_address}
use Rattle.mid_examples.specs.Addresses.{object_at, number, minus, symbol_t, input, output}
use Rattle.mid_examples.specs.Ground.{with_room}
use Rattle.mid_examples.specs.Kinds.{some_characters, some_streams, others_than}
use Rattle.mid_examples.specs.Rows.{Seen, storing, ample, gives, refuses, RunsTo, RunsAlways, DoesThen, RefusesEach, FitsError}
use Rattle.mid_examples.specs.Comparisons.{says_so, says_not}

pub record StreamRows : Type 0 where
  pub standard_input : RunsAlways StandardInput [] (gives (object_at input))
  pub standard_output : RunsAlways StandardOutput [] (gives (object_at output))

-- it gives nil; a byte is printed behind the others, and the fixed word says whether a new line begins
abbrev pub puts : (byte line : ℕ) → MidState → Seen
puts byte line z =
    record {
      end = returns nil_word;
      arena = storing line_address (line ∷ []) z.arena;
      printed = z.printed ++ byte ∷ [];
      input = z.input;
    }

pub record PutCharRows : Type 0 where
  pub of_a : RunsAlways PutChar (object_at output ∷ character_word 97 ∷ []) (puts 97 says_not)
  -- a newline, and the codes around it
  pub newline : RunsAlways PutChar (object_at output ∷ character_word 10 ∷ []) (puts 10 says_so)
  pub before_newline : RunsAlways PutChar (object_at output ∷ character_word 9 ∷ []) (puts 9 says_not)
  pub behind_newline : RunsAlways PutChar (object_at output ∷ character_word 11 ∷ []) (puts 11 says_not)
  -- both ends
  pub of_first : RunsAlways PutChar (object_at output ∷ character_word 0 ∷ []) (puts 0 says_not)
  pub of_last : RunsAlways PutChar (object_at output ∷ character_word 255 ∷ []) (puts 255 says_not)
  -- one after another
  pub after_newline : DoesThen (puts 10 says_so) PutChar (object_at output ∷ character_word 97 ∷ []) (puts 97 says_not)
  pub newline_again : DoesThen (puts 10 says_so) PutChar (object_at output ∷ character_word 10 ∷ []) (puts 10 says_so)
  -- the input, and what is no stream
  pub to_input : RunsAlways PutChar (object_at input ∷ character_word 97 ∷ []) (refuses (object_at input) stream_class)
  pub stream_refused : RefusesEach PutChar (λ w. w ∷ character_word 97 ∷ []) (others_than some_streams) stream_class
  pub character_refused : RefusesEach PutChar (λ w. object_at output ∷ w ∷ []) (others_than some_characters) character_class
  -- that it is a stream is tested first, but that it is the output last
  pub first_of_two : RunsAlways PutChar (nil_word ∷ number 97 ∷ []) (refuses nil_word stream_class)
  pub class_before_direction : RunsAlways PutChar (object_at input ∷ number 97 ∷ []) (refuses (number 97) character_class)
  pub stream_fits : FitsError PutChar (nil_word ∷ character_word 97 ∷ []) nil_word stream_class
  pub character_fits : FitsError PutChar (object_at output ∷ nil_word ∷ []) nil_word character_class
  pub input_fits : FitsError PutChar (object_at input ∷ character_word 97 ∷ []) (object_at input) stream_class

-- where nothing was printed
abbrev pub before_all : MidState → MidState
before_all z = record z { arena = storing line_address (object_at symbol_t ∷ []) z.arena; printed = [] }

pub record IsFreshLineRows : Type 0 where
  pub in_a_line : RunsAlways IsFreshLine [] (gives says_not)
  pub after_newline : DoesThen (puts 10 says_so) IsFreshLine [] (gives says_so)
  pub after_a : DoesThen (puts 97 says_not) IsFreshLine [] (gives says_not)
  pub at_start : RunsTo (before_all (with_room ample)) IsFreshLine [] (gives says_so)

-- a word is given, no byte is looked at any more, and this input is left
abbrev pub takes : ℕ → (left : List ℕ) → MidState → Seen
takes word left z =
    record { end = returns word; arena = storing peeked_address (nil_word ∷ []) z.arena; printed = z.printed; input = left }

-- a byte is given and kept to be taken, where this input is left
abbrev pub looks_at : ℕ → (left : List ℕ) → MidState → Seen
looks_at byte left z =
    record {
      end = returns (number byte);
      arena = storing peeked_address (number byte ∷ []) z.arena;
      printed = z.printed;
      input = left;
    }

-- with another input
abbrev pub with_input : List ℕ → MidState
with_input bytes = record (with_room ample) { input = bytes }

pub record GetByteRows : Type 0 where
  -- A, and the newline after it
  pub first : RunsAlways GetByte [] (takes (number 65) (10 ∷ []))
  pub next : DoesThen (takes (number 65) (10 ∷ [])) GetByte [] (takes (number 10) [])
  -- the end, behind the last byte and at once
  pub at_end : DoesThen (takes (number 10) []) GetByte [] (gives (minus 1))
  pub nothing : RunsTo (with_input []) GetByte [] (gives (minus 1))
  -- both ends
  pub of_first : RunsTo (with_input (0 ∷ 65 ∷ [])) GetByte [] (takes (number 0) (65 ∷ []))
  pub of_last : RunsTo (with_input (255 ∷ 65 ∷ [])) GetByte [] (takes (number 255) (65 ∷ []))
  -- a byte that was looked at is the next one, the first and the last of all too
  pub looked_at : DoesThen (looks_at 65 (10 ∷ [])) GetByte [] (takes (number 65) (10 ∷ []))
  pub last_looked_at : DoesThen (looks_at 10 []) GetByte [] (takes (number 10) [])
  pub first_looked_at : DoesThen (looks_at 0 (65 ∷ [])) GetByte [] (takes (number 0) (65 ∷ []))

pub record PeekByteRows : Type 0 where
  -- A, again, and the newline after it
  pub first : RunsAlways PeekByte [] (looks_at 65 (10 ∷ []))
  pub again : DoesThen (looks_at 65 (10 ∷ [])) PeekByte [] (gives (number 65))
  pub next : DoesThen (takes (number 65) (10 ∷ [])) PeekByte [] (looks_at 10 [])
  -- the last byte again; the end, behind the last byte and at once
  pub last_again : DoesThen (looks_at 10 []) PeekByte [] (gives (number 10))
  pub at_end : DoesThen (takes (number 10) []) PeekByte [] (gives (minus 1))
  pub nothing : RunsTo (with_input []) PeekByte [] (gives (minus 1))
  -- both ends
  pub of_first : RunsTo (with_input (0 ∷ 65 ∷ [])) PeekByte [] (looks_at 0 (65 ∷ []))
  pub of_last : RunsTo (with_input (255 ∷ 65 ∷ [])) PeekByte [] (looks_at 255 (65 ∷ []))
