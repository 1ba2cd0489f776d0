-- Strings are made, measured, read and changed. Four bytes stand in a word, the first one lowest; what is behind the last byte is clear.
use Rattle.std.specs.Prelude.{◌+◌, ◌^◌, [], ◌∷◌}
use Rattle.lang_meaning.specs.declared.primitive.Primitive.TheVariants.{MakeString, StringLength, CharAt, SetCharAt}
use Rattle.lang_meaning.specs.Objects.{string_class, character_class, integer_class, program_error_class}
use Rattle.mid_arena.specs.Tags.{object_tag, nil_word, character_word, string_header}
use Rattle.mid_examples.specs.Addresses.{cons_at, object_at, number, minus, symbol_abcd, pair, empty_string, abc, abcd, abcde, made}
use Rattle.mid_examples.specs.Ground.{four}
use Rattle.mid_examples.specs.Kinds.{some_integers, some_characters, some_strings, others_than}
use Rattle.mid_examples.specs.Rows.{gives, stores, makes, refuses, signals, wants, RunsAlways, DoesThen, RefusesEach, FitsError, FitsCondition, FitsObject}
use Rattle.mid_examples.specs.Sums.{greatest, least}

pub record MakeStringRows : Type 0 where
  -- no byte, one, three, four, five and eight: none, one or two words behind the length
  pub of_none : RunsAlways MakeString (number 0 ∷ character_word 97 ∷ []) (makes object_tag (string_header ∷ number 0 ∷ []))
  pub of_one : RunsAlways MakeString (number 1 ∷ character_word 97 ∷ []) (makes object_tag (string_header ∷ number 1 ∷ four 97 0 0 0 ∷ []))
  pub of_two : RunsAlways MakeString (number 2 ∷ character_word 97 ∷ []) (makes object_tag (string_header ∷ number 2 ∷ four 97 97 0 0 ∷ []))
  pub of_three : RunsAlways MakeString (number 3 ∷ character_word 97 ∷ []) (makes object_tag (string_header ∷ number 3 ∷ four 97 97 97 0 ∷ []))
  pub of_four : RunsAlways MakeString (number 4 ∷ character_word 97 ∷ []) (makes object_tag (string_header ∷ number 4 ∷ four 97 97 97 97 ∷ []))
  pub of_five :
      RunsAlways MakeString (number 5 ∷ character_word 97 ∷ [])
      (makes object_tag (string_header ∷ number 5 ∷ four 97 97 97 97 ∷ four 97 0 0 0 ∷ []))
  pub of_eight :
      RunsAlways MakeString (number 8 ∷ character_word 97 ∷ [])
      (makes object_tag (string_header ∷ number 8 ∷ four 97 97 97 97 ∷ four 97 97 97 97 ∷ []))
  -- of the first and of the last character
  pub of_first : RunsAlways MakeString (number 2 ∷ character_word 0 ∷ []) (makes object_tag (string_header ∷ number 2 ∷ four 0 0 0 0 ∷ []))
  pub of_last :
      RunsAlways MakeString (number 5 ∷ character_word 255 ∷ [])
      (makes object_tag (string_header ∷ number 5 ∷ four 255 255 255 255 ∷ four 255 0 0 0 ∷ []))
  -- what was made has that length, and is read as it was made
  pub length_then :
      DoesThen (makes object_tag (string_header ∷ number 5 ∷ four 97 97 97 97 ∷ four 97 0 0 0 ∷ [])) StringLength (object_at made ∷ [])
      (gives (number 5))
  pub last_then :
      DoesThen (makes object_tag (string_header ∷ number 5 ∷ four 97 97 97 97 ∷ four 97 0 0 0 ∷ [])) CharAt
      (object_at made ∷ number 4 ∷ []) (gives (character_word 97))
  -- a length below zero
  pub below : RunsAlways MakeString (minus 1 ∷ character_word 97 ∷ []) (refuses (minus 1) integer_class)
  pub far_below : RunsAlways MakeString (least ∷ character_word 97 ∷ []) (refuses least integer_class)
  -- the greatest length takes 2 ^ 27 words for the bytes
  pub far_above : RunsAlways MakeString (greatest ∷ character_word 97 ∷ []) (wants (2 + 2 ^ 27) 16)
  pub length_refused : RefusesEach MakeString (λ w. w ∷ character_word 97 ∷ []) (others_than some_integers) integer_class
  pub character_refused : RefusesEach MakeString (λ w. number 1 ∷ w ∷ []) (others_than some_characters) character_class
  -- the length is tested first, but whether it is below zero last
  pub first_of_two : RunsAlways MakeString (nil_word ∷ number 1 ∷ []) (refuses nil_word integer_class)
  pub class_before_range : RunsAlways MakeString (minus 1 ∷ number 1 ∷ []) (refuses (number 1) character_class)
  pub none_fits : FitsObject MakeString (number 0 ∷ character_word 97 ∷ []) object_tag (string_header ∷ number 0 ∷ [])
  pub four_fits :
      FitsObject MakeString (number 4 ∷ character_word 97 ∷ []) object_tag (string_header ∷ number 4 ∷ four 97 97 97 97 ∷ [])
  pub five_fits :
      FitsObject MakeString (number 5 ∷ character_word 97 ∷ []) object_tag (string_header ∷ number 5 ∷ four 97 97 97 97 ∷ four 97 0 0 0 ∷ [])
  pub length_fits : FitsError MakeString (nil_word ∷ character_word 97 ∷ []) nil_word integer_class
  pub character_fits : FitsError MakeString (number 1 ∷ nil_word ∷ []) nil_word character_class
  pub below_fits : FitsError MakeString (minus 1 ∷ character_word 97 ∷ []) (minus 1) integer_class

pub record StringLengthRows : Type 0 where
  pub of_none : RunsAlways StringLength (object_at empty_string ∷ []) (gives (number 0))
  pub of_three : RunsAlways StringLength (object_at abc ∷ []) (gives (number 3))
  pub of_four : RunsAlways StringLength (object_at abcd ∷ []) (gives (number 4))
  pub of_five : RunsAlways StringLength (object_at abcde ∷ []) (gives (number 5))
  -- a symbol is no string
  pub symbol_refused : RunsAlways StringLength (object_at symbol_abcd ∷ []) (refuses (object_at symbol_abcd) string_class)
  pub refused : RefusesEach StringLength (λ w. w ∷ []) (others_than some_strings) string_class
  pub fits : FitsError StringLength (nil_word ∷ []) nil_word string_class
  pub header_fits : FitsError StringLength (object_at symbol_abcd ∷ []) (object_at symbol_abcd) string_class

pub record CharAtRows : Type 0 where
  -- the bytes of abcde, the last one in a word of its own
  pub first : RunsAlways CharAt (object_at abcde ∷ number 0 ∷ []) (gives (character_word 97))
  pub second : RunsAlways CharAt (object_at abcde ∷ number 1 ∷ []) (gives (character_word 98))
  pub third : RunsAlways CharAt (object_at abcde ∷ number 2 ∷ []) (gives (character_word 99))
  pub fourth : RunsAlways CharAt (object_at abcde ∷ number 3 ∷ []) (gives (character_word 100))
  pub last : RunsAlways CharAt (object_at abcde ∷ number 4 ∷ []) (gives (character_word 101))
  -- the last ones of shorter strings
  pub last_of_three : RunsAlways CharAt (object_at abc ∷ number 2 ∷ []) (gives (character_word 99))
  pub last_of_four : RunsAlways CharAt (object_at abcd ∷ number 3 ∷ []) (gives (character_word 100))
  -- one beyond, also where the word has a byte there, and as far beyond as can be
  pub below : RunsAlways CharAt (object_at abcde ∷ minus 1 ∷ []) (signals program_error_class)
  pub above : RunsAlways CharAt (object_at abcde ∷ number 5 ∷ []) (signals program_error_class)
  pub above_three : RunsAlways CharAt (object_at abc ∷ number 3 ∷ []) (signals program_error_class)
  pub above_four : RunsAlways CharAt (object_at abcd ∷ number 4 ∷ []) (signals program_error_class)
  pub of_none : RunsAlways CharAt (object_at empty_string ∷ number 0 ∷ []) (signals program_error_class)
  pub far_below : RunsAlways CharAt (object_at abcde ∷ least ∷ []) (signals program_error_class)
  pub far_above : RunsAlways CharAt (object_at abcde ∷ greatest ∷ []) (signals program_error_class)
  pub string_refused : RefusesEach CharAt (λ w. w ∷ number 0 ∷ []) (others_than some_strings) string_class
  pub index_refused : RefusesEach CharAt (λ w. object_at abc ∷ w ∷ []) (others_than some_integers) integer_class
  pub first_of_two : RunsAlways CharAt (number 0 ∷ nil_word ∷ []) (refuses (number 0) string_class)
  pub string_fits : FitsError CharAt (nil_word ∷ number 0 ∷ []) nil_word string_class
  pub index_fits : FitsError CharAt (object_at abc ∷ nil_word ∷ []) nil_word integer_class
  pub above_fits : FitsCondition CharAt (object_at abc ∷ number 3 ∷ []) program_error_class

-- The character comes first, then the string and the index. The character is given, and the other bytes are as they were.
pub record SetCharAtRows : Type 0 where
  -- each byte of abcde becomes Z
  pub first :
      RunsAlways SetCharAt (character_word 90 ∷ object_at abcde ∷ number 0 ∷ []) (stores (character_word 90) (abcde + 8) (four 90 98 99 100 ∷ []))
  pub second :
      RunsAlways SetCharAt (character_word 90 ∷ object_at abcde ∷ number 1 ∷ []) (stores (character_word 90) (abcde + 8) (four 97 90 99 100 ∷ []))
  pub third :
      RunsAlways SetCharAt (character_word 90 ∷ object_at abcde ∷ number 2 ∷ []) (stores (character_word 90) (abcde + 8) (four 97 98 90 100 ∷ []))
  pub fourth :
      RunsAlways SetCharAt (character_word 90 ∷ object_at abcde ∷ number 3 ∷ []) (stores (character_word 90) (abcde + 8) (four 97 98 99 90 ∷ []))
  pub last :
      RunsAlways SetCharAt (character_word 90 ∷ object_at abcde ∷ number 4 ∷ []) (stores (character_word 90) (abcde + 12) (four 90 0 0 0 ∷ []))
  -- the first and the last character
  pub to_first :
      RunsAlways SetCharAt (character_word 0 ∷ object_at abc ∷ number 1 ∷ []) (stores (character_word 0) (abc + 8) (four 97 0 99 0 ∷ []))
  pub to_last :
      RunsAlways SetCharAt (character_word 255 ∷ object_at abcd ∷ number 3 ∷ []) (stores (character_word 255) (abcd + 8) (four 97 98 99 255 ∷ []))
  pub to_last_of_three :
      RunsAlways SetCharAt (character_word 255 ∷ object_at abc ∷ number 2 ∷ []) (stores (character_word 255) (abc + 8) (four 97 98 255 0 ∷ []))
  -- what was set is there
  pub then_read :
      DoesThen (stores (character_word 90) (abcde + 12) (four 90 0 0 0 ∷ [])) CharAt (object_at abcde ∷ number 4 ∷ [])
      (gives (character_word 90))
  -- one beyond, and as far beyond as can be
  pub below : RunsAlways SetCharAt (character_word 90 ∷ object_at abc ∷ minus 1 ∷ []) (signals program_error_class)
  pub above : RunsAlways SetCharAt (character_word 90 ∷ object_at abc ∷ number 3 ∷ []) (signals program_error_class)
  pub above_four : RunsAlways SetCharAt (character_word 90 ∷ object_at abcd ∷ number 4 ∷ []) (signals program_error_class)
  pub of_none : RunsAlways SetCharAt (character_word 90 ∷ object_at empty_string ∷ number 0 ∷ []) (signals program_error_class)
  pub far_below : RunsAlways SetCharAt (character_word 90 ∷ object_at abc ∷ least ∷ []) (signals program_error_class)
  pub far_above : RunsAlways SetCharAt (character_word 90 ∷ object_at abc ∷ greatest ∷ []) (signals program_error_class)
  pub character_refused :
      RefusesEach SetCharAt (λ w. w ∷ object_at abc ∷ number 0 ∷ []) (others_than some_characters) character_class
  pub string_refused :
      RefusesEach SetCharAt (λ w. character_word 90 ∷ w ∷ number 0 ∷ []) (others_than some_strings) string_class
  pub index_refused :
      RefusesEach SetCharAt (λ w. character_word 90 ∷ object_at abc ∷ w ∷ []) (others_than some_integers) integer_class
  -- from left to right
  pub first_of_three : RunsAlways SetCharAt (number 1 ∷ nil_word ∷ cons_at pair ∷ []) (refuses (number 1) character_class)
  pub second_of_two : RunsAlways SetCharAt (character_word 90 ∷ nil_word ∷ cons_at pair ∷ []) (refuses nil_word string_class)
  pub character_fits : FitsError SetCharAt (nil_word ∷ object_at abc ∷ number 0 ∷ []) nil_word character_class
  pub string_fits : FitsError SetCharAt (character_word 90 ∷ nil_word ∷ number 0 ∷ []) nil_word string_class
  pub index_fits : FitsError SetCharAt (character_word 90 ∷ object_at abc ∷ nil_word ∷ []) nil_word integer_class
  pub above_fits : FitsCondition SetCharAt (character_word 90 ∷ object_at abc ∷ number 3 ∷ []) program_error_class
