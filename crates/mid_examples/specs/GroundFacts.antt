-- The arena is written out as it should be: where each thing stands is its first word, and no kind of value is left out.
use Rattle.std.specs.Prelude.{◌≡◌, ℕ, ◌+◌, ◌*◌, List, [], ◌∷◌, length, map, Option, Some}
use Rattle.mid_code.specs.Arena.{word_at, left}
use Rattle.mid_arena.specs.Tags.{string_header, vector_header, instance_header, function_header, generic_header, class_header, input_header, output_header, symbol_header, fresh_header}
use Rattle.mid_arena.specs.Codes.{frame_words}
use Rattle.mid_arena.specs.FixedWords.{nil_name_address, no_name_address}
use Rattle.mid_examples.specs.Addresses.{object_at, number, symbol_t, symbol_x, symbol_y, symbol_point, symbol_abcd, symbol_cons, symbol_empty, fresh, expanded, pair, next_pair, empty_string, abc, abcd, abcde, empty_vector, triple, a_function, a_generic, input, output, x_initargs, x_initform, object_class, vectors, strings, characters, functions, generics, lists, conses, symbols, nulls, integers, streams, built_in_ones, standard_ones, standard_objects, serious_conditions, program_errors, divisions_by_zero, integer_overflows, domain_errors, points, shapes, dots, mishaps, a_point, a_dot, a_mishap, an_error, made, class_words}
use Rattle.mid_examples.specs.Ground.{words, with_room}
use Rattle.mid_examples.specs.Kinds.{some_integers, some_characters, some_conses, some_symbols, some_strings, some_vectors, some_generics, some_functions, some_classes, some_streams, some_conditions, some_instances, values, others_than}

-- the words at addresses
abbrev pub words_at : List ℕ → List (Option ℕ)
words_at addresses = map (word_at (with_room 0).arena) addresses

-- a word, so many times
abbrev pub each : ℕ → List ℕ → List (Option ℕ)
each word addresses = map (λ address. Some word) addresses

abbrev pub HasHeader : ℕ → List ℕ → Type 0
HasHeader header addresses = words_at addresses ≡ each header addresses

pub record GroundFacts : Type 0 where
  -- all words, 34 of them those of classes
  pub size : 4 * length words ≡ made
  pub classes : length class_words ≡ 34
  pub room : left (with_room 5).arena ≡ frame_words + 5
  pub names : HasHeader symbol_header (nil_name_address ∷ no_name_address ∷ [])
  pub symbols_stand :
      HasHeader symbol_header (symbol_t ∷ symbol_x ∷ symbol_y ∷ symbol_point ∷ symbol_abcd ∷ symbol_cons ∷ symbol_empty ∷ [])
  pub fresh_stand : HasHeader fresh_header (fresh ∷ expanded ∷ [])
  pub conses_stand :
      words_at (pair ∷ next_pair ∷ x_initargs ∷ []) ≡ Some (number 1) ∷ Some (object_at symbol_x) ∷ Some (object_at symbol_x) ∷ []
  pub strings_stand : HasHeader string_header (empty_string ∷ abc ∷ abcd ∷ abcde ∷ [])
  pub vectors_stand : HasHeader vector_header (empty_vector ∷ triple ∷ [])
  pub functions_stand : HasHeader function_header (a_function ∷ x_initform ∷ [])
  pub others_stand :
      words_at (a_generic ∷ input ∷ output ∷ []) ≡ Some generic_header ∷ Some input_header ∷ Some output_header ∷ []
  pub classes_stand :
      HasHeader class_header (object_class ∷ vectors ∷ strings ∷ characters ∷ functions ∷ generics ∷ lists ∷ conses ∷ symbols ∷ nulls ∷ integers
      ∷ streams ∷ built_in_ones ∷ standard_ones ∷ standard_objects ∷ serious_conditions ∷ program_errors ∷ divisions_by_zero ∷ integer_overflows
      ∷ domain_errors ∷ points ∷ shapes ∷ dots ∷ mishaps ∷ [])
  -- a class's number stands behind its header
  pub class_numbers :
      words_at (map (λ address. address + 4) (object_class ∷ vectors ∷ strings ∷ characters ∷ functions ∷ generics ∷ lists ∷ conses ∷ symbols
      ∷ nulls ∷ integers ∷ streams ∷ built_in_ones ∷ standard_ones ∷ standard_objects ∷ serious_conditions ∷ program_errors ∷ divisions_by_zero
      ∷ integer_overflows ∷ domain_errors ∷ points ∷ shapes ∷ dots ∷ mishaps ∷ []))
      ≡ map (λ n. Some (number n)) (0 ∷ 3 ∷ 4 ∷ 5 ∷ 6 ∷ 7 ∷ 8 ∷ 9 ∷ 10 ∷ 11 ∷ 13 ∷ 14 ∷ 15 ∷ 16 ∷ 17 ∷ 18 ∷ 24 ∷ 27 ∷ 28 ∷ 29 ∷ 34 ∷ 35 ∷ 36 ∷ 37 ∷ [])
  pub instances_stand :
      words_at (a_point ∷ a_dot ∷ a_mishap ∷ an_error ∷ [])
      ≡ Some (instance_header 2) ∷ Some (instance_header 0) ∷ Some (instance_header 1) ∷ Some (instance_header 2) ∷ []
  -- 25 values, of which a kind is taken away
  pub all_values : length values ≡ 25
  pub no_integers : length (others_than some_integers) ≡ 23
  pub no_characters : length (others_than some_characters) ≡ 23
  pub no_conses : length (others_than some_conses) ≡ 24
  pub no_symbols : length (others_than some_symbols) ≡ 20
  pub no_strings : length (others_than some_strings) ≡ 23
  pub no_vectors : length (others_than some_vectors) ≡ 23
  pub no_functions : length (others_than some_functions) ≡ 23
  pub no_generics : length (others_than some_generics) ≡ 24
  pub no_classes : length (others_than some_classes) ≡ 22
  pub no_streams : length (others_than some_streams) ≡ 23
  pub no_instances : length (others_than some_instances) ≡ 21
  pub no_conditions : length (others_than some_conditions) ≡ 23
