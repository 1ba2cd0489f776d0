-- Which class the code finds for a word.
use Rattle.std.specs.Prelude.{ℕ, ◌/◌, ◌%◌, ◌==◌, ◌||◌, nat_le, List, Option, Some, None, if◌then◌else◌}
use Rattle.lang_meaning.specs.Objects.{vector_class, string_class, character_class, function_class, generic_function_class, cons_class, symbol_class, null_class, integer_class, stream_class, built_in_class_class, standard_class_class}
use Rattle.mid_arena.specs.Tags.{cons_tag, object_tag, nil_word, string_header, vector_header, function_header, generic_header, class_header, input_header, output_header}
use Rattle.mid_told.specs.Reading.{header_in, second_in}

-- the number of a class, by its word
abbrev pub number_in : List ℕ → ℕ → ℕ
number_in words word = second_in words word / 4

abbrev pub class_of_class : ℕ → ℕ
class_of_class class = if nat_le class 16 then built_in_class_class else standard_class_class

abbrev pub class_of_header : ℕ → ℕ
class_of_header header =
    if header == string_header then string_class else
    (if header == vector_header then vector_class else
    (if header == function_header then function_class else
    (if header == generic_header then generic_function_class else
    (if header == input_header || header == output_header then stream_class else symbol_class))))

-- of an object or a symbol with that header: an instance points to its class
abbrev pub class_of_object_in : List ℕ → ℕ → (header : ℕ) → ℕ
class_of_object_in words word header =
    if header % 16 == 3 then number_in words (second_in words word) else
    (if header == class_header then class_of_class (number_in words word) else class_of_header header)

unfoldable pub class_in : List ℕ → ℕ → ℕ
class_in words word =
    if word % 4 == 0 then integer_class else
    (if word % 4 == cons_tag then cons_class else
    (if word % 4 == object_tag then class_of_object_in words word (header_in words word) else
    (if word == nil_word then null_class else character_class)))

-- which class it is, if it is one
abbrev pub which_class_in : List ℕ → ℕ → (header : ℕ) → Option ℕ
which_class_in words word header = if header == class_header then Some (number_in words word) else None
