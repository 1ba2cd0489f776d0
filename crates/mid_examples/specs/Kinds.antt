-- One or two words of each kind of value, of which primitives refuse those that are of other kinds than they take.
use Rattle.std.specs.Prelude.{ℕ, List, [], ◌∷◌, ◌++◌, not, filter}
use Rattle.lang_meaning.specs.Lookup.{is_in}
use Rattle.mid_arena.specs.Tags.{nil_word, character_word}
use Rattle.mid_examples.specs.Addresses.{cons_at, object_at, number, minus, symbol_x, symbol_empty, fresh, expanded, pair, empty_string, abcde, empty_vector, triple, a_function, a_generic, input, output, conses, points, mishaps, a_point, a_dot, a_mishap, an_error}

abbrev pub some_integers : List ℕ
some_integers = number 0 ∷ minus 1 ∷ []

abbrev pub some_characters : List ℕ
some_characters = character_word 0 ∷ character_word 65 ∷ []

abbrev pub some_conses : List ℕ
some_conses = cons_at pair ∷ []

-- nil is one of them
abbrev pub some_symbols : List ℕ
some_symbols = nil_word ∷ object_at symbol_x ∷ object_at symbol_empty ∷ object_at fresh ∷ object_at expanded ∷ []

abbrev pub some_strings : List ℕ
some_strings = object_at empty_string ∷ object_at abcde ∷ []

abbrev pub some_vectors : List ℕ
some_vectors = object_at empty_vector ∷ object_at triple ∷ []

-- generic functions are functions
abbrev pub some_generics : List ℕ
some_generics = object_at a_generic ∷ []

abbrev pub some_functions : List ℕ
some_functions = object_at a_function ∷ some_generics

abbrev pub some_classes : List ℕ
some_classes = object_at conses ∷ object_at points ∷ object_at mishaps ∷ []

abbrev pub some_streams : List ℕ
some_streams = object_at input ∷ object_at output ∷ []

-- conditions are instances
abbrev pub some_conditions : List ℕ
some_conditions = object_at a_mishap ∷ object_at an_error ∷ []

abbrev pub some_instances : List ℕ
some_instances = object_at a_point ∷ object_at a_dot ∷ some_conditions

abbrev pub values : List ℕ
values =
    some_integers ++ some_characters ++ some_conses ++ some_symbols ++ some_strings ++ some_vectors ++ some_functions ++ some_classes
    ++ some_streams ++ some_instances

-- the others
abbrev pub others_than : List ℕ → List ℕ
others_than words = filter (λ w. not (is_in w words)) values
