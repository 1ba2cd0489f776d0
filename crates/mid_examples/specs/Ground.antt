-- The arena in which primitives are run, word for word, and the state around it.
use Rattle.std.specs.Prelude.{ℕ, ◌+◌, ◌*◌, ◌/◌, List, [], ◌∷◌, ◌++◌, length, map, replicate, Option, Some, None}
use Rattle.mid_code.specs.Arena.{Block, activation_frame}
use Rattle.mid_code.specs.State.{MidState}
use Rattle.mid_arena.specs.Tags.{nil_word, unbound_word, string_header, vector_header, instance_header, function_header, generic_header, class_header, input_header, output_header, symbol_header, fresh_header}
use Rattle.mid_arena.specs.Codes.{frame_words}
use Rattle.mid_examples.specs.Addresses.{cons_at, object_at, number, symbol_t, symbol_x, symbol_y, symbol_point, symbol_abcd, symbol_cons, symbol_empty, next_pair, abc, a_function, input, output, x_initargs, x_initform, points, dots, mishaps, domain_errors, integers, heap_begin, made, class_words}

-- four bytes in a word, the first one lowest
abbrev pub four : (first second third last : ℕ) → ℕ
four first second third last = first + 256 * second + 65536 * third + 16777216 * last

-- the fixed words: classes and streams, t, five as the next serial, nil for a line that was begun, nil for no byte that was looked at;
-- nothing is to be signalled yet; then the names of nil and of a symbol without one
abbrev pub fixed : List (Option ℕ)
fixed =
    map (λ w. Some w) (class_words ++ (object_at input ∷ object_at output ∷ object_at symbol_t ∷ number 5 ∷ nil_word ∷ nil_word ∷ []))
    ++ None ∷ map (λ w. Some w) (symbol_header ∷ number 3 ∷ four 110 105 108 0 ∷ symbol_header ∷ number 0 ∷ [])

abbrev pub symbol_words : List ℕ
symbol_words =
    -- t, x, y
    symbol_header ∷ number 1 ∷ four 116 0 0 0 ∷ symbol_header ∷ number 1 ∷ four 120 0 0 0 ∷ symbol_header ∷ number 1 ∷ four 121 0 0 0 ∷
    -- point, abcd
    symbol_header ∷ number 5 ∷ four 112 111 105 110 ∷ four 116 0 0 0 ∷ symbol_header ∷ number 4 ∷ four 97 98 99 100 ∷
    -- <cons>, and the one without bytes
    symbol_header ∷ number 6 ∷ four 60 99 111 110 ∷ four 115 62 0 0 ∷ symbol_header ∷ number 0 ∷
    -- fresh ones, the fourth of the program and the second of an expansion
    fresh_header ∷ number 3 ∷ fresh_header ∷ number 1 ∷ []

abbrev pub object_words : List ℕ
object_words =
    -- (1 x)
    number 1 ∷ cons_at next_pair ∷ object_at symbol_x ∷ nil_word ∷
    -- "", "abc", "abcd", "abcde"
    string_header ∷ number 0 ∷ string_header ∷ number 3 ∷ four 97 98 99 0 ∷ string_header ∷ number 4 ∷ four 97 98 99 100 ∷
    string_header ∷ number 5 ∷ four 97 98 99 100 ∷ four 101 0 0 0 ∷
    -- #(), #(7 x ())
    vector_header ∷ number 0 ∷ vector_header ∷ number 3 ∷ number 7 ∷ object_at symbol_x ∷ nil_word ∷
    -- functions and streams
    function_header ∷ number 6 ∷ generic_header ∷ number 2 ∷ input_header ∷ output_header ∷
    -- the list (x), and a function
    object_at symbol_x ∷ nil_word ∷ function_header ∷ number 8 ∷ []

-- A class: its number; its name; t or nil, where instances of it can be made or not, and where they are conditions or not; the
-- numbers of the classes in its precedence list; and for each slot its name, its initargs and its initform.
abbrev pub class : (number_of name made condition : ℕ) → (precedence slots : List ℕ) → List ℕ
class number_of name made condition precedence slots =
    class_header ∷ number number_of ∷ name ∷ made ∷ condition ∷ number (length precedence) ∷ number (length slots / 3)
    ∷ map number precedence ++ slots

-- a built-in class of which no instance can be made, and one of conditions; no row asks for their names
abbrev pub plain_class : (precedence : List ℕ) → (number_of : ℕ) → List ℕ
plain_class precedence number_of = class number_of (object_at symbol_t) nil_word nil_word precedence []

abbrev pub condition_class : (precedence slots : List ℕ) → (number_of : ℕ) → List ℕ
condition_class precedence slots number_of = class number_of (object_at symbol_t) (object_at symbol_t) (object_at symbol_t) precedence slots

abbrev pub built_in_class_words : List ℕ
built_in_class_words =
    plain_class (0 ∷ []) 0
    ++ plain_class (3 ∷ 2 ∷ 1 ∷ 0 ∷ []) 3
    ++ plain_class (4 ∷ 2 ∷ 1 ∷ 0 ∷ []) 4
    ++ plain_class (5 ∷ 0 ∷ []) 5
    ++ plain_class (6 ∷ 0 ∷ []) 6
    ++ plain_class (7 ∷ 6 ∷ 0 ∷ []) 7
    ++ plain_class (8 ∷ 0 ∷ []) 8
    ++ class 9 (object_at symbol_cons) nil_word nil_word (9 ∷ 8 ∷ 0 ∷ []) []
    ++ plain_class (10 ∷ 0 ∷ []) 10
    ++ plain_class (11 ∷ 10 ∷ 8 ∷ 0 ∷ []) 11
    ++ plain_class (13 ∷ 12 ∷ 0 ∷ []) 13
    ++ plain_class (14 ∷ 0 ∷ []) 14
    ++ plain_class (15 ∷ 0 ∷ []) 15
    ++ plain_class (16 ∷ 0 ∷ []) 16
    ++ plain_class (17 ∷ 0 ∷ []) 17
    ++ condition_class (18 ∷ 0 ∷ []) [] 18
    ++ condition_class (24 ∷ 19 ∷ 18 ∷ 0 ∷ []) [] 24
    ++ condition_class (27 ∷ 21 ∷ 19 ∷ 18 ∷ 0 ∷ []) [] 27
    ++ condition_class (28 ∷ 21 ∷ 19 ∷ 18 ∷ 0 ∷ []) [] 28
    ++ condition_class (29 ∷ 24 ∷ 19 ∷ 18 ∷ 0 ∷ [])
    (object_at symbol_x ∷ nil_word ∷ nil_word ∷ object_at symbol_y ∷ nil_word ∷ nil_word ∷ []) 29

abbrev pub own_class_words : List ℕ
own_class_words =
    -- points: x with an initarg and an initform, y with an initform alone
    class 34 (object_at symbol_point) (object_at symbol_t) nil_word (34 ∷ 17 ∷ 0 ∷ [])
    (object_at symbol_x ∷ cons_at x_initargs ∷ object_at x_initform ∷ object_at symbol_y ∷ nil_word ∷ object_at a_function ∷ [])
    -- shapes, dots, mishaps
    ++ class 35 (object_at symbol_abcd) nil_word nil_word (35 ∷ 17 ∷ 0 ∷ []) []
    ++ class 36 (object_at symbol_y) (object_at symbol_t) nil_word (36 ∷ 35 ∷ 17 ∷ 0 ∷ []) []
    ++ class 37 (object_at symbol_empty) (object_at symbol_t) (object_at symbol_t) (37 ∷ 24 ∷ 19 ∷ 18 ∷ 0 ∷ [])
    (object_at symbol_x ∷ nil_word ∷ nil_word ∷ [])

abbrev pub instance_words : List ℕ
instance_words =
    -- a point with x = 3 and a dot
    instance_header 2 ∷ object_at points ∷ number 3 ∷ unbound_word ∷ instance_header 0 ∷ object_at dots ∷
    -- a mishap with x = (), marked with "abc"
    instance_header 1 ∷ object_at mishaps ∷ nil_word ∷ object_at abc ∷
    -- a domain error: the list (x) is none of the integers; its slots are named x and y here, its mark is nil
    instance_header 2 ∷ object_at domain_errors ∷ cons_at next_pair ∷ object_at integers ∷ nil_word ∷ []

-- all words that stand there
abbrev pub words : List (Option ℕ)
words =
    fixed ++ map (λ w. Some w) (symbol_words ++ object_words ++ built_in_class_words ++ own_class_words ++ instance_words)

-- the frame of the procedure that calls
abbrev pub caller : Block
caller = record { words = 4; kind = activation_frame }

-- The state with so many words left beside the frame of a primitive. Two bytes were printed, hi, and two are left of the input, A and
-- a newline.
abbrev pub with_room : ℕ → MidState
with_room room = record {
  arena = record {
    memory = words ++ replicate {A = Option ℕ} (frame_words + room + 4) None;
    laid_from = 0;
    laid_to = heap_begin;
    heap_from = heap_begin;
    heap_to = made;
    blocks = caller ∷ [];
  };
  printed = 104 ∷ 105 ∷ [];
  input = 65 ∷ 10 ∷ [];
  cost = 0;
}
