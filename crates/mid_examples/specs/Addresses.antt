-- Where things stand in the arena in which primitives are run, each behind the one before it, and the words that point to them.
use Rattle.std.specs.Prelude.{ℕ, ◌+◌, ◌-◌, ◌*◌, ◌^◌, List, ◌∷◌, replicate, slice_index_or}
use Rattle.mid_arena.specs.Tags.{cons_tag, object_tag}
use Rattle.mid_arena.specs.FixedWords.{fixed_words}

-- the words of a cons and of another object at an address, and of an integer from 0 on and one below 0
abbrev pub cons_at : ℕ → ℕ
cons_at address = address + cons_tag

abbrev pub object_at : ℕ → ℕ
object_at address = address + object_tag

abbrev pub number : ℕ → ℕ
number n = 4 * n

abbrev pub minus : ℕ → ℕ
minus n = 2 ^ 32 - 4 * n

-- Symbols: t, x, y, point, abcd, <cons> and one whose name is empty; one that was made by the program, and one by an expansion.
abbrev pub symbol_t : ℕ
symbol_t = 4 * fixed_words

abbrev pub symbol_x : ℕ
symbol_x = symbol_t + 4 * 3

abbrev pub symbol_y : ℕ
symbol_y = symbol_x + 4 * 3

abbrev pub symbol_point : ℕ
symbol_point = symbol_y + 4 * 3

abbrev pub symbol_abcd : ℕ
symbol_abcd = symbol_point + 4 * 4

abbrev pub symbol_cons : ℕ
symbol_cons = symbol_abcd + 4 * 3

abbrev pub symbol_empty : ℕ
symbol_empty = symbol_cons + 4 * 4

abbrev pub fresh : ℕ
fresh = symbol_empty + 4 * 2

abbrev pub expanded : ℕ
expanded = fresh + 4 * 2

-- the list (1 x): a cons, and the next one
abbrev pub pair : ℕ
pair = expanded + 4 * 2

abbrev pub next_pair : ℕ
next_pair = pair + 4 * 2

-- the strings "", "abc", "abcd", "abcde", and the vectors #() and #(7 x ())
abbrev pub empty_string : ℕ
empty_string = next_pair + 4 * 2

abbrev pub abc : ℕ
abc = empty_string + 4 * 2

abbrev pub abcd : ℕ
abcd = abc + 4 * 3

abbrev pub abcde : ℕ
abcde = abcd + 4 * 3

abbrev pub empty_vector : ℕ
empty_vector = abcde + 4 * 4

abbrev pub triple : ℕ
triple = empty_vector + 4 * 2

-- a function, a generic function, and the two streams
abbrev pub a_function : ℕ
a_function = triple + 4 * 5

abbrev pub a_generic : ℕ
a_generic = a_function + 4 * 2

abbrev pub input : ℕ
input = a_generic + 4 * 2

abbrev pub output : ℕ
output = input + 4

-- of the slot x: the list of its initargs, (x), and the function of its initform
abbrev pub x_initargs : ℕ
x_initargs = output + 4

abbrev pub x_initform : ℕ
x_initform = x_initargs + 4 * 2

-- Built-in classes that are laid. A class takes seven words, and one for each class of its precedence list and three for each slot.
abbrev pub object_class : ℕ
object_class = x_initform + 4 * 2

abbrev pub vectors : ℕ
vectors = object_class + 4 * (7 + 1)

abbrev pub strings : ℕ
strings = vectors + 4 * (7 + 4)

abbrev pub characters : ℕ
characters = strings + 4 * (7 + 4)

abbrev pub functions : ℕ
functions = characters + 4 * (7 + 2)

abbrev pub generics : ℕ
generics = functions + 4 * (7 + 2)

abbrev pub lists : ℕ
lists = generics + 4 * (7 + 3)

abbrev pub conses : ℕ
conses = lists + 4 * (7 + 2)

abbrev pub symbols : ℕ
symbols = conses + 4 * (7 + 3)

abbrev pub nulls : ℕ
nulls = symbols + 4 * (7 + 2)

abbrev pub integers : ℕ
integers = nulls + 4 * (7 + 4)

abbrev pub streams : ℕ
streams = integers + 4 * (7 + 3)

abbrev pub built_in_ones : ℕ
built_in_ones = streams + 4 * (7 + 2)

abbrev pub standard_ones : ℕ
standard_ones = built_in_ones + 4 * (7 + 2)

abbrev pub standard_objects : ℕ
standard_objects = standard_ones + 4 * (7 + 2)

abbrev pub serious_conditions : ℕ
serious_conditions = standard_objects + 4 * (7 + 2)

abbrev pub program_errors : ℕ
program_errors = serious_conditions + 4 * (7 + 2)

abbrev pub divisions_by_zero : ℕ
divisions_by_zero = program_errors + 4 * (7 + 4)

abbrev pub integer_overflows : ℕ
integer_overflows = divisions_by_zero + 4 * (7 + 5)

abbrev pub domain_errors : ℕ
domain_errors = integer_overflows + 4 * (7 + 5)

-- the program's own classes: of points with two slots, an abstract one of shapes, one of dots below it without slots, and one of conditions
-- with one slot
abbrev pub points : ℕ
points = domain_errors + 4 * (7 + 5 + 3 * 2)

abbrev pub shapes : ℕ
shapes = points + 4 * (7 + 3 + 3 * 2)

abbrev pub dots : ℕ
dots = shapes + 4 * (7 + 3)

abbrev pub mishaps : ℕ
mishaps = dots + 4 * (7 + 4)

-- the heap begins with instances: a point whose y has no value, a dot, a mishap with a mark, and a domain error
abbrev pub heap_begin : ℕ
heap_begin = mishaps + 4 * (7 + 5 + 3)

abbrev pub a_point : ℕ
a_point = heap_begin

abbrev pub a_dot : ℕ
a_dot = a_point + 4 * 4

abbrev pub a_mishap : ℕ
a_mishap = a_dot + 4 * 2

abbrev pub an_error : ℕ
an_error = a_mishap + 4 * 4

-- and what is made stands behind them
abbrev pub made : ℕ
made = an_error + 4 * 5

-- The words of the built-in classes, each at its number. Those that no primitive names stand for `<object>` here.
abbrev pub class_words : List ℕ
class_words =
    -- <object>, and <basic-array> and <basic-vector>, which are not laid
    object_at object_class ∷ object_at object_class ∷ object_at object_class ∷
    -- <general-vector>, <string>, <character>, <function>, <generic-function>
    object_at vectors ∷ object_at strings ∷ object_at characters ∷ object_at functions ∷ object_at generics ∷
    -- <list>, <cons>, <symbol>, <null>
    object_at lists ∷ object_at conses ∷ object_at symbols ∷ object_at nulls ∷
    -- <number>, <integer>, <stream>
    object_at object_class ∷ object_at integers ∷ object_at streams ∷
    -- <built-in-class>, <standard-class>, <standard-object>
    object_at built_in_ones ∷ object_at standard_ones ∷ object_at standard_objects ∷
    -- <serious-condition>, <error>, <storage-exhausted>, <arithmetic-error>, <control-error>, <parse-error>, <program-error>
    object_at serious_conditions ∷ object_at object_class ∷ object_at object_class ∷ object_at object_class ∷ object_at object_class ∷
    object_at object_class ∷ object_at program_errors ∷
    -- <simple-error>, <stream-error>, <division-by-zero>, <integer-overflow>, <domain-error>
    object_at object_class ∷ object_at object_class ∷ object_at divisions_by_zero ∷ object_at integer_overflows ∷ object_at domain_errors ∷
    -- the others
    replicate 4 (object_at object_class)

-- the word of a built-in class
abbrev pub class_word : ℕ → ℕ
class_word class = slice_index_or class_words class 0
