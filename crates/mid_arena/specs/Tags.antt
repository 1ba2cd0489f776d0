-- What the bits of a word say: the two lowest are its tag, 0 for an integer, 1 for a cons, 2 for another object or a symbol, 3 for nil,
-- a character and what is no value. The first word of an object other than a cons is its header, which says of what kind it is.
use Rattle.std.specs.Prelude.{ℕ, ◌+◌, ◌*◌, ℤ, pos, ◌*ℤ◌}
use Rattle.base.specs.Arithmetic.{low_word}
use Rattle.lang_meaning.specs.Objects.{Object, cons, string, vector, instance, function, closure, generic_function, class_object, input_stream, output_stream, fresh_symbol}

abbrev pub cons_tag : ℕ
cons_tag = 1

abbrev pub object_tag : ℕ
object_tag = 2

-- an integer stands in the upper 30 bits, in two's complement
abbrev pub integer_word : ℤ → ℕ
integer_word n = low_word (pos 4 *ℤ n)

abbrev pub nil_word : ℕ
nil_word = 3

-- a slot that has no value
abbrev pub unbound_word : ℕ
unbound_word = 7

-- what a primitive returns where it made a condition that is to be signalled
abbrev pub signal_word : ℕ
signal_word = 11

abbrev pub character_word : ℕ → ℕ
character_word code = 256 * code + 15

-- headers
abbrev pub string_header : ℕ
string_header = 1

abbrev pub vector_header : ℕ
vector_header = 2

-- with how many slots the instance has
abbrev pub instance_header : ℕ → ℕ
instance_header slots = 16 * slots + 3

abbrev pub function_header : ℕ
function_header = 4

abbrev pub generic_header : ℕ
generic_header = 5

abbrev pub class_header : ℕ
class_header = 6

abbrev pub input_header : ℕ
input_header = 7

abbrev pub output_header : ℕ
output_header = 8

-- a symbol with a name, and one without
abbrev pub symbol_header : ℕ
symbol_header = 9

abbrev pub fresh_header : ℕ
fresh_header = 10

-- the tag of an object
abbrev pub tag_of : Object → ℕ
tag_of (cons a d) = cons_tag
tag_of (string bytes) = object_tag
tag_of (vector vs) = object_tag
tag_of (instance c slots mark) = object_tag
tag_of (function p) = object_tag
tag_of (closure required rest body env) = object_tag
tag_of (generic_function g) = object_tag
tag_of (class_object c) = object_tag
tag_of input_stream = object_tag
tag_of output_stream = object_tag
tag_of (fresh_symbol s) = object_tag
