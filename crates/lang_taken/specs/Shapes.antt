-- What a value is at its outermost, where it is to stand for a datum (ISO/IEC 13816:2007, 18).
use Rattle.std.specs.Prelude.{ℕ, ◌+◌, ◌/◌, ℤ, Bool, true, false, List, length, Option, Some, None, slice_get}
use Rattle.lang_meaning.specs.Values.{SymbolValue, Value}
use Rattle.lang_meaning.specs.Values as value
use Rattle.lang_meaning.specs.Objects.{Object}
use Rattle.lang_meaning.specs.Objects as object

-- an integer, a character, a symbol that was there before the run, one that the run made, a string, a vector, the empty list, a cons, or what
-- is no datum
pub data Shape : Type 0 where
  integer : ℤ → Shape
  character : ℕ → Shape
  symbol : SymbolValue → Shape
  new_symbol : (serial : ℕ) → Shape
  string : List ℕ → Shape
  vector : List Value → Shape
  nil : Shape
  cons : Value → Value → Shape
  no_datum : Shape

abbrev pub shape_of_object : Option Object → Shape
shape_of_object None = no_datum
shape_of_object (Some (object.cons car cdr)) = cons car cdr
shape_of_object (Some (object.string bytes)) = string bytes
shape_of_object (Some (object.vector elements)) = vector elements
shape_of_object (Some (object.instance class slots mark)) = no_datum
shape_of_object (Some (object.function procedure)) = no_datum
shape_of_object (Some (object.closure required rest body environment)) = no_datum
shape_of_object (Some (object.generic_function generic)) = no_datum
shape_of_object (Some (object.class_object class)) = no_datum
shape_of_object (Some object.input_stream) = no_datum
shape_of_object (Some object.output_stream) = no_datum
shape_of_object (Some (object.fresh_symbol serial)) = new_symbol serial

abbrev pub shape_of : List Object → Value → Shape
shape_of objects (value.integer n) = integer n
shape_of objects (value.character c) = character c
shape_of objects (value.symbol s) = symbol s
shape_of objects value.nil = nil
shape_of objects (value.object i) = shape_of_object (slice_get objects i)

-- the size of a datum without the data inside it: one, and one for four bytes begun of a string; nothing of what is no datum
abbrev pub own_size : Shape → ℕ
own_size (integer n) = 1
own_size (character c) = 1
own_size (symbol s) = 1
own_size (new_symbol serial) = 1
own_size (string bytes) = 1 + (length bytes + 3) / 4
own_size (vector elements) = 1
own_size nil = 1
own_size (cons car cdr) = 1
own_size no_datum = 0

-- whether data stand inside it
abbrev pub opens : Shape → Bool
opens (integer n) = false
opens (character c) = false
opens (symbol s) = false
opens (new_symbol serial) = false
opens (string bytes) = false
opens (vector elements) = true
opens nil = false
opens (cons car cdr) = true
opens no_datum = false

-- whether it is a list: the empty one or a cons
abbrev pub is_list : Shape → Bool
is_list (integer n) = false
is_list (character c) = false
is_list (symbol s) = false
is_list (new_symbol serial) = false
is_list (string bytes) = false
is_list (vector elements) = false
is_list nil = true
is_list (cons car cdr) = true
is_list no_datum = false
