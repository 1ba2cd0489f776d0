-- What the primitives give (ISO/IEC 13816:2007, 13, 15 and 18 to 27), and which condition they signal: one row
-- each. Which class of condition an error has is this profile's choice, `<integer-overflow>` among them, and
-- `<program-error>` for a bad index or an unbound slot. The classes of the arguments are checked first, from left
-- to right.
use Rattle.std.specs.Prelude.{ℕ, zero, suc, ◌+◌, ◌/◌, ◌%◌, ◌==◌, ℤ, pos, negsuc, ◌+ℤ◌, ◌-ℤ◌, ◌*ℤ◌, int_lt, int_le, Bool, true, false, not, ◌&&◌, ◌||◌, nat_le, nat_lt, List, [], ◌∷◌, ◌++◌, length, replicate, Option, Some, None, slice_get, slice_set, slice_index_or, if◌then◌else◌, is_some}
use Rattle.std.specs.List.{position_or_len}
use Rattle.std.specs.Str.{bytes_eq}
use Rattle.lang_meaning.specs.declared.primitive.Primitive.{Primitive}
use Rattle.lang_meaning.specs.declared.primitive.Primitive.TheVariants.{Add, Subtract, Multiply, Divide, Modulo, NumberEqual, NumberNotEqual, NumberLess, NumberAtMost, NumberGreater, NumberAtLeast, Same, IsNull, IsCons, IsInteger, IsSymbol, IsCharacter, IsString, IsVector, IsFunction, IsGeneric, Cons, Car, Cdr, SetCar, SetCdr, MakeString, MakeVector, StringLength, VectorLength, CharAt, VectorRef, SetCharAt, SetVectorRef, CharCode, CodeChar, SymbolName, SymbolSerial, Gensym, ClassOf, ClassName, IsSubclass, IsInstance, Allocate, SlotCount, SlotPlace, SlotRef, SlotSet, SlotBound, SlotInitargs, SlotInitform, Continuable, StandardInput, StandardOutput, PutChar, IsFreshLine, GetByte, PeekByte}
use Rattle.lang_meaning.specs.declared.program.ProgramRows.{ProgramRows}
use Rattle.lang_meaning.specs.declared.program.ClassRow.{ClassRow}
use Rattle.lang_meaning.specs.declared.program.SlotRow.{SlotRow}
use Rattle.lang_meaning.specs.Values.{named, unnamed, Value, integer, character, symbol, nil, object, truth, in_range, int_equal, same}
use Rattle.lang_meaning.specs.Objects.{Object, cons, string, vector, instance, function, closure, generic_function, class_object, input_stream, output_stream, fresh_symbol, built_in_classes}
use Rattle.lang_meaning.specs.Objects.{vector_class, string_class, character_class, cons_class, symbol_class, integer_class, stream_class, standard_class_class, standard_object_class, serious_condition_class, program_error_class, division_by_zero_class, integer_overflow_class}
use Rattle.lang_meaning.specs.State.{State, charged, changed}
use Rattle.lang_meaning.specs.Lookup.{text, passed}
use Rattle.lang_meaning.specs.Classes.{class_of, fetch, precedence, slots, is_below, is_condition}
use Rattle.lang_meaning.specs.InitialHeap.{class_value, initargs_value, initform_value, standard_input, standard_output}

-- what a primitive answers: a value, an object to be made of so many words and with so many units besides, the
-- next fresh symbol, or a condition to signal: its class and its slots, or an argument that is not of the expected class
pub data Answer : Type 0 where
  result : Value → State → Answer
  makes : (size besides : ℕ) → Object → State → Answer
  makes_symbol : State → Answer
  fails : (class : ℕ) → List Value → State → Answer
  domain_error : Value → (expected : ℕ) → State → Answer

abbrev pub program_error : State → Answer
program_error = fails program_error_class []

-- arguments as what they are to be
abbrev pub needs : {X : Type 0} → Option X → Answer → (X → Answer) → Answer
needs None otherwise next = otherwise
needs (Some x) otherwise next = next x

abbrev pub as_integer : Value → Option ℤ
as_integer (integer n) = Some n
as_integer v = None

abbrev pub as_character : Value → Option ℕ
as_character (character c) = Some c
as_character v = None

abbrev pub as_cons : Option Object → Option (Value × Value)
as_cons (Some (cons a d)) = Some (a, d)
as_cons o = None

abbrev pub as_string : Option Object → Option (List ℕ)
as_string (Some (string bytes)) = Some bytes
as_string o = None

abbrev pub as_vector : Option Object → Option (List Value)
as_vector (Some (vector vs)) = Some vs
as_vector o = None

abbrev pub as_class : Option Object → Option ℕ
as_class (Some (class_object c)) = Some c
as_class o = None

-- the class, the slots and the mark of an instance
abbrev pub as_instance : Option Object → Option (ℕ × List (Option Value) × Value)
as_instance (Some (instance c vs mark)) = Some (c, vs, mark)
as_instance o = None

-- whether a stream is the standard output
abbrev pub as_stream : Option Object → Option Bool
as_stream (Some input_stream) = Some false
as_stream (Some output_stream) = Some true
as_stream o = None

-- a symbol: nil is one (ISO/IEC 13816:2007, 13.2)
pub data Spelt : Type 0 where
  by_name : List ℕ → Spelt
  by_serial : ℕ → Spelt

abbrev pub fresh_in : Option Object → Option Spelt
fresh_in (Some (fresh_symbol s)) = Some (by_serial s)
fresh_in o = None

abbrev pub as_symbol : State → Value → Option Spelt
as_symbol z (symbol (named name)) = Some (by_name name)
as_symbol z (symbol (unnamed expansion serial)) = Some (by_serial serial)
as_symbol z nil = Some (by_name (110 ∷ 105 ∷ 108 ∷ []))
as_symbol z (object i) = fresh_in (slice_get z.store i)
as_symbol z v = None

abbrev pub an_integer : Value → State → (ℤ → Answer) → Answer
an_integer v z = needs (as_integer v) (domain_error v integer_class z)

abbrev pub a_character : Value → State → (ℕ → Answer) → Answer
a_character v z = needs (as_character v) (domain_error v character_class z)

abbrev pub a_cons : Value → State → (Value × Value → Answer) → Answer
a_cons v z = needs (as_cons (fetch z v)) (domain_error v cons_class z)

abbrev pub a_string : Value → State → (List ℕ → Answer) → Answer
a_string v z = needs (as_string (fetch z v)) (domain_error v string_class z)

abbrev pub a_vector : Value → State → (List Value → Answer) → Answer
a_vector v z = needs (as_vector (fetch z v)) (domain_error v vector_class z)

abbrev pub a_class : Value → State → (ℕ → Answer) → Answer
a_class v z = needs (as_class (fetch z v)) (domain_error v standard_class_class z)

abbrev pub an_instance : Value → State → (ℕ × List (Option Value) × Value → Answer) → Answer
an_instance v z = needs (as_instance (fetch z v)) (domain_error v standard_object_class z)

abbrev pub a_symbol : Value → State → (Spelt → Answer) → Answer
a_symbol v z = needs (as_symbol z v) (domain_error v symbol_class z)

-- an integer, unless it is out of range
abbrev pub integer_result : ℤ → State → Answer
integer_result n z = if in_range n then result (integer n) z else fails integer_overflow_class [] z

-- the quotient, rounded towards minus infinity, and the remainder with the divisor's sign
abbrev pub floor_quotient : ℤ → ℤ → ℤ
floor_quotient (pos a) (pos b) = pos (a / b)
floor_quotient (negsuc a) (pos b) = negsuc (a / b)
floor_quotient (pos zero) (negsuc b) = pos 0
floor_quotient (pos (suc a)) (negsuc b) = negsuc (a / (b + 1))
floor_quotient (negsuc a) (negsuc b) = pos ((a + 1) / (b + 1))

abbrev pub floor_remainder : ℤ → ℤ → ℤ
floor_remainder a b = a -ℤ b *ℤ floor_quotient a b

abbrev pub division : (ℤ → ℤ → ℤ) → ℤ → ℤ → State → Answer
division f a b z = if int_equal b (pos 0) then fails division_by_zero_class [] z else integer_result (f a b) z

-- an index of a list, where it is one
abbrev pub index_of : ℤ → ℕ → Option ℕ
index_of (pos i) n = if nat_lt i n then Some i else None
index_of (negsuc i) n = None

abbrev pub an_index : ℤ → ℕ → State → (ℕ → Answer) → Answer
an_index n count z = needs (index_of n count) (program_error z)

-- a length: a negative one is a domain error
abbrev pub length_of : ℤ → Option ℕ
length_of (pos n) = Some n
length_of (negsuc n) = None

-- a byte
abbrev pub byte_of : ℤ → Option ℕ
byte_of n = needs_byte (length_of n)
  where
    needs_byte : Option ℕ → Option ℕ
    needs_byte (Some c) = if nat_le c 255 then Some c else None
    needs_byte None = None

-- new strings and vectors
abbrev pub makes_string : List ℕ → State → Answer
makes_string bytes = makes (2 + (length bytes + 3) / 4) (length bytes) (string bytes)

abbrev pub makes_vector : List Value → State → Answer
makes_vector vs = makes (2 + length vs) 0 (vector vs)

-- the words of an instance: a condition has one more, for its mark
abbrev pub instance_words : ProgramRows → ℕ → ℕ → ℕ
instance_words program c n = 2 + n + (if is_below program c serious_condition_class then 1 else 0)

-- a change of an object that is there
abbrev pub change : Value → Object → State → State
change (object i) now z = changed i now z
change v now z = z

abbrev pub is_function : Option Object → Bool
is_function (Some (function p)) = true
is_function (Some (closure vs rest body env)) = true
is_function (Some (generic_function g)) = true
is_function o = false

abbrev pub is_generic : Option Object → Bool
is_generic (Some (generic_function g)) = true
is_generic o = false

-- the bytes left, and the first of them
abbrev pub first_byte : List ℕ → Value
first_byte [] = integer (negsuc 0)
first_byte (b ∷ bs) = integer (pos b)

abbrev pub other_bytes : List ℕ → List ℕ
other_bytes [] = []
other_bytes (b ∷ bs) = bs

-- whether nothing was put, or the last byte put is a newline
abbrev pub is_fresh_line : List ℕ → Bool
is_fresh_line [] = true
is_fresh_line (b ∷ []) = b == 10
is_fresh_line (b ∷ c ∷ cs) = is_fresh_line (c ∷ cs)

-- the name of a class
abbrev pub class_name : List (List ℕ) → Option ClassRow → List ℕ
class_name names (Some row) = text names row.name.0
class_name names None = []

abbrev pub is_abstract : Option ClassRow → Bool
is_abstract (Some row) = row.abstract_class
is_abstract None = true

-- instances of a class can be made where it is not abstract, and is the file's own or a condition class
abbrev pub can_be_made : ProgramRows → ℕ → Bool
can_be_made program c =
    not (is_abstract (slice_get program.classes c))
    && (nat_le built_in_classes c || is_below program c serious_condition_class)

-- the slots of an instance, searched for a name from the first one on
abbrev pub is_slot : List (List ℕ) → Spelt → SlotRow → Bool
is_slot names (by_name name) s = bytes_eq name (text names s.name.0)
is_slot names (by_serial serial) s = false

abbrev pub slot_place : List SlotRow → (SlotRow → Bool) → State → Answer
slot_place rows p z =
    needs (index_of (pos (position_or_len p rows)) (length rows)) (program_error (charged (length rows) z))
    (λ i. result (integer (pos i)) (charged (i + 1) z))

-- the value of a slot that has one
abbrev pub slot_value : Option (Option Value) → State → Answer
slot_value (Some (Some v)) z = result v z
slot_value (Some None) z = program_error z
slot_value None z = program_error z

abbrev pub has_value : Option (Option Value) → Bool
has_value (Some (Some v)) = true
has_value (Some None) = false
has_value None = false

-- a place of an instance's slots
abbrev pub a_slot : Value → Value → State → (ℕ × List (Option Value) × Value → ℕ → Answer) → Answer
a_slot v place z next =
    an_instance v z (λ i. an_integer place z (λ n. an_index n (length i.1) z (λ at. next i at)))

-- one, two or three arguments; in a program each primitive has as many as it takes
abbrev pub of_none : (State → Answer) → List Value → State → Answer
of_none f [] = f
of_none f (v ∷ vs) = result nil

abbrev pub of_one : (Value → State → Answer) → List Value → State → Answer
of_one f (v ∷ []) = f v
of_one f vs = result nil

abbrev pub of_two : (Value → Value → State → Answer) → List Value → State → Answer
of_two f (v ∷ w ∷ []) = f v w
of_two f vs = result nil

abbrev pub of_three : (Value → Value → Value → State → Answer) → List Value → State → Answer
of_three f (v ∷ w ∷ u ∷ []) = f v w u
of_three f vs = result nil

abbrev pub of_integers : (ℤ → ℤ → State → Answer) → List Value → State → Answer
of_integers f = of_two (λ v w z. an_integer v z (λ a. an_integer w z (λ b. f a b z)))

-- t or nil
abbrev pub says : Bool → State → Answer
says b = result (truth b)

-- the answer of a primitive at the values of its arguments
abbrev pub primitive : List (List ℕ) → ProgramRows → Primitive → List Value → State → Answer
primitive names program Add = of_integers (λ a b. integer_result (a +ℤ b))
primitive names program Subtract = of_integers (λ a b. integer_result (a -ℤ b))
primitive names program Multiply = of_integers (λ a b. integer_result (a *ℤ b))
primitive names program Divide = of_integers (division floor_quotient)
primitive names program Modulo = of_integers (division floor_remainder)
primitive names program NumberEqual = of_integers (λ a b. says (int_equal a b))
primitive names program NumberNotEqual = of_integers (λ a b. says (not (int_equal a b)))
primitive names program NumberLess = of_integers (λ a b. says (int_lt a b))
primitive names program NumberAtMost = of_integers (λ a b. says (int_le a b))
primitive names program NumberGreater = of_integers (λ a b. says (int_lt b a))
primitive names program NumberAtLeast = of_integers (λ a b. says (int_le b a))
primitive names program Same = of_two (λ v w. says (same v w))
primitive names program IsNull = of_one (λ v. says (same v nil))
primitive names program IsCons = of_one (λ v z. says (is_some (as_cons (fetch z v))) z)
primitive names program IsInteger = of_one (λ v. says (is_some (as_integer v)))
primitive names program IsSymbol = of_one (λ v z. says (is_some (as_symbol z v)) z)
primitive names program IsCharacter = of_one (λ v. says (is_some (as_character v)))
primitive names program IsString = of_one (λ v z. says (is_some (as_string (fetch z v))) z)
primitive names program IsVector = of_one (λ v z. says (is_some (as_vector (fetch z v))) z)
primitive names program IsFunction = of_one (λ v z. says (is_function (fetch z v)) z)
primitive names program IsGeneric = of_one (λ v z. says (is_generic (fetch z v)) z)
primitive names program Cons = of_two (λ v w. makes 2 0 (cons v w))
primitive names program Car = of_one (λ v z. a_cons v z (λ c. result c.0 z))
primitive names program Cdr = of_one (λ v z. a_cons v z (λ c. result c.1 z))
primitive names program SetCar = of_two (λ v w z. a_cons w z (λ c. result v (change w (cons v c.1) z)))
primitive names program SetCdr = of_two (λ v w z. a_cons w z (λ c. result v (change w (cons c.0 v) z)))
primitive names program MakeString = of_two (λ v w z.
    an_integer v z (λ n. a_character w z (λ c.
    needs (length_of n) (domain_error v integer_class z) (λ count. makes_string (replicate count c) z))))
primitive names program MakeVector = of_two (λ v w z.
    an_integer v z (λ n.
    needs (length_of n) (domain_error v integer_class z) (λ count. makes_vector (replicate count w) z)))
primitive names program StringLength = of_one (λ v z. a_string v z (λ bytes. result (integer (pos (length bytes))) z))
primitive names program VectorLength = of_one (λ v z. a_vector v z (λ vs. result (integer (pos (length vs))) z))
primitive names program CharAt = of_two (λ v w z.
    a_string v z (λ bytes. an_integer w z (λ n.
    an_index n (length bytes) z (λ i. result (character (slice_index_or bytes i 0)) z))))
primitive names program VectorRef = of_two (λ v w z.
    a_vector v z (λ vs. an_integer w z (λ n.
    an_index n (length vs) z (λ i. result (slice_index_or vs i nil) z))))
primitive names program SetCharAt = of_three (λ v w u z.
    a_character v z (λ c. a_string w z (λ bytes. an_integer u z (λ n.
    an_index n (length bytes) z (λ i. result v (change w (string (slice_set bytes i c)) z))))))
primitive names program SetVectorRef = of_three (λ v w u z.
    a_vector w z (λ vs. an_integer u z (λ n.
    an_index n (length vs) z (λ i. result v (change w (vector (slice_set vs i v)) z)))))
primitive names program CharCode = of_one (λ v z. a_character v z (λ c. result (integer (pos c)) z))
primitive names program CodeChar = of_one (λ v z.
    an_integer v z (λ n. needs (byte_of n) (domain_error v integer_class z) (λ c. result (character c) z)))
primitive names program SymbolName = of_one (λ v z. a_symbol v z (λ s. makes_string (name_of s) z))
  where
    name_of : Spelt → List ℕ
    name_of (by_name name) = name
    name_of (by_serial serial) = []
primitive names program SymbolSerial = of_one (λ v z. a_symbol v z (λ s. result (serial_of s) z))
  where
    serial_of : Spelt → Value
    serial_of (by_name name) = nil
    serial_of (by_serial serial) = integer (pos (serial % 536870912))
primitive names program Gensym = of_none (λ z. makes_symbol z)
primitive names program ClassOf = of_one (λ v z. result (class_value names program (class_of z v)) z)
primitive names program ClassName = of_one (λ v z.
    a_class v z (λ c. result (symbol (named (class_name names (slice_get program.classes c)))) z))
primitive names program IsSubclass = of_two (λ v w z.
    a_class v z (λ c. a_class w z (λ d. below c d z)))
  where
    below : ℕ → ℕ → State → Answer
    below c d z = says (is_below program c d) (charged (passed (λ e. d == e) (precedence program c)) z)
primitive names program IsInstance = of_two (λ v w z. a_class w z (λ d. below (class_of z v) d z))
  where
    below : ℕ → ℕ → State → Answer
    below c d z = says (is_below program c d) (charged (passed (λ e. d == e) (precedence program c)) z)
primitive names program Allocate = of_one (λ v z. a_class v z (λ c.
    if can_be_made program c then
    makes (instance_words program c (length (slots program c))) 0
    (instance c (replicate (length (slots program c)) None) nil) z
    else program_error z))
primitive names program SlotCount = of_one (λ v z. an_instance v z (λ i. result (integer (pos (length i.1))) z))
primitive names program SlotPlace = of_two (λ v w z.
    an_instance v z (λ i. a_symbol w z (λ s. slot_place (slots program i.0) (is_slot names s) z)))
primitive names program SlotRef = of_two (λ v w z. a_slot v w z (λ i at. slot_value (slice_get i.1 at) z))
primitive names program SlotSet = of_three (λ v w u z.
    a_slot w u z (λ i at. result v (change w (instance i.0 (slice_set i.1 at (Some v)) i.2) z)))
primitive names program SlotBound = of_two (λ v w z. a_slot v w z (λ i at. says (has_value (slice_get i.1 at)) z))
primitive names program SlotInitargs = of_two (λ v w z. a_slot v w z (λ i at. result (initargs_value names program i.0 at) z))
primitive names program SlotInitform = of_two (λ v w z. a_slot v w z (λ i at. result (initform_value names program i.0 at) z))
primitive names program Continuable = of_one (λ v z.
    if is_condition program z v then an_instance v z (λ i. result i.2 z)
    else domain_error v serious_condition_class z)
primitive names program StandardInput = of_none (result (standard_input names program))
primitive names program StandardOutput = of_none (result (standard_output names program))
primitive names program PutChar = of_two (λ v w z.
    needs (as_stream (fetch z v)) (domain_error v stream_class z) (λ is_output.
    a_character w z (λ c.
    if is_output then result nil (record z { printed = z.printed ++ c ∷ [] })
    else domain_error v stream_class z)))
primitive names program IsFreshLine = of_none (λ z. says (is_fresh_line z.printed) z)
primitive names program GetByte = of_none (λ z. result (first_byte z.input) (record z { input = other_bytes z.input }))
primitive names program PeekByte = of_none (λ z. result (first_byte z.input) z)
