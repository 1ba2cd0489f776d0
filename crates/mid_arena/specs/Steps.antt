-- The steps of each line of the code of primitives.
use Rattle.std.specs.Prelude.{ℕ, ◌*◌, ◌^◌, ℤ, pos, negsuc, List, [], ◌∷◌, ◌++◌}
use Rattle.lang_meaning.specs.Objects.{character_class, symbol_class, string_class, vector_class, function_class, generic_function_class, cons_class, null_class, integer_class, stream_class, built_in_class_class, standard_class_class, standard_object_class, program_error_class, domain_error_class}
use Rattle.mid_code.specs.declared.operation.Arithmetic.{Arithmetic}
use Rattle.mid_code.specs.declared.operation.Arithmetic.TheVariants as which
use Rattle.mid_code.specs.declared.operation.Comparison.{Comparison}
use Rattle.mid_code.specs.declared.operation.Comparison.TheVariants.{Equal, Different, AtLeast, LessUnsigned, AtLeastUnsigned}
use Rattle.mid_code.specs.declared.operation.Counted.TheVariants.{Turn}
use Rattle.mid_code.specs.declared.operation.Operation.TheVariants as operation
use Rattle.mid_code.specs.declared.operation.Test.{Test}
use Rattle.mid_code.specs.MidCode.{MidStep, perform, choose, repeat, return_word, no_step, code_of}
use Rattle.mid_arena.specs.declared.line.Line.{Line}
use Rattle.mid_arena.specs.declared.line.Line.TheVariants as line
use Rattle.mid_arena.specs.Tags.{nil_word, signal_word, instance_header, class_header, symbol_header, string_header, vector_header, function_header, generic_header}
use Rattle.mid_arena.specs.FixedWords.{class_address, true_address, pending_address}

-- single steps
abbrev pub constant : ℕ → ℕ → MidStep
constant to word = perform (operation.Constant to word)

abbrev pub compute : ℕ → Arithmetic → ℕ → ℕ → MidStep
compute to how first second = perform (operation.Compute to how first second)

abbrev pub load : ℕ → ℕ → ℤ → MidStep
load to base offset = perform (operation.Load to base offset)

abbrev pub store : ℕ → ℕ → ℤ → MidStep
store from base offset = perform (operation.Store from base offset)

abbrev pub comparing : Comparison → ℕ → ℕ → Test
comparing how first second = record { comparison = how; first = first; second = second }

-- one thing or another
abbrev pub either : Test → (first second : List MidStep) → MidStep
either test first second = choose test (code_of first) (code_of second)

-- with a word behind it
abbrev pub compute_by : ℕ → Arithmetic → ℕ → ℕ → List MidStep
compute_by to how first word = constant 6 word ∷ compute to how first 6 ∷ []

-- the address where the word of a class that is built in stands
abbrev at : ℕ → ℤ
at class = pos (class_address class)

-- A condition that was made is handed over: its address is in register 3, and 0 in register 5.
unfoldable pub hand_over : List MidStep
hand_over = constant 4 2 ∷ compute 3 which.Add 3 4 ∷ store 3 5 (pos pending_address) ∷ constant 4 signal_word ∷ return_word 4 ∷ []

-- so many words for an instance, with its header and its class; then its address is in register 3, and 0 in register 5
abbrev pub begin_instance : (words header : ℕ) → (class : ℤ) → List MidStep
begin_instance words header class =
    constant 3 words ∷ perform (operation.Request 3 3) ∷ constant 5 0
    ∷ constant 4 header ∷ store 4 3 (pos 0) ∷ load 4 5 class ∷ store 4 3 (pos 4) ∷ []

-- a condition without slots
unfoldable pub signal : (class : ℤ) → List MidStep
signal class = begin_instance 3 (instance_header 0) class ++ constant 4 nil_word ∷ store 4 3 (pos 8) ∷ hand_over

-- a domain error: the object, and the class that was expected
unfoldable pub domain_error : (of : ℕ) → (class : ℤ) → List MidStep
domain_error of class =
    begin_instance 5 (instance_header 2) (at domain_error_class)
    ++ store of 3 (pos 8) ∷ load 4 5 class ∷ store 4 3 (pos 12) ∷ constant 4 nil_word ∷ store 4 3 (pos 16) ∷ hand_over

-- the tag of a word, in the upper two bits of register 7
abbrev pub tag_bits : (of : ℕ) → List MidStep
tag_bits of = compute_by 7 which.ShiftLeft of 30

abbrev pub need_tag : (of bits : ℕ) → (class : ℤ) → List MidStep
need_tag of bits class = tag_bits of ++ constant 6 bits ∷ either (comparing Equal 7 6) [] (domain_error of class) ∷ []

-- the header of an object whose tag was tested is among so many from that one on
abbrev pub need_header_of : (of header count : ℕ) → (class : ℤ) → List MidStep
need_header_of of header count class =
    load 7 of (negsuc 1) ∷ compute_by 7 which.Subtract 7 header
    ++ constant 6 count ∷ either (comparing LessUnsigned 7 6) [] (domain_error of class) ∷ []

-- the lowest four bits of its header are those of an instance
abbrev pub need_instance_of : (of : ℕ) → (class : ℤ) → List MidStep
need_instance_of of class =
    load 7 of (negsuc 1) ∷ compute_by 7 which.ShiftLeft 7 28
    ++ constant 6 (instance_header 0 * 2 ^ 28) ∷ either (comparing Equal 7 6) [] (domain_error of class) ∷ []

unfoldable pub need_header : (of header count : ℕ) → (class : ℤ) → List MidStep
need_header of header count class = need_tag of (2 ^ 31) class ++ need_header_of of header count class

-- the word of a class that is built in, with 0 in register 5
abbrev pub fixed_class : (to : ℕ) → (class : ℤ) → List MidStep
fixed_class to class = load to 5 class ∷ []

-- one class where the word in a register is that one, else what follows
abbrev pub class_where : (to register word : ℕ) → (class : ℤ) → List MidStep → List MidStep
class_where to register word class otherwise =
    constant 6 word ∷ either (comparing Equal register 6) (fixed_class to class) otherwise ∷ []

-- one class where the word in register 7 is below another, else another class
abbrev pub class_below : (to word : ℕ) → (class other : ℤ) → List MidStep
class_below to word class other =
    constant 6 word ∷ either (comparing LessUnsigned 7 6) (fixed_class to class) (fixed_class to other) ∷ []

-- a class is of one of two classes, by its number
abbrev pub class_of_class : (to of : ℕ) → List MidStep
class_of_class to of = load 7 of (pos 2) ∷ class_below to (4 * 17) (at built_in_class_class) (at standard_class_class)

-- of an object that is no instance, with its header in register 7
unfoldable pub class_by_header : (to of : ℕ) → List MidStep
class_by_header to of =
    constant 6 class_header ∷ either (comparing Equal 7 6) (class_of_class to of)
    (class_where to 7 string_header (at string_class) (class_where to 7 vector_header (at vector_class)
    (class_where to 7 function_header (at function_class) (class_where to 7 generic_header (at generic_function_class)
    (class_below to symbol_header (at stream_class) (at symbol_class)))))) ∷ []

-- an instance has its class, with which it stands
unfoldable pub class_of_object : (to of : ℕ) → List MidStep
class_of_object to of =
    load 7 of (negsuc 1) ∷ compute_by 4 which.ShiftLeft 7 28
    ++ constant 6 (instance_header 0 * 2 ^ 28) ∷ either (comparing Equal 4 6) (load to of (pos 2) ∷ []) (class_by_header to of) ∷ []

unfoldable pub class_word : (to of : ℕ) → List MidStep
class_word to of =
    constant 5 0 ∷ tag_bits of
    ++ class_where to 7 0 (at integer_class)
    (class_where to 7 (2 ^ 30) (at cons_class)
    (constant 6 (2 ^ 31) ∷ either (comparing Equal 7 6) (class_of_object to of)
    (class_where to of nil_word (at null_class) (fixed_class to (at character_class))) ∷ []))

-- a loop of a routine
abbrev pub while_below : (first second : ℕ) → List MidStep → MidStep
while_below first second body = repeat Turn no_step (comparing LessUnsigned first second) (code_of body)

abbrev pub return_if : Test → ℕ → MidStep
return_if test from = either test (return_word from ∷ []) []

-- t or nil
abbrev pub says : Test → List MidStep
says test = constant 5 0 ∷ load 5 5 (pos true_address) ∷ return_if test 5 ∷ constant 5 nil_word ∷ return_word 5 ∷ []

-- whether the argument is an object with one of so many headers
abbrev pub says_header : (header count : ℕ) → List MidStep
says_header header count =
    tag_bits 0 ++ constant 6 (2 ^ 31) ∷ constant 5 nil_word ∷ return_if (comparing Different 7 6) 5
    ∷ load 7 0 (negsuc 1) ∷ compute_by 7 which.Subtract 7 header
    ++ constant 6 count ∷ return_if (comparing AtLeastUnsigned 7 6) 5 ∷ constant 5 0 ∷ load 5 5 (pos true_address) ∷ return_word 5 ∷ []

abbrev pub need_integer : (of : ℕ) → List MidStep
need_integer of = need_tag of 0 (at integer_class)

abbrev pub signal_unless : Test → (class : ℤ) → MidStep
signal_unless test class = either test [] (signal class)

-- an index is below the number of elements as a number without a sign
abbrev pub need_below : (of limit : ℕ) → MidStep
need_below of limit = signal_unless (comparing LessUnsigned of limit) (at program_error_class)

abbrev pub need_instance : (of : ℕ) → (class : ℤ) → List MidStep
need_instance of class = need_tag of (2 ^ 31) class ++ need_instance_of of class

-- the number of slots of an instance, as an integer
abbrev pub slot_count : (of : ℕ) → List MidStep
slot_count of = load 7 of (negsuc 1) ∷ compute_by 7 which.ShiftRight 7 4 ++ compute_by 7 which.ShiftLeft 7 2

-- the three words of a slot stand in its class behind the precedence list
abbrev pub slot_word : (offset : ℤ) → List MidStep
slot_word offset =
    load 4 0 (pos 2) ∷ load 5 4 (pos 18) ∷ compute 4 which.Add 4 5 ∷ compute_by 5 which.Multiply 1 3
    ++ compute 4 which.Add 4 5 ∷ load 5 4 offset ∷ return_word 5 ∷ []

abbrev pub steps_of : Line → List MidStep
steps_of (line.Set to word) = constant to word ∷ []
steps_of (line.Copy to from) = perform (operation.Move to from) ∷ []
steps_of (line.SetIf how first second to word) = either (comparing how first second) (constant to word ∷ []) [] ∷ []
steps_of (line.Compute to how first second) = compute to how first second ∷ []
steps_of (line.ComputeBy to how first word) = compute_by to how first word
steps_of (line.Load to base offset) = load to base offset ∷ []
steps_of (line.Store from base offset) = store from base offset ∷ []
steps_of (line.LoadFixed to address) = constant to 0 ∷ load to to address ∷ []
steps_of (line.StoreFixed from address) = constant 6 0 ∷ store from 6 address ∷ []
steps_of (line.Request to words) = perform (operation.Request to words) ∷ []
steps_of (line.Put from) = perform (operation.Put from) ∷ []
steps_of (line.Get to) = perform (operation.Get to) ∷ []
steps_of (line.Return from) = return_word from ∷ []
steps_of (line.ReturnIf how first second from) = return_if (comparing how first second) from ∷ []
steps_of (line.Says how first second) = says (comparing how first second)
steps_of (line.SaysHeader header count) = says_header header count
steps_of (line.NeedTag of bits class) = need_tag of bits class
steps_of line.NeedIntegers = need_integer 0 ++ need_integer 1
steps_of line.NeedLength = need_integer 0 ++ constant 6 0 ∷ either (comparing AtLeast 0 6) [] (domain_error 0 (at integer_class)) ∷ []
steps_of (line.NeedCharacter of) =
    compute_by 7 which.ShiftLeft of 24 ++ constant 6 (15 * 2 ^ 24)
    ∷ either (comparing Equal 7 6) [] (domain_error of (at character_class)) ∷ []
steps_of (line.NeedHeader of header count class) = need_header of header count class
steps_of (line.NeedInstance of class) = need_instance of class
steps_of (line.NeedSymbol of) =
    constant 6 nil_word ∷ either (comparing Equal of 6) [] (need_header of symbol_header 2 (at symbol_class)) ∷ []
steps_of (line.NeedIndex of index) = need_integer index ++ load 7 of (pos 2) ∷ need_below index 7 ∷ []
steps_of (line.NeedPlace of place) =
    need_instance of (at standard_object_class) ++ need_integer place ++ slot_count of ++ need_below place 7 ∷ []
steps_of (line.NeedTest how first second of class) = either (comparing how first second) [] (domain_error of class) ∷ []
steps_of (line.SignalUnless how first second class) = signal_unless (comparing how first second) class ∷ []
steps_of (line.Signal class) = signal class
steps_of (line.ClassWord to of) = class_word to of
steps_of (line.SlotWord offset) = slot_word offset
steps_of line.Fill = while_below 7 5 (store 4 7 (pos 8) ∷ compute_by 7 which.Add 7 4) ∷ []
steps_of line.CopyWords =
    while_below 7 5 (load 6 4 (pos 6) ∷ store 6 7 (pos 8) ∷ compute_by 7 which.Add 7 4 ++ compute_by 4 which.Add 4 4) ∷ []
steps_of line.SearchClass =
    while_below 5 3 (load 7 5 (pos 0)
    ∷ either (comparing Equal 7 4) (constant 7 0 ∷ load 7 7 (pos true_address) ∷ return_word 7 ∷ []) [] ∷ compute_by 5 which.Add 5 4) ∷ []
steps_of line.SearchSlot =
    while_below 5 7 (load 4 5 (pos 0) ∷ return_if (comparing Equal 4 1) 3 ∷ compute_by 5 which.Add 5 12 ++ compute_by 3 which.Add 3 4) ∷ []
