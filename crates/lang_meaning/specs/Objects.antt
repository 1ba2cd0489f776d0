-- Objects (ISO/IEC 13816:2007, 15), and what functions keep of the place where they were made.
use Rattle.std.specs.Prelude.{ℕ, List, [], Option, None}
use Rattle.lang_meaning.specs.Form.{Form}
use Rattle.lang_meaning.specs.Values.{Value}

-- the methods that a call still has to run, by their procedures (ISO/IEC 13816:2007, 15.3.4); after
-- a primary method only primary methods are left
pub record Chain : Type 0 where
  pub around : List ℕ
  pub before : List ℕ
  pub primary : List ℕ
  pub after : List ℕ

-- inside a method: the arguments with which it was called, and the rest of the chain
pub record Called : Type 0 where
  pub arguments : List Value
  pub rest : Chain

-- the environment, innermost first: for each variable its number in the state's list of variables, for
-- each exit its number, and what the method around was called with
pub record Environment : Type 0 where
  pub variables : List (ℕ × ℕ)
  pub exits : List (ℕ × ℕ)
  pub method : Option Called

abbrev pub no_environment : Environment
no_environment = record { variables = []; exits = []; method = None }

pub data Object : Type 0 where
  cons : (car cdr : Value) → Object
  string : List ℕ → Object
  vector : List Value → Object
  -- an instance of a class: its slots, which hold a value or nothing, and a condition's mark
  instance : (class : ℕ) → (slots : List (Option Value)) → (mark : Value) → Object
  -- the function of a definition, by its procedure
  function : (procedure : ℕ) → Object
  -- a function that a `lambda` made: its variables, its body, and the environment in which it was made
  closure : (required : List ℕ) → (rest : Option ℕ) → (body : Form) → Environment → Object
  -- a generic function and a class, by their numbers
  generic_function : ℕ → Object
  class_object : ℕ → Object
  input_stream : Object
  output_stream : Object
  -- a symbol that the program made, by its serial
  fresh_symbol : ℕ → Object

-- the number of built-in classes
abbrev pub built_in_classes : ℕ
built_in_classes = 34

-- the built-in classes that rules name, by their numbers
abbrev pub vector_class : ℕ
vector_class = 3

abbrev pub string_class : ℕ
string_class = 4

abbrev pub character_class : ℕ
character_class = 5

abbrev pub function_class : ℕ
function_class = 6

abbrev pub generic_function_class : ℕ
generic_function_class = 7

abbrev pub list_class : ℕ
list_class = 8

abbrev pub cons_class : ℕ
cons_class = 9

abbrev pub symbol_class : ℕ
symbol_class = 10

abbrev pub null_class : ℕ
null_class = 11

abbrev pub integer_class : ℕ
integer_class = 13

abbrev pub stream_class : ℕ
stream_class = 14

abbrev pub built_in_class_class : ℕ
built_in_class_class = 15

abbrev pub standard_class_class : ℕ
standard_class_class = 16

abbrev pub standard_object_class : ℕ
standard_object_class = 17

abbrev pub serious_condition_class : ℕ
serious_condition_class = 18

abbrev pub control_error_class : ℕ
control_error_class = 22

abbrev pub program_error_class : ℕ
program_error_class = 24

abbrev pub division_by_zero_class : ℕ
division_by_zero_class = 27

abbrev pub integer_overflow_class : ℕ
integer_overflow_class = 28

abbrev pub domain_error_class : ℕ
domain_error_class = 29

abbrev pub unbound_variable_class : ℕ
unbound_variable_class = 31

abbrev pub undefined_function_class : ℕ
undefined_function_class = 32
