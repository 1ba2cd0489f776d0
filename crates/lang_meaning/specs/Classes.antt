-- Classes, and the methods that a call runs (ISO/IEC 13816:2007, 15).
use Rattle.std.specs.Prelude.{ℕ, ◌==◌, Bool, true, false, ◌&&◌, nat_le, nat_lt, List, [], ◌∷◌, Option, Some, None, map, filter, reverse, slice_get, if◌then◌else◌}
use Rattle.std.specs.List.{position_or_len}
use Rattle.lang_meaning.specs.declared.program.ProgramRows.{ProgramRows}
use Rattle.lang_meaning.specs.declared.program.ClassRow.{ClassRow}
use Rattle.lang_meaning.specs.declared.program.SlotRow.{SlotRow}
use Rattle.lang_meaning.specs.declared.program.GenericRow.{GenericRow}
use Rattle.lang_meaning.specs.declared.program.MethodRow.{MethodRow}
use Rattle.lang_meaning.specs.declared.program.Qualifier.{Qualifier}
use Rattle.lang_meaning.specs.declared.program.Qualifier.TheVariants.{Primary, Around, Before, After}
use Rattle.lang_meaning.specs.Values.{Value, integer, character, symbol, nil, object}
use Rattle.lang_meaning.specs.Objects.{Object, cons, string, vector, instance, function, closure, generic_function, class_object, input_stream, output_stream, fresh_symbol, Chain}
use Rattle.lang_meaning.specs.Objects.{vector_class, string_class, character_class, function_class, generic_function_class, cons_class, symbol_class, null_class, integer_class, stream_class, built_in_class_class, standard_class_class, serious_condition_class}
use Rattle.lang_meaning.specs.State.{State}
use Rattle.lang_meaning.specs.Lookup.{is_in}

-- the class of a value (ISO/IEC 13816:2007, 15.5). In this profile the classes numbered 0 to 16 are of
-- `<built-in-class>`, and all others of `<standard-class>`.
abbrev pub class_of_object : Option Object → ℕ
class_of_object (Some (cons a d)) = cons_class
class_of_object (Some (string bytes)) = string_class
class_of_object (Some (vector vs)) = vector_class
class_of_object (Some (instance c slots mark)) = c
class_of_object (Some (function p)) = function_class
class_of_object (Some (closure vs rest body env)) = function_class
class_of_object (Some (generic_function g)) = generic_function_class
class_of_object (Some (class_object c)) = if nat_le c 16 then built_in_class_class else standard_class_class
class_of_object (Some input_stream) = stream_class
class_of_object (Some output_stream) = stream_class
class_of_object (Some (fresh_symbol s)) = symbol_class
class_of_object None = 0

-- the object of a value, where it is one
abbrev pub fetch : State → Value → Option Object
fetch z (object i) = slice_get z.store i
fetch z (integer n) = None
fetch z (character c) = None
fetch z (symbol s) = None
fetch z nil = None

abbrev pub class_of : State → Value → ℕ
class_of z (integer n) = integer_class
class_of z (character c) = character_class
class_of z (symbol s) = symbol_class
class_of z nil = null_class
class_of z (object i) = class_of_object (slice_get z.store i)

-- the rows of a class
abbrev pub precedence_of : Option ClassRow → List ℕ
precedence_of (Some row) = row.precedence
precedence_of None = []

abbrev pub slots_of : Option ClassRow → List SlotRow
slots_of (Some row) = row.slots
slots_of None = []

-- the precedence list of a class: the class itself, and those above it
abbrev pub precedence : ProgramRows → ℕ → List ℕ
precedence program c = precedence_of (slice_get program.classes c)

abbrev pub slots : ProgramRows → ℕ → List SlotRow
slots program c = slots_of (slice_get program.classes c)

-- whether a class is that one or below it
abbrev pub is_below : ProgramRows → ℕ → ℕ → Bool
is_below program c above = is_in above (precedence program c)

-- conditions are the instances of classes below `<serious-condition>` (ISO/IEC 13816:2007, 29.1)
abbrev pub is_condition : ProgramRows → State → Value → Bool
is_condition program z v = is_below program (class_of z v) serious_condition_class

-- methods

-- a method applies where each argument's precedence list holds the method's class
abbrev pub applies : ProgramRows → List ℕ → List ℕ → Bool
applies program [] [] = true
applies program [] (m ∷ ms) = false
applies program (c ∷ cs) [] = false
applies program (c ∷ cs) (m ∷ ms) = is_below program c m && applies program cs ms

-- one method is more specific than another where, at the first argument whose classes differ, its class
-- stands earlier in the precedence list of that argument's class
abbrev pub more_specific : ProgramRows → List ℕ → List ℕ → List ℕ → Bool
more_specific program (c ∷ cs) (m ∷ ms) (n ∷ ns) =
    if m == n then more_specific program cs ms ns
    else nat_lt (position_or_len (λ d. d == m) (precedence program c)) (position_or_len (λ d. d == n) (precedence program c))
more_specific program cs ms ns = false

-- the methods ordered, the most specific one first
abbrev pub among : (MethodRow → MethodRow → Bool) → MethodRow → List MethodRow → List MethodRow
among before m [] = m ∷ []
among before m (n ∷ ns) = if before m n then m ∷ n ∷ ns else n ∷ among before m ns

abbrev pub ordered : (MethodRow → MethodRow → Bool) → List MethodRow → List MethodRow
ordered before [] = []
ordered before (m ∷ ms) = among before m (ordered before ms)

abbrev pub applicable : ProgramRows → List ℕ → List MethodRow → List MethodRow
applicable program cs ms =
    ordered (λ m n. more_specific program cs m.classes n.classes) (filter (λ m. applies program cs m.classes) ms)

abbrev pub is_qualifier : Qualifier → Qualifier → Bool
is_qualifier Primary Primary = true
is_qualifier Around Around = true
is_qualifier Before Before = true
is_qualifier After After = true
is_qualifier a b = false

-- the procedures of the methods of a kind
abbrev pub of_kind : Qualifier → List MethodRow → List ℕ
of_kind q ms = map (λ m. m.procedure) (filter (λ m. is_qualifier q m.qualifier) ms)

-- the chain of ordered methods (ISO/IEC 13816:2007, 15.3.4): there is none without a primary method
abbrev pub chain_of : List MethodRow → List ℕ → Option Chain
chain_of ms [] = None
chain_of ms (p ∷ ps) = Some (record {
  around = of_kind Around ms;
  before = of_kind Before ms;
  primary = p ∷ ps;
  after = reverse (of_kind After ms);
})

-- the chain of a call, by the classes of its required arguments
abbrev pub chain : ProgramRows → GenericRow → List ℕ → Option Chain
chain program g cs = chain_of (applicable program cs g.methods) (of_kind Primary (applicable program cs g.methods))
