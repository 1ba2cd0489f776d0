-- What is told of a condition that no handler took (ISO/IEC 13816:2007, 29.1): its slots in order. A slot is told as its value is printed so that it can be
-- read again, where that is a datum of at most 100 parts; a class by its name; any other value by that of its class.
use Rattle.std.specs.Prelude.{◌≡◌, ℕ, List, [], ◌∷◌, ◌++◌, Option, Some, None, slice_get, codes}
use Rattle.lang_meaning.specs.declared.program.ClassRow.{ClassRow}
use Rattle.lang_meaning.specs.Values.{Value, integer, character, symbol, nil, object}
use Rattle.lang_meaning.specs.Objects.{Object, cons, string, vector, instance, function, closure, generic_function, class_object, input_stream, output_stream, fresh_symbol}
use Rattle.lang_meaning.specs.Objects.{integer_class, character_class, symbol_class, null_class}
use Rattle.lang_meaning.specs.Classes.{class_of_object}
use Rattle.lang_meaning.specs.Primitives.{class_name}
use Rattle.lang_taken.specs.Shapes.{shape_of}
use Rattle.lang_told.specs.Written.{Writes, IsUnwritten}

-- of so many parts at most, where a string has one, and one for four bytes begun
abbrev pub most_parts : ℕ
most_parts = 100

-- the class of a value by its number
abbrev pub class_at : List Object → Value → ℕ
class_at objects (integer n) = integer_class
class_at objects (character c) = character_class
class_at objects (symbol s) = symbol_class
class_at objects nil = null_class
class_at objects (object i) = class_of_object (slice_get objects i)

-- which class a value is, if it is one
abbrev pub class_of_class : Option Object → Option ℕ
class_of_class None = None
class_of_class (Some (cons car cdr)) = None
class_of_class (Some (string bytes)) = None
class_of_class (Some (vector elements)) = None
class_of_class (Some (instance class slots mark)) = None
class_of_class (Some (function procedure)) = None
class_of_class (Some (closure required rest body environment)) = None
class_of_class (Some (generic_function generic)) = None
class_of_class (Some (class_object class)) = Some class
class_of_class (Some input_stream) = None
class_of_class (Some output_stream) = None
class_of_class (Some (fresh_symbol serial)) = None

abbrev pub which_class : List Object → Value → Option ℕ
which_class objects (integer n) = None
which_class objects (character c) = None
which_class objects (symbol s) = None
which_class objects nil = None
which_class objects (object i) = class_of_class (slice_get objects i)

-- the slots of an instance, each with its value if it has one; none of what is no instance
abbrev pub slots_of_object : Option Object → List (Option Value)
slots_of_object None = []
slots_of_object (Some (cons car cdr)) = []
slots_of_object (Some (string bytes)) = []
slots_of_object (Some (vector elements)) = []
slots_of_object (Some (instance class slots mark)) = slots
slots_of_object (Some (function procedure)) = []
slots_of_object (Some (closure required rest body environment)) = []
slots_of_object (Some (generic_function generic)) = []
slots_of_object (Some (class_object class)) = []
slots_of_object (Some input_stream) = []
slots_of_object (Some output_stream) = []
slots_of_object (Some (fresh_symbol serial)) = []

abbrev pub slots_at : List Object → Value → List (Option Value)
slots_at objects (integer n) = []
slots_at objects (character c) = []
slots_at objects (symbol s) = []
slots_at objects nil = []
slots_at objects (object i) = slots_of_object (slice_get objects i)

module _ (names : List (List ℕ)) (classes : List ClassRow) (objects : List Object) where
  -- the name of a class by its number
  abbrev pub name_at : ℕ → List ℕ
  name_at class = class_name names (slice_get classes class)

  pub data TellsValue : Value → List ℕ → Type 0 where
    tells_class : (v : Value) (class : ℕ) → which_class objects v ≡ Some class → TellsValue v (name_at class)
    tells_datum : (v : Value) (text : List ℕ) (rest : ℕ) → Writes objects most_parts (shape_of objects v) text rest → TellsValue v text
    tells_other :
        (v : Value) → which_class objects v ≡ None → IsUnwritten objects most_parts (shape_of objects v)
        → TellsValue v (codes "#" ++ name_at (class_at objects v))

  pub data TellsSlot : Option Value → List ℕ → Type 0 where
    tells_value : (v : Value) (text : List ℕ) → TellsValue v text → TellsSlot (Some v) text
    tells_unbound : TellsSlot None (codes "#<unbound>")

  -- each behind a blank
  pub data TellsSlots : List (Option Value) → List ℕ → Type 0 where
    no_slot : TellsSlots [] []
    a_slot :
        (slot : Option Value) (slots : List (Option Value)) (text texts : List ℕ) → TellsSlot slot text → TellsSlots slots texts
        → TellsSlots (slot ∷ slots) (codes " " ++ (text ++ texts))

  -- behind a colon, if there are any
  abbrev pub behind_colon : List ℕ → List ℕ
  behind_colon [] = []
  behind_colon (b ∷ bs) = codes ":" ++ (b ∷ bs)

  -- **what is told of a condition**
  pub record Tells (condition : Value) (told : List ℕ) : Type 0 where
    pub text : List ℕ
    pub slots : TellsSlots (slots_at objects condition) text
    pub told_is : told ≡ behind_colon text
