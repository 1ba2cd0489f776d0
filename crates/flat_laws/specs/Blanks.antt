-- What of an object no program changes: its kind and its size, and the class of an instance.
use Rattle.std.specs.Prelude.{◌≡◌, ℕ, Bool, true, false, List, length, replicate, Option, Some, None}
use Rattle.lang_meaning.specs.Values.{Value, nil}
use Rattle.lang_meaning.specs.Objects.{Object, cons, string, vector, instance, function, closure, generic_function, class_object, input_stream, output_stream, fresh_symbol}
use Rattle.lang_meaning.specs.Classes.{class_of_object}

-- an object in which nothing is set; one in which nothing can be set is itself
abbrev pub blank : Option Object → Option Object
blank (Some (cons a d)) = Some (cons nil nil)
blank (Some (string bytes)) = Some (string (replicate (length bytes) 0))
blank (Some (vector vs)) = Some (vector (replicate (length vs) nil))
blank (Some (instance class slots mark)) = Some (instance class (replicate (length slots) None) nil)
blank (Some (function p)) = Some (function p)
blank (Some (closure required rest body env)) = Some (closure required rest body env)
blank (Some (generic_function g)) = Some (generic_function g)
blank (Some (class_object c)) = Some (class_object c)
blank (Some input_stream) = Some input_stream
blank (Some output_stream) = Some output_stream
blank (Some (fresh_symbol serial)) = Some (fresh_symbol serial)
blank None = None

-- whether nothing can be set in an object
abbrev pub is_fixed : Option Object → Bool
is_fixed (Some (cons a d)) = false
is_fixed (Some (string bytes)) = false
is_fixed (Some (vector vs)) = false
is_fixed (Some (instance class slots mark)) = false
is_fixed o = true

-- what is the same of an object before and after: the class; all, where nothing can be set in it; and else the kind, with the
-- number of characters, elements or slots
pub record StaysOfKind (before after : Option Object) : Type 0 where
  pub class : class_of_object after ≡ class_of_object before
  pub fixed : is_fixed before ≡ true → after ≡ before
  pub pair : (a d : Value) → before ≡ Some (cons a d) → (b : Value) × ((e : Value) × (after ≡ Some (cons b e)))
  pub characters : (bytes : List ℕ) → before ≡ Some (string bytes)
      → (now : List ℕ) × (after ≡ Some (string now) × length now ≡ length bytes)
  pub elements : (vs : List Value) → before ≡ Some (vector vs)
      → (now : List Value) × (after ≡ Some (vector now) × length now ≡ length vs)
  pub slots : (c : ℕ) (vs : List (Option Value)) (mark : Value) → before ≡ Some (instance c vs mark)
      → (now : List (Option Value)) × ((new : Value) × (after ≡ Some (instance c now new) × length now ≡ length vs))
