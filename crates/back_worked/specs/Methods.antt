-- Worked programs with generic functions, and the words that stand for these.
use Rattle.std.specs.Prelude.{ℕ, pos, ◌+◌, ◌*◌, false, List, [], ◌∷◌, ◌++◌, length, replicate}
use Rattle.lang_meaning.specs.declared.capture.Capture.TheVariants.{Method}
use Rattle.lang_meaning.specs.declared.program.LiteralRow.TheVariants as row
use Rattle.lang_meaning.specs.declared.program.Callee.TheVariants as callee
use Rattle.lang_meaning.specs.declared.program.Qualifier.TheVariants.{Primary}
use Rattle.lang_meaning.specs.declared.program.ProgramRows.{ProgramRows}
use Rattle.lang_meaning.specs.declared.primitive.Primitive.TheVariants.{Allocate}
use Rattle.lang_meaning.specs.Form.{literal, call, call_value, prim, next_method, sited}
use Rattle.lang_meaning.specs.model.View.{forms}
use Rattle.lang_meaning.specs.Values.{nil}
use Rattle.lang_meaning.specs.State.{unlimited}
use Rattle.lang_meaning.specs.Meaning.{with_value, by_class}
use Rattle.flat_language.specs.Flatten.{flat_program}
use Rattle.lang_worked.specs.ByHand.{name, a_number, a_char, a_lambda, a_procedure, a_class, built_in_rows, a_program, put, site_at, Doing}
use Rattle.lang_worked.specs.Calls.{method, methods_in_order, MethodsInOrder}
use Rattle.back_worked.specs.Start.{symbol_word, rest_from, DoesWith}

-- The words of a generic function of one argument, which is specialised for the classes 34 and 35, with their chains, at an address: of other
-- classes there is no chain.
abbrev pub one_argument : (at symbol : ℕ) → (first second : List ℕ) → List ℕ
one_argument at symbol first second =
    2 ∷ symbol ∷ 1 ∷ 0 ∷ (at + 32)
    ∷ 0 ∷ (at + 176) ∷ (at + 176 + 4 * length first)
    ∷ (replicate 34 0 ++ (4 ∷ 8 ∷ (first ++ second)))

abbrev pub here : List (List ℕ) → ProgramRows → ℕ
here names program = rest_from names (flat_program program)

-- before, after, primary; and around, before the most specific first, after the least specific first, primary
abbrev pub InOrder : Type 0
InOrder =
    MethodsInOrder (DoesWith (here ((103 ∷ []) ∷ []) methods_in_order ∷ [])
    (one_argument (here ((103 ∷ []) ∷ []) methods_in_order) (symbol_word ((103 ∷ []) ∷ []) (flat_program methods_in_order) 0)
    (101 ∷ 17 ∷ 34 ∷ 3 ∷ 4 ∷ []) (48 ∷ 165 ∷ 25 ∷ 17 ∷ 34 ∷ 42 ∷ 11 ∷ 3 ∷ 4 ∷ [])))

abbrev pub g_names : List (List ℕ)
g_names = (103 ∷ []) ∷ []

-- (defmethod g ((x <a>)) (format-char (standard-output) #\1))
-- (defmethod g ((x <b>)) (format-char (standard-output) #\2) (funcall (lambda () (call-next-method)))), and g of an instance of a class
abbrev pub captured_method : ℕ → ProgramRows
captured_method class = record (a_program (a_char 49 ∷ row.Class class ∷ a_char 50 ∷ [])
    (a_procedure (0 ∷ []) (put 0 ∷ []) ∷ a_procedure (1 ∷ []) (put 2 ∷ call_value (forms (a_lambda [] (next_method ∷ []) (Method ∷ []) ∷ [])) ∷ []) ∷ [])
    (record { name = name 0; callee = callee.Generic 0 } ∷ [])
    (sited 1 (call 0 (forms (prim Allocate (forms (literal 1 ∷ [])) ∷ []))) ∷ [])) {
      classes = built_in_rows ++ a_class (34 ∷ 17 ∷ 0 ∷ []) ∷ a_class (35 ∷ 34 ∷ 17 ∷ 0 ∷ []) ∷ [];
      generics = record { name = name 0; required = 1; rest = false; methods = method Primary 34 0 ∷ method Primary 35 1 ∷ [] } ∷ [];
    }

abbrev pub captured_words : ℕ → List ℕ
captured_words class =
    one_argument (here g_names (captured_method class)) (symbol_word g_names (flat_program (captured_method class)) 0)
    (3 ∷ 4 ∷ 4 ∷ 4 ∷ []) (11 ∷ 3 ∷ 4 ∷ [])

-- the function that the method made runs the next method
abbrev pub CapturedMethod : Type 0
CapturedMethod =
    DoesWith (here g_names (captured_method 35) ∷ []) (captured_words 35) g_names (captured_method 35) 6 unlimited (with_value nil) (50 ∷ 49 ∷ [])

-- a generic function without a method for its argument is undefined
abbrev pub NoMethod : Type 0
NoMethod =
    DoesWith (here g_names (captured_method 25) ∷ []) (captured_words 25) g_names (captured_method 25) 6 unlimited (by_class 32 (site_at 1)) []
