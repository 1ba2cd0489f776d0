-- Worked programs: methods and dynamic variables (ISO/IEC 13816:2007, 14.3 and 15.3), and charges.
use Rattle.std.specs.Prelude.{◌≡◌, ℕ, pos, false, [], ◌∷◌, ◌++◌, ◌+◌, ◌*◌}
use Rattle.lang_meaning.specs.declared.program.LiteralRow.TheVariants as row
use Rattle.lang_meaning.specs.declared.program.Callee.TheVariants as callee
use Rattle.lang_meaning.specs.declared.program.Qualifier.{Qualifier}
use Rattle.lang_meaning.specs.declared.program.Qualifier.TheVariants.{Primary, Around, Before, After}
use Rattle.lang_meaning.specs.declared.program.MethodRow.{MethodRow}
use Rattle.lang_meaning.specs.declared.program.ProgramRows.{ProgramRows}
use Rattle.lang_meaning.specs.declared.primitive.Primitive.TheVariants.{Subtract, Multiply, Cons, Allocate}
use Rattle.lang_meaning.specs.Form.{literal, local, call, call_value, prim, dynamic_let, dynamic, def_dynamic, next_method, no_dynamic, dynamic_and}
use Rattle.lang_meaning.specs.model.View.{forms}
use Rattle.lang_meaning.specs.Values.{integer, nil}
use Rattle.lang_meaning.specs.State.{words, unlimited}
use Rattle.lang_meaning.specs.Meaning.{with_value, for_words, meaning}
use Rattle.lang_worked.specs.ByHand.{name, a_number, a_char, a_lambda, a_procedure, a_function, a_class, built_in_rows, a_program, put, body, Doing}

-- (defclass <a> () ()) (defclass <b> (<a>) ()) (defgeneric g (x)), and methods of g that put a character each:
-- for <a> a primary one, 1, one before, 3, and one after, 5; for <b> a primary one, 2, and then the next
-- method, one before, 4, one after, 6, and one around, which puts parentheses round the next method
abbrev pub method : Qualifier → ℕ → ℕ → MethodRow
method q c p = record { qualifier = q; classes = c ∷ []; procedure = p }

-- (g (create (class <b>)))
abbrev pub methods_in_order : ProgramRows
methods_in_order = record (a_program
    (a_char 49 ∷ a_char 50 ∷ a_char 51 ∷ a_char 52 ∷ a_char 53 ∷ a_char 54 ∷ a_char 40 ∷ a_char 41 ∷ row.Class 35 ∷ [])
    (a_procedure (0 ∷ []) (put 0 ∷ [])
    ∷ a_procedure (1 ∷ []) (put 1 ∷ next_method ∷ [])
    ∷ a_procedure (2 ∷ []) (put 2 ∷ [])
    ∷ a_procedure (3 ∷ []) (put 3 ∷ [])
    ∷ a_procedure (4 ∷ []) (put 4 ∷ [])
    ∷ a_procedure (5 ∷ []) (put 5 ∷ [])
    ∷ a_procedure (6 ∷ []) (put 6 ∷ next_method ∷ put 7 ∷ []) ∷ [])
    (record { name = name 0; callee = callee.Generic 0 } ∷ [])
    (call 0 (forms (prim Allocate (forms (literal 8 ∷ [])) ∷ [])) ∷ [])) {
      classes = built_in_rows ++ a_class (34 ∷ 17 ∷ 0 ∷ []) ∷ a_class (35 ∷ 34 ∷ 17 ∷ 0 ∷ []) ∷ [];
      generics = record {
        name = name 0;
        required = 1;
        rest = false;
        methods = method Primary 34 0 ∷ method Primary 35 1 ∷ method Before 34 2 ∷ method Before 35 3 ∷ method After 34 4 ∷ method After 35 5 ∷ method Around 35 6 ∷ [];
      } ∷ [];
    }

-- around, before the most specific first, primary, after the least specific first: (432156)
abbrev pub MethodsInOrder : Doing → Type 0
MethodsInOrder does = does ((103 ∷ []) ∷ []) methods_in_order 4 unlimited (with_value nil) (40 ∷ 52 ∷ 51 ∷ 50 ∷ 49 ∷ 53 ∷ 54 ∷ 41 ∷ [])

-- (defdynamic d 1) (defun f () (dynamic d)) (- (* 10 (dynamic-let ((d 2)) (f))) (f))
abbrev pub seen_through_a_call : ProgramRows
seen_through_a_call = a_program (a_number 1 ∷ a_number 2 ∷ a_number 10 ∷ [])
    (a_procedure [] (dynamic 0 ∷ []) ∷ []) (a_function 1 0 ∷ [])
    (def_dynamic 0 (literal 0)
    ∷ prim Subtract (forms (
    prim Multiply (forms (literal 2 ∷ dynamic_let (dynamic_and 0 (literal 1) no_dynamic) (body (call 1 (forms []) ∷ [])) ∷ []))
    ∷ call 1 (forms []) ∷ [])) ∷ [])

-- a dynamic binding is seen through a call, and ends with its form
abbrev pub SeenThroughACall : Doing → Type 0
SeenThroughACall does = does ((100 ∷ []) ∷ (102 ∷ []) ∷ []) seen_through_a_call 1 unlimited (with_value (integer (pos 19))) []

-- ((lambda (x) x) 1)
abbrev pub one_application : ProgramRows
one_application = a_program (a_number 1 ∷ []) [] []
    (call_value (forms (a_lambda (0 ∷ []) (local 0 ∷ []) [] ∷ literal 0 ∷ [])) ∷ [])

-- Units: 3 for the call, its operator and its argument, 1 for the `lambda` and 2 for the words of the function, 1 for the
-- literal, 1 for the argument with which the application is entered, 2 for the body and the variable.
-- Words: the main form has 5 nodes, so 16 + 16 * 5 of the stack; then 2 of the heap for the function; then
-- 16 + 16 * 2 + 1 of the stack for the application with its argument.
abbrev pub OneApplication : Type 0
OneApplication =
    ((meaning [] one_application [] 1 unlimited).units ≡ 3 + (1 + 2) + 1 + 1 + 2)
    × ((meaning [] one_application [] 1 unlimited).peak ≡ (16 + 16 * 5) + 2 + (16 + 16 * 2 + 1))

-- (cons 1 1): the main form has 5 nodes, so it asks for 96 words, and the cons for 2 more
abbrev pub one_cons : ProgramRows
one_cons = a_program (a_number 1 ∷ []) [] [] (prim Cons (forms (literal 0 ∷ literal 0 ∷ [])) ∷ [])

-- with 95 words the main form does not fit, with 97 the cons does not
abbrev pub FullAtTheForm : Doing → Type 0
FullAtTheForm does = does [] one_cons 0 (words 95) (for_words 96 95) []

abbrev pub FullAtTheCons : Doing → Type 0
FullAtTheCons does = does [] one_cons 0 (words 97) (for_words 2 1) []
