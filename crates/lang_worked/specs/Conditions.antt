-- Worked programs: conditions and handlers (ISO/IEC 13816:2007, 29).
use Rattle.std.specs.Prelude.{ℕ, pos, [], ◌∷◌}
use Rattle.lang_meaning.specs.declared.program.LiteralRow.TheVariants as row
use Rattle.lang_meaning.specs.declared.program.ProgramRows.{ProgramRows}
use Rattle.lang_meaning.specs.declared.primitive.Primitive.TheVariants.{Add, Divide, Car, Allocate}
use Rattle.lang_meaning.specs.Form.{Form, literal, local, prim, unwind, catch_form, throw, with_handler, signal_form, continue_form, sited}
use Rattle.lang_meaning.specs.model.View.{forms}
use Rattle.lang_meaning.specs.Values.{integer}
use Rattle.lang_meaning.specs.State.{unlimited}
use Rattle.lang_meaning.specs.Meaning.{with_value, by_class}
use Rattle.lang_worked.specs.ByHand.{a_number, a_char, a_symbol, a_nil, a_lambda, a_program, put, body, site_at, Doing}

-- (%allocate (class <simple-error>)), with the literal of the class
abbrev pub an_error : ℕ → Form
an_error id = prim Allocate (forms (literal id ∷ []))

-- (catch 'k
--   (with-handler (lambda (c) (format-char (standard-output) #\o) (throw 'k 1))
--     (with-handler (lambda (c) (format-char (standard-output) #\i) (signal-condition (%allocate (class <simple-error>)) nil))
--       (signal-condition (%allocate (class <simple-error>)) nil))))
abbrev pub without_itself : ProgramRows
without_itself = a_program (a_symbol 0 ∷ a_char 111 ∷ a_char 105 ∷ row.Class 25 ∷ a_nil ∷ a_number 1 ∷ []) [] []
    (catch_form (literal 0) (body (
    with_handler (a_lambda (0 ∷ []) (put 1 ∷ throw (literal 0) (literal 5) ∷ []) []) (body (
    with_handler (a_lambda (1 ∷ []) (put 2 ∷ signal_form (an_error 3) (literal 4) ∷ []) []) (body (signal_form (an_error 3) (literal 4) ∷ [])) ∷ [])) ∷ [])) ∷ [])

-- while a handler runs, it and those inside it are not active: io is printed, and each handler runs once
abbrev pub WithoutItself : Doing → Type 0
WithoutItself does = does ((107 ∷ []) ∷ []) without_itself 3 unlimited (with_value (integer (pos 1))) (105 ∷ 111 ∷ [])

-- (with-handler (lambda (c) (unwind-protect (continue-condition c 7) (format-char (standard-output) #\u)))
--   (+ 1 (signal-condition (%allocate (class <simple-error>)) t)))
abbrev pub continued : ProgramRows
continued = a_program (a_number 7 ∷ a_char 117 ∷ a_number 1 ∷ row.Class 25 ∷ a_symbol 0 ∷ []) [] []
    (with_handler (a_lambda (0 ∷ []) (unwind (continue_form (local 0) (literal 0)) (body (put 1 ∷ [])) ∷ []) []) (body (prim Add (forms (literal 2 ∷ signal_form (an_error 3) (literal 4) ∷ [])) ∷ [])) ∷ [])

-- the cleanups between handler and signal run, and the signal gives the value
abbrev pub Continued : Doing → Type 0
Continued does = does ((116 ∷ []) ∷ []) continued 1 unlimited (with_value (integer (pos 8))) (117 ∷ [])

-- the same with the mark nil: the condition is not continuable, a control error at site 1
abbrev pub not_continuable : ProgramRows
not_continuable = a_program (a_number 7 ∷ a_char 117 ∷ a_number 1 ∷ row.Class 25 ∷ a_nil ∷ []) [] []
    (with_handler (a_lambda (0 ∷ []) (unwind (sited 1 (continue_form (local 0) (literal 0))) (body (put 1 ∷ [])) ∷ []) []) (body (prim Add (forms (literal 2 ∷ signal_form (an_error 3) (literal 4) ∷ [])) ∷ [])) ∷ [])

abbrev pub NotContinuable : Doing → Type 0
NotContinuable does = does [] not_continuable 1 unlimited (by_class 22 (site_at 1)) (117 ∷ [])

-- (with-handler (lambda (c) 5) (signal-condition (%allocate (class <simple-error>)) nil)), the signal at site 1
abbrev pub returning : ProgramRows
returning = a_program (a_number 5 ∷ row.Class 25 ∷ a_nil ∷ []) [] []
    (with_handler (a_lambda (0 ∷ []) (literal 0 ∷ []) []) (body (sited 1 (signal_form (an_error 1) (literal 2)) ∷ [])) ∷ [])

-- a handler that returns is a control error
abbrev pub Returning : Doing → Type 0
Returning does = does [] returning 1 unlimited (by_class 22 (site_at 1)) []

-- (unwind-protect (car nil) (format-char (standard-output) #\c)), `(car nil)` at site 1
abbrev pub cleanup_runs : ProgramRows
cleanup_runs = a_program (a_nil ∷ a_char 99 ∷ []) [] []
    (unwind (sited 1 (prim Car (forms (literal 0 ∷ [])))) (body (put 1 ∷ [])) ∷ [])

-- an unhandled condition runs the cleanups
abbrev pub CleanupRuns : Doing → Type 0
CleanupRuns does = does [] cleanup_runs 0 unlimited (by_class 29 (site_at 1)) (99 ∷ [])

-- (catch 'k (unwind-protect (car nil) (throw 'k 1))), `throw` at site 2
abbrev pub no_catch_left : ProgramRows
no_catch_left = a_program (a_symbol 0 ∷ a_nil ∷ a_number 1 ∷ []) [] []
    (catch_form (literal 0) (body (
    unwind (sited 1 (prim Car (forms (literal 1 ∷ [])))) (body (sited 2 (throw (literal 0) (literal 2)) ∷ [])) ∷ [])) ∷ [])

-- an unhandled condition goes to the outermost exit, so no catch inside it is valid in its cleanups
abbrev pub NoCatchLeft : Doing → Type 0
NoCatchLeft does = does ((107 ∷ []) ∷ []) no_catch_left 0 unlimited (by_class 22 (site_at 2)) []

-- (unwind-protect (unwind-protect (car nil) (format-char (standard-output) #\a) (div 1 0))
--     (format-char (standard-output) #\b)), `(div 1 0)` at site 2
abbrev pub replaced : ProgramRows
replaced = a_program (a_nil ∷ a_char 97 ∷ a_char 98 ∷ a_number 1 ∷ a_number 0 ∷ []) [] []
    (unwind
    (unwind (sited 1 (prim Car (forms (literal 0 ∷ []))))
    (body (put 1 ∷ sited 2 (prim Divide (forms (literal 3 ∷ literal 4 ∷ []))) ∷ [])))
    (body (put 2 ∷ [])) ∷ [])

-- an unhandled condition of a cleanup replaces the pending one
abbrev pub Replaced : Doing → Type 0
Replaced does = does [] replaced 0 unlimited (by_class 27 (site_at 2)) (97 ∷ 98 ∷ [])

-- (with-handler (lambda (c) (format-char (standard-output) #\h) (div 1 0))
--     (unwind-protect (car nil) (format-char (standard-output) #\c))), `(div 1 0)` at site 2
abbrev pub handler_fails : ProgramRows
handler_fails = a_program (a_char 104 ∷ a_number 1 ∷ a_number 0 ∷ a_nil ∷ a_char 99 ∷ []) [] []
    (with_handler (a_lambda (0 ∷ []) (put 0 ∷ sited 2 (prim Divide (forms (literal 1 ∷ literal 2 ∷ []))) ∷ []) []) (body (
    unwind (sited 1 (prim Car (forms (literal 3 ∷ [])))) (body (put 4 ∷ [])) ∷ [])) ∷ [])

-- a condition in the handler is signalled to the handlers outside it, of which there are none here
abbrev pub HandlerFails : Doing → Type 0
HandlerFails does = does [] handler_fails 1 unlimited (by_class 27 (site_at 2)) (104 ∷ 99 ∷ [])
