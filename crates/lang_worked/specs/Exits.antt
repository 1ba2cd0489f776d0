-- Worked programs: transfers and cleanups (ISO/IEC 13816:2007, 14.8).
use Rattle.std.specs.Prelude.{pos, [], ◌∷◌}
use Rattle.lang_meaning.specs.declared.capture.Capture.TheVariants.{Exit}
use Rattle.lang_meaning.specs.declared.program.ProgramRows.{ProgramRows}
use Rattle.lang_meaning.specs.declared.primitive.Primitive.TheVariants.{Add, Subtract, NumberEqual}
use Rattle.lang_meaning.specs.Form.{literal, local, set_local, global, set_global, def_global, clauses, let_form, call, call_value, prim, block, return_from, tagbody, go, unwind, catch_form, throw, sited, no_clause, clause_and, with_body, no_binding, binding_and}
use Rattle.lang_meaning.specs.model.View.{forms}
use Rattle.lang_meaning.specs.Values.{integer}
use Rattle.lang_meaning.specs.State.{unlimited}
use Rattle.lang_meaning.specs.Meaning.{with_value, by_class, for_levels}
use Rattle.lang_worked.specs.ByHand.{a_number, a_char, a_symbol, a_nil, a_lambda, a_procedure, a_function, a_program, put, body, site_at, Doing}

-- (block b (unwind-protect (unwind-protect (return-from b 1) (format-char (standard-output) #\a))
--     (format-char (standard-output) #\b)))
abbrev pub inner_first : ProgramRows
inner_first = a_program (a_number 1 ∷ a_char 97 ∷ a_char 98 ∷ []) [] []
    (block 0 (body (unwind (unwind (return_from 0 (literal 0)) (body (put 1 ∷ []))) (body (put 2 ∷ [])) ∷ [])) ∷ [])

-- cleanups run innermost first: it prints ab
abbrev pub InnerFirst : Doing → Type 0
InnerFirst does = does [] inner_first 0 unlimited (with_value (integer (pos 1))) (97 ∷ 98 ∷ [])

-- (catch 'a (catch 'b (unwind-protect (throw 'a 1) (throw 'b 2)))), the second `throw` at site 1
abbrev pub inner_catch : ProgramRows
inner_catch = a_program (a_symbol 0 ∷ a_symbol 1 ∷ a_number 1 ∷ a_number 2 ∷ []) [] []
    (catch_form (literal 0) (body (catch_form (literal 1) (body (
    unwind (throw (literal 0) (literal 2)) (body (sited 1 (throw (literal 1) (literal 3)) ∷ [])) ∷ [])) ∷ [])) ∷ [])

-- an exit inside the pending one is no longer valid: a control error
abbrev pub InnerCatch : Doing → Type 0
InnerCatch does = does ((97 ∷ []) ∷ (98 ∷ []) ∷ []) inner_catch 0 unlimited (by_class 22 (site_at 1)) []

-- (catch 'a (catch 'b (unwind-protect (throw 'b 3) (throw 'a 4))))
abbrev pub outer_catch : ProgramRows
outer_catch = a_program (a_symbol 0 ∷ a_symbol 1 ∷ a_number 3 ∷ a_number 4 ∷ []) [] []
    (catch_form (literal 0) (body (catch_form (literal 1) (body (
    unwind (throw (literal 1) (literal 2)) (body (throw (literal 0) (literal 3) ∷ [])) ∷ [])) ∷ [])) ∷ [])

-- a cleanup may transfer to an exit outside the pending one, and then that transfer takes its place
abbrev pub OuterCatch : Doing → Type 0
OuterCatch does = does ((97 ∷ []) ∷ (98 ∷ []) ∷ []) outer_catch 0 unlimited (with_value (integer (pos 4))) []

-- (let ((f nil) (n 0))
--   (tagbody top (setq n (+ n 1))
--            (if (= n 1) (progn (setq f (lambda () (go end))) (go top)))
--            (funcall f) (format-char (standard-output) #\x) end)
--   n)
abbrev pub earlier_turn : ProgramRows
earlier_turn = a_program (a_nil ∷ a_number 0 ∷ a_number 1 ∷ a_char 120 ∷ []) [] []
    (let_form (binding_and 0 (literal 0) (binding_and 1 (literal 1) no_binding)) (body (
    tagbody 0 (forms (
    body []
    ∷ body (
    set_local 1 (prim Add (forms (local 1 ∷ literal 2 ∷ [])))
    ∷ clauses (clause_and (prim NumberEqual (forms (local 1 ∷ literal 2 ∷ [])))
    (with_body (body (set_local 0 (a_lambda [] (go 0 2 ∷ []) (Exit 0 ∷ [])) ∷ go 0 1 ∷ []))) no_clause)
    ∷ call_value (forms (local 0 ∷ []))
    ∷ put 3 ∷ [])
    ∷ body [] ∷ []))
    ∷ local 1 ∷ [])) ∷ [])

-- `go` from a function that an earlier turn made leads on: all turns have one exit
abbrev pub EarlierTurn : Doing → Type 0
EarlierTurn does = does [] earlier_turn 2 unlimited (with_value (integer (pos 2))) []

-- with one level less the second turn has none for the function
abbrev pub TooFewLevels : Doing → Type 0
TooFewLevels does = does [] earlier_turn 1 unlimited for_levels []

-- (defun f (k) (block b (if (= k 0) (lambda () (return-from b 1)) (funcall g))))
-- (defglobal g (f 0)) (f 1), the `return-from` at site 1
abbrev pub stale_exit : ProgramRows
stale_exit = a_program (a_number 0 ∷ a_number 1 ∷ a_symbol 2 ∷ [])
    (a_procedure (0 ∷ []) (block 0 (body (
    clauses (clause_and (prim NumberEqual (forms (local 0 ∷ literal 0 ∷ [])))
    (with_body (body (a_lambda [] (sited 1 (return_from 0 (literal 1)) ∷ []) (Exit 0 ∷ []) ∷ [])))
    (clause_and (literal 2) (with_body (body (call_value (forms (global 1 ∷ [])) ∷ []))) no_clause)) ∷ [])) ∷ []) ∷ [])
    (a_function 0 0 ∷ [])
    (def_global 1 (call 0 (forms (literal 0 ∷ []))) ∷ call 0 (forms (literal 1 ∷ [])) ∷ [])

-- an exit that has ended is not the one of a later entry: a control error
abbrev pub StaleExit : Doing → Type 0
StaleExit does = does ((102 ∷ []) ∷ (103 ∷ []) ∷ (116 ∷ []) ∷ []) stale_exit 3 unlimited (by_class 22 (site_at 1)) []

-- (defglobal c 0)
-- (defun u (n) (if (= n 0) (throw 'k 1) (unwind-protect (u (- n 1)) (setq c (+ c 1)))))
-- (catch 'k (u 100)) c
abbrev pub many_cleanups : ProgramRows
many_cleanups = a_program (a_number 0 ∷ a_number 1 ∷ a_number 100 ∷ a_symbol 2 ∷ a_symbol 3 ∷ [])
    (a_procedure (0 ∷ []) (
    clauses (clause_and (prim NumberEqual (forms (local 0 ∷ literal 0 ∷ []))) (with_body (body (throw (literal 3) (literal 1) ∷ [])))
    (clause_and (literal 4) (with_body (body (
    unwind (call 1 (forms (prim Subtract (forms (local 0 ∷ literal 1 ∷ [])) ∷ [])))
    (body (set_global 0 (prim Add (forms (global 0 ∷ literal 1 ∷ []))) ∷ [])) ∷ []))) no_clause)) ∷ []) ∷ [])
    (a_function 1 0 ∷ [])
    (def_global 0 (literal 0) ∷ catch_form (literal 3) (body (call 1 (forms (literal 2 ∷ [])) ∷ [])) ∷ global 0 ∷ [])

-- each of a hundred cleanups runs once
abbrev pub ManyCleanups : Doing → Type 0
ManyCleanups does = does ((99 ∷ []) ∷ (117 ∷ []) ∷ (107 ∷ []) ∷ (116 ∷ []) ∷ []) many_cleanups 101 unlimited (with_value (integer (pos 100))) []
