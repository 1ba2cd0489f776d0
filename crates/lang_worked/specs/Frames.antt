-- Worked programs of slots: each activation has its own, and those of a form that is left are gone.
use Rattle.std.specs.Prelude.{pos, [], ◌∷◌}
use Rattle.lang_meaning.specs.declared.program.ProgramRows.{ProgramRows}
use Rattle.lang_meaning.specs.declared.primitive.Primitive.TheVariants.{Add, Subtract, NumberLess}
use Rattle.lang_meaning.specs.Form.{literal, local, set_local, clauses, let_form, call, prim, catch_form, throw, no_clause, clause_and, with_body, no_binding, binding_and}
use Rattle.lang_meaning.specs.model.View.{forms}
use Rattle.lang_meaning.specs.State.{unlimited}
use Rattle.lang_meaning.specs.Values.{integer}
use Rattle.lang_meaning.specs.Meaning.{with_value}
use Rattle.lang_worked.specs.ByHand.{a_number, a_procedure, a_function, a_program, body}
use Rattle.lang_worked.specs.Flat.{DoesFlat}

-- (defun f (n) (let ((m n)) (if (< 0 n) (f (- n 1))) (setq m (+ m 10)) m)) (f 2)
abbrev pub own_slots : ProgramRows
own_slots = a_program (a_number 0 ∷ a_number 1 ∷ a_number 10 ∷ a_number 2 ∷ [])
    (a_procedure (0 ∷ []) (let_form (binding_and 1 (local 0) no_binding) (body (
    clauses (clause_and (prim NumberLess (forms (literal 0 ∷ local 0 ∷ [])))
    (with_body (call 0 (forms (prim Subtract (forms (local 0 ∷ literal 1 ∷ [])) ∷ [])))) no_clause)
    ∷ set_local 1 (prim Add (forms (local 1 ∷ literal 2 ∷ [])))
    ∷ local 1 ∷ [])) ∷ []) ∷ [])
    (a_function 0 0 ∷ [])
    (call 0 (forms (literal 3 ∷ [])) ∷ [])

-- each application sets a slot of its own
abbrev pub OwnSlots : Type 0
OwnSlots = DoesFlat ((102 ∷ []) ∷ []) own_slots 3 unlimited (with_value (integer (pos 12))) []

-- (let ((m 1)) (catch 5 (let ((k 7)) (setq m (+ m k)) (throw 5 0))) (let ((j 2)) (+ m j)))
abbrev pub slots_left : ProgramRows
slots_left = a_program (a_number 1 ∷ a_number 5 ∷ a_number 7 ∷ a_number 0 ∷ a_number 2 ∷ []) [] []
    (let_form (binding_and 0 (literal 0) no_binding) (body (
    catch_form (literal 1) (body (
    let_form (binding_and 1 (literal 2) no_binding) (body (
    set_local 0 (prim Add (forms (local 0 ∷ local 1 ∷ []))) ∷ throw (literal 1) (literal 3) ∷ [])) ∷ []))
    ∷ let_form (binding_and 2 (literal 4) no_binding) (body (prim Add (forms (local 0 ∷ local 2 ∷ [])) ∷ [])) ∷ [])) ∷ [])

-- a transfer out of a `let` takes its slots away, and the slot around it is as it was set inside
abbrev pub SlotsLeft : Type 0
SlotsLeft = DoesFlat [] slots_left 0 unlimited (with_value (integer (pos 10))) []
