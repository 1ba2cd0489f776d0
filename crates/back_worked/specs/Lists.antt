-- Worked programs that apply a function to the elements of a list.
use Rattle.std.specs.Prelude.{pos, [], ◌∷◌}
use Rattle.lang_meaning.specs.declared.program.ProgramRows.{ProgramRows}
use Rattle.lang_meaning.specs.declared.primitive.Primitive.TheVariants.{Subtract, Cons, SetCdr}
use Rattle.lang_meaning.specs.Form.{Form, literal, local, let_form, apply, prim, sited, no_binding, binding_and}
use Rattle.lang_meaning.specs.model.View.{forms}
use Rattle.lang_meaning.specs.Values.{integer}
use Rattle.lang_meaning.specs.State.{unlimited}
use Rattle.lang_meaning.specs.Meaning.{with_value, by_class}
use Rattle.lang_worked.specs.ByHand.{a_number, a_nil, a_lambda, a_program, body, site_at, Doing}

abbrev pub pair : Form → Form → Form
pair f g = prim Cons (forms (f ∷ g ∷ []))

-- (apply (lambda (x y) (- x y)) list), at site 1
abbrev pub applied_to : Form → Form
applied_to list = sited 1 (apply (a_lambda (0 ∷ 1 ∷ []) (prim Subtract (forms (local 0 ∷ local 1 ∷ [])) ∷ []) []) list)

abbrev pub with_list : Form → ProgramRows
with_list list = a_program (a_number 9 ∷ a_number 2 ∷ a_nil ∷ []) [] [] (applied_to list ∷ [])

-- to (9 2)
abbrev pub AppliedToTwo : Doing → Type 0
AppliedToTwo does = does [] (with_list (pair (literal 0) (pair (literal 1) (literal 2)))) 1 unlimited (with_value (integer (pos 7))) []

-- to (9 . 2), a domain error
abbrev pub AppliedToDotted : Doing → Type 0
AppliedToDotted does = does [] (with_list (pair (literal 0) (literal 1))) 1 unlimited (by_class 29 (site_at 1)) []

-- to (9 9 2), a program error
abbrev pub AppliedToThree : Doing → Type 0
AppliedToThree does =
    does [] (with_list (pair (literal 0) (pair (literal 0) (pair (literal 1) (literal 2))))) 1 unlimited (by_class 24 (site_at 1)) []

-- (let ((l (cons 9 (cons 9 nil)))) (set-cdr l l) ..), to a list without an end, a domain error
abbrev pub circular : ProgramRows
circular = a_program (a_number 9 ∷ a_number 2 ∷ a_nil ∷ []) [] []
    (let_form (binding_and 2 (pair (literal 0) (literal 2)) no_binding)
    (body (prim SetCdr (forms (local 2 ∷ local 2 ∷ [])) ∷ applied_to (local 2) ∷ [])) ∷ [])

abbrev pub AppliedToCircle : Doing → Type 0
AppliedToCircle does = does [] circular 1 unlimited (by_class 29 (site_at 1)) []
