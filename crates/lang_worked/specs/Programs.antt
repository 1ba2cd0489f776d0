-- Which programs that are written out are whole, and which are not.
use Rattle.std.specs.Prelude.{◌≡◌, ℕ, ◌+◌, ◌*◌, true, false, List, [], ◌∷◌}
use Rattle.lang_meaning.specs.declared.capture.Capture.{Capture}
use Rattle.lang_meaning.specs.declared.capture.Capture.TheVariants.{Variable, Exit}
use Rattle.lang_meaning.specs.declared.program.Procedure.{Procedure}
use Rattle.lang_meaning.specs.declared.program.ProgramRows.{ProgramRows}
use Rattle.lang_meaning.specs.declared.primitive.Primitive.TheVariants.{Cons}
use Rattle.lang_meaning.specs.Form.{Form, literal, local, set_local, let_form, call_value, prim, block, tagbody, go, next_method, sited, no_binding, binding_and}
use Rattle.lang_meaning.specs.model.View.{forms}
use Rattle.lang_meaning.specs.Captured.{has_box}
use Rattle.lang_meaning.specs.Cells.{program_cells}
use Rattle.lang_meaning.specs.ProgramCounts.{program_nodes}
use Rattle.lang_meaning.specs.Reached.{reached_nodes}
use Rattle.std.specs.List.{list_all}
use Rattle.lang_meaning.specs.Facts.{is_whole}
use Rattle.lang_worked.specs.ByHand.{a_number, a_lambda, a_procedure, a_program, body}
use Rattle.lang_worked.specs.Exits.{inner_first, inner_catch, outer_catch, earlier_turn, stale_exit, many_cleanups}
use Rattle.lang_worked.specs.Conditions.{without_itself, continued, not_continuable, returning, cleanup_runs, no_catch_left, replaced, handler_fails}
use Rattle.lang_worked.specs.Calls.{methods_in_order, seen_through_a_call, one_application, one_cons}

-- the worked programs are whole
abbrev pub WorkedAreWhole : Type 0
WorkedAreWhole =
    list_all is_whole (inner_first ∷ inner_catch ∷ outer_catch ∷ earlier_turn ∷ stale_exit ∷ many_cleanups ∷ []) ≡ true
    × list_all is_whole (without_itself ∷ continued ∷ not_continuable ∷ returning ∷ cleanup_runs ∷ no_catch_left ∷ replaced ∷ handler_fails ∷ []) ≡ true
    × list_all is_whole (methods_in_order ∷ seen_through_a_call ∷ one_application ∷ one_cons ∷ []) ≡ true

-- a program of one main form
abbrev pub one_form : Form → ProgramRows
one_form f = a_program (a_number 1 ∷ []) [] [] (f ∷ [])

-- (cons 1): an argument is wanting
abbrev pub TooFewArguments : Type 0
TooFewArguments = is_whole (one_form (prim Cons (forms (literal 0 ∷ [])))) ≡ false

-- `go` outside its `tagbody`, to a segment that is not there, and to a block; and a `tagbody` without a segment
abbrev pub GoOutside : Type 0
GoOutside = is_whole (one_form (go 0 0)) ≡ false

abbrev pub NoSuchSegment : Type 0
NoSuchSegment = is_whole (one_form (tagbody 0 (forms (body (go 0 1 ∷ []) ∷ [])))) ≡ false

abbrev pub NoSegment : Type 0
NoSegment = is_whole (one_form (tagbody 0 (forms []))) ≡ false

abbrev pub GoToABlock : Type 0
GoToABlock = is_whole (one_form (block 0 (body (go 0 0 ∷ [])))) ≡ false

-- a function that captures its tagbody's exit says so
abbrev pub Captured : Type 0
Captured =
    is_whole (one_form (tagbody 0 (forms (body (a_lambda (0 ∷ []) (go 0 0 ∷ []) (Exit 0 ∷ []) ∷ []) ∷ [])))) ≡ true
    × is_whole (one_form (tagbody 0 (forms (body (a_lambda (0 ∷ []) (go 0 0 ∷ []) [] ∷ []) ∷ [])))) ≡ false

-- captured parts stand in their order, each once: variables by their numbers, and then exits
abbrev pub capturing : List Capture → ProgramRows
capturing parts = one_form (
    let_form (binding_and 0 (literal 0) (binding_and 1 (literal 0) no_binding)) (
    tagbody 0 (forms (body (a_lambda [] (local 1 ∷ local 0 ∷ go 0 0 ∷ []) parts ∷ []) ∷ []))))

abbrev pub InOrder : Type 0
InOrder =
    is_whole (capturing (Variable 0 ∷ Variable 1 ∷ Exit 0 ∷ [])) ≡ true
    × is_whole (capturing (Variable 1 ∷ Variable 0 ∷ Exit 0 ∷ [])) ≡ false
    × is_whole (capturing (Exit 0 ∷ Variable 0 ∷ Variable 1 ∷ [])) ≡ false
    × is_whole (capturing (Variable 0 ∷ Variable 1 ∷ Exit 0 ∷ Exit 0 ∷ [])) ≡ false
    × is_whole (capturing (Variable 0 ∷ Variable 1 ∷ [])) ≡ false

-- (let ((x 1)) (lambda () (setq x 1))), where x is captured and set, inside another binding of the same variable
abbrev pub set_inside : Form
set_inside = let_form (binding_and 0 (literal 0) no_binding) (a_lambda [] (set_local 0 (literal 0) ∷ []) (Variable 0 ∷ []))

-- the inner binding has a box, and not the outer one
abbrev pub BoxOfItsOwn : Type 0
BoxOfItsOwn =
    has_box 0 (a_lambda [] (set_local 0 (literal 0) ∷ []) (Variable 0 ∷ [])) ≡ true
    × has_box 0 set_inside ≡ false

-- a program whose procedures no main form mentions and no row calls
abbrev pub uncalled : List Procedure → ProgramRows
uncalled procedures = a_program (a_number 1 ∷ []) procedures [] (literal 0 ∷ [])

-- in a procedure that nothing calls, names are bound too
abbrev pub Uncalled : Type 0
Uncalled =
    is_whole (uncalled (a_procedure (0 ∷ []) (local 0 ∷ []) ∷ [])) ≡ true
    × is_whole (uncalled (a_procedure (0 ∷ []) (local 1 ∷ []) ∷ [])) ≡ false
    × is_whole (uncalled (a_procedure [] (go 0 0 ∷ []) ∷ [])) ≡ false
    × is_whole (uncalled (a_procedure [] (next_method ∷ []) ∷ [])) ≡ false

-- a function in such a procedure names what it captures, and nothing else
abbrev pub MadeByUncalled : Type 0
MadeByUncalled =
    is_whole (uncalled (a_procedure (0 ∷ []) (a_lambda [] (local 0 ∷ []) (Variable 0 ∷ []) ∷ []) ∷ [])) ≡ true
    × is_whole (uncalled (a_procedure (0 ∷ []) (a_lambda [] (local 0 ∷ []) [] ∷ []) ∷ [])) ≡ false
    × is_whole (uncalled (a_procedure (0 ∷ []) (a_lambda [] (literal 0 ∷ []) (Variable 0 ∷ []) ∷ []) ∷ [])) ≡ false

-- rows, sites and variables that are not there; a call of nothing; a next method outside a method
abbrev pub NotThere : Type 0
NotThere =
    is_whole (one_form (literal 1)) ≡ false
    × is_whole (one_form (sited 6 (literal 0))) ≡ false
    × is_whole (one_form (local 0)) ≡ false
    × is_whole (one_form (call_value (forms []))) ≡ false
    × is_whole (one_form next_method) ≡ false

-- counted by hand: the precedence lists of the built-in classes have 114 classes, and they have 7 slots, each
-- with one initarg
abbrev pub built_in_nodes : ℕ
built_in_nodes = 114 + 2 * 7

-- the main form of that program has 5 nodes, the function in it 2, its parameter and 4 more, the literal 1; all are reached
abbrev pub NodesOfOneApplication : Type 0
NodesOfOneApplication =
    program_nodes one_application ≡ 5 + (2 + 1 + 4) + 1 + built_in_nodes
    × reached_nodes [] one_application ≡ 5 + (2 + 1 + 4) + 1 + built_in_nodes

-- a procedure that no main form mentions, of 2 nodes, a parameter and 4 more, is not reached
abbrev pub NotReached : Type 0
NotReached =
    program_nodes (uncalled (a_procedure (0 ∷ []) (local 0 ∷ []) ∷ [])) ≡ 1 + (2 + 1 + 4) + 1 + built_in_nodes
    × reached_nodes [] (uncalled (a_procedure (0 ∷ []) (local 0 ∷ []) ∷ [])) ≡ 1 + 1 + built_in_nodes

-- one argument is specialised, by `<a>` and `<b>` of 36 classes; for a `<b>` all seven methods apply, for an
-- `<a>` three, and for all others none
abbrev pub BoxesOfMethods : Type 0
BoxesOfMethods = program_cells methods_in_order ≡ 36 + ((1 + 7) + (1 + 3) + 1)
