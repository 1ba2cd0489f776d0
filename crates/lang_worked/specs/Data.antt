-- Worked programs: literals, data, variables and arguments (ISO/IEC 13816:2007, 12 to 15, 19 to 24).
use Rattle.std.specs.Prelude.{◌≡◌, ℕ, pos, negsuc, false, List, [], ◌∷◌, ◌++◌, ◌+◌, ◌*◌, Some}
use Rattle.base.specs.Data as datum
use Rattle.lang_meaning.specs.declared.capture.Capture.TheVariants.{Variable}
use Rattle.lang_meaning.specs.declared.program.LiteralRow.{LiteralRow}
use Rattle.lang_meaning.specs.declared.program.LiteralRow.TheVariants as row
use Rattle.lang_meaning.specs.declared.program.ProgramRows.{ProgramRows}
use Rattle.lang_meaning.specs.declared.primitive.Primitive.TheVariants.{Add, Subtract, Divide, Modulo, NumberLess, Car, Cdr, SetCar, VectorRef, CharAt, GetByte, Allocate, SlotPlace, SlotRef, SlotSet, SlotInitargs, SlotInitform}
use Rattle.lang_meaning.specs.Form.{Form, literal, local, set_local, set_global, let_form, lambda, call, call_value, apply, prim, while_form, no_binding, binding_and, dynamic_let, dynamic, set_dynamic, def_dynamic, no_dynamic, dynamic_and, sited}
use Rattle.lang_meaning.specs.model.View.{forms}
use Rattle.lang_meaning.specs.Values.{integer, character, symbol, named}
use Rattle.lang_meaning.specs.State.{unlimited, no_place}
use Rattle.lang_meaning.specs.Meaning.{with_value, by_class, ended_value, meaning}
use Rattle.lang_worked.specs.ByHand.{name, a_number, a_char, a_symbol, a_lambda, a_procedure, built_in_rows, a_program, put, body, site_at, Doing}

-- data at no place
abbrev pub number : ℕ → datum.Item
number n = datum.item no_place (datum.integer (pos n))

abbrev pub below_zero : ℕ → LiteralRow
below_zero n = row.Datum (datum.item no_place (datum.integer (negsuc n)))

abbrev pub a_list : List datum.Item → datum.Tail → LiteralRow
a_list ds end = row.Datum (datum.item no_place (datum.list (datum.items_of ds) end))

abbrev pub of : List Form → Form
of fs = call_value (forms fs)

-- (cdr (cdr '(1 2 . 3)))
abbrev pub dotted_list : ProgramRows
dotted_list = a_program (a_list (number 1 ∷ number 2 ∷ []) (datum.dotted (number 3)) ∷ []) [] []
    (prim Cdr (forms (prim Cdr (forms (literal 0 ∷ [])) ∷ [])) ∷ [])

abbrev pub DottedList : Doing → Type 0
DottedList does = does [] dotted_list 0 unlimited (with_value (integer (pos 3))) []

-- ('#(5 "ab") is one object): (%char-at (%vector-ref #(5 "ab") 1) 1)
abbrev pub string_in_a_vector : ProgramRows
string_in_a_vector = a_program
    (row.Datum (datum.item no_place (datum.vector (datum.items_of (number 5 ∷ datum.item no_place (datum.string (97 ∷ 98 ∷ [])) ∷ []))))
    ∷ a_number 1 ∷ []) [] []
    (prim CharAt (forms (prim VectorRef (forms (literal 0 ∷ literal 1 ∷ [])) ∷ literal 1 ∷ [])) ∷ [])

abbrev pub StringInAVector : Doing → Type 0
StringInAVector does = does [] string_in_a_vector 0 unlimited (with_value (character 98)) []

-- (set-car 7 '(1)), and then the car of the same literal; a literal is one object and may be changed
abbrev pub changed_literal : ProgramRows
changed_literal = a_program (a_number 9 ∷ a_list (number 1 ∷ []) datum.no_tail ∷ a_number 7 ∷ []) [] []
    (prim SetCar (forms (literal 2 ∷ literal 1 ∷ []))
    ∷ prim Car (forms (literal 1 ∷ [])) ∷ [])

abbrev pub ChangedLiteral : Doing → Type 0
ChangedLiteral does = does [] changed_literal 0 unlimited (with_value (integer (pos 7))) []

-- ((lambda (a :rest r) (- (car (cdr r)) a)) 1 2 3)
abbrev pub rest_list : ProgramRows
rest_list = a_program (a_number 1 ∷ a_number 2 ∷ a_number 3 ∷ []) [] []
    (of (
    lambda (0 ∷ []) (Some 1)
    (body (prim Subtract (forms (prim Car (forms (prim Cdr (forms (local 1 ∷ [])) ∷ [])) ∷ local 0 ∷ [])) ∷ [])) []
    ∷ literal 0 ∷ literal 1 ∷ literal 2 ∷ []) ∷ [])

abbrev pub RestList : Doing → Type 0
RestList does = does [] rest_list 1 unlimited (with_value (integer (pos 2))) []

-- (%apply (lambda (x y) (- x y)) '(9 2)), and with '(9 . 2)
abbrev pub applied : datum.Items → datum.Tail → ProgramRows
applied ds end = a_program (row.Datum (datum.item no_place (datum.list ds end)) ∷ []) [] []
    (sited 1 (apply (a_lambda (0 ∷ 1 ∷ []) (prim Subtract (forms (local 0 ∷ local 1 ∷ [])) ∷ []) []) (literal 0)) ∷ [])

abbrev pub Applied : Doing → Type 0
Applied does = does [] (applied (datum.items_of (number 9 ∷ number 2 ∷ [])) datum.no_tail) 1 unlimited (with_value (integer (pos 7))) []

-- a dotted list is a domain error, and a wrong number of arguments a program error
abbrev pub AppliedToADottedList : Doing → Type 0
AppliedToADottedList does = does [] (applied (datum.items_of (number 9 ∷ [])) (datum.dotted (number 2))) 1 unlimited (by_class 29 (site_at 1)) []

abbrev pub TooManyArguments : Doing → Type 0
TooManyArguments does = does [] (applied (datum.items_of (number 9 ∷ number 2 ∷ number 1 ∷ [])) datum.no_tail) 1 unlimited (by_class 24 (site_at 1)) []

-- (list (div -7 2) (mod -7 2)) as a difference: -4 - 1
abbrev pub floors : ProgramRows
floors = a_program (below_zero 6 ∷ a_number 2 ∷ []) [] []
    (prim Subtract (forms (prim Divide (forms (literal 0 ∷ literal 1 ∷ [])) ∷ prim Modulo (forms (literal 0 ∷ literal 1 ∷ [])) ∷ [])) ∷ [])

abbrev pub Floors : Doing → Type 0
Floors does = does [] floors 0 unlimited (with_value (integer (negsuc 4))) []

-- (+ 536870911 1) at site 1
abbrev pub overflow : ProgramRows
overflow = a_program (a_number 536870911 ∷ a_number 1 ∷ []) [] [] (sited 1 (prim Add (forms (literal 0 ∷ literal 1 ∷ []))) ∷ [])

abbrev pub Overflow : Doing → Type 0
Overflow does = does [] overflow 0 unlimited (by_class 28 (site_at 1)) []

-- (foo (format-char (standard-output) #\a)) at site 1: the argument first
abbrev pub no_function : ProgramRows
no_function = a_program (a_char 97 ∷ []) [] [] (sited 1 (call 0 (forms (put 0 ∷ []))) ∷ [])

abbrev pub NoFunction : Doing → Type 0
NoFunction does = does ((102 ∷ []) ∷ []) no_function 0 unlimited (by_class 32 (site_at 1)) (97 ∷ [])

-- a global variable before its definition, at site 1
abbrev pub NoValue : Doing → Type 0
NoValue does = does ((120 ∷ []) ∷ []) (a_program (a_number 1 ∷ []) [] [] (sited 1 (set_global 0 (literal 0)) ∷ [])) 0 unlimited (by_class 31 (site_at 1)) []

-- (let ((n 0)) (let ((f (lambda () (setq n (+ n 2))))) (while (< n 5) (funcall f)) n)): n is captured and set
abbrev pub counting : ProgramRows
counting = a_program (a_number 0 ∷ a_number 2 ∷ a_number 5 ∷ []) [] []
    (let_form (binding_and 0 (literal 0) no_binding) (body (
    let_form (binding_and 1 (a_lambda [] (set_local 0 (prim Add (forms (local 0 ∷ literal 1 ∷ []))) ∷ []) (Variable 0 ∷ [])) no_binding) (body (
    while_form (prim NumberLess (forms (local 0 ∷ literal 2 ∷ []))) (body (of (local 1 ∷ []) ∷ []))
    ∷ local 0 ∷ [])) ∷ [])) ∷ [])

abbrev pub Counting : Doing → Type 0
Counting does = does [] counting 3 unlimited (with_value (integer (pos 6))) []

-- its words: the main form has 20 nodes; a box for n; 3 for the function with one captured part; and the body of
-- the function, which has 7 nodes
abbrev pub CountingWords : Type 0
CountingWords = (meaning [] counting [] 3 unlimited).peak ≡ (16 + 16 * 20) + 1 + 3 + (16 + 16 * 7)

-- (defdynamic d 1) (dynamic-let ((d 2)) (setf (dynamic d) 3)) (dynamic d): the binding was set, not the outermost value
abbrev pub set_binding : ProgramRows
set_binding = a_program (a_number 1 ∷ a_number 2 ∷ a_number 3 ∷ []) [] []
    (def_dynamic 0 (literal 0)
    ∷ dynamic_let (dynamic_and 0 (literal 1) no_dynamic) (body (set_dynamic 0 (literal 2) ∷ []))
    ∷ dynamic 0 ∷ [])

abbrev pub SetBinding : Doing → Type 0
SetBinding does = does ((100 ∷ []) ∷ []) set_binding 0 unlimited (with_value (integer (pos 1))) []

-- a class with a slot s, whose initarg is a and whose initform is 4: its place, its initarg, and what its initform gives
abbrev pub slotted : List Form → ProgramRows
slotted main = record (a_program (row.Class 34 ∷ a_symbol 0 ∷ a_number 4 ∷ a_number 0 ∷ [])
    (a_procedure [] (literal 2 ∷ []) ∷ []) [] main) {
      classes = built_in_rows ++ record {
        name = name 2;
        precedence = 34 ∷ 17 ∷ 0 ∷ [];
        slots = record { name = name 0; initargs = name 1 ∷ []; initform = Some 0 } ∷ [];
        abstract_class = false;
      } ∷ [];
    }

abbrev pub slot_names : List (List ℕ)
slot_names = (115 ∷ []) ∷ (97 ∷ []) ∷ (99 ∷ []) ∷ []

abbrev pub an_instance : Form
an_instance = prim Allocate (forms (literal 0 ∷ []))

abbrev pub SlotPlaces : Doing → Type 0
SlotPlaces does = does slot_names (slotted (prim SlotPlace (forms (an_instance ∷ literal 1 ∷ [])) ∷ [])) 0 unlimited (with_value (integer (pos 0))) []

abbrev pub SlotInitarg : Doing → Type 0
SlotInitarg does = does slot_names (slotted (prim Car (forms (prim SlotInitargs (forms (an_instance ∷ literal 3 ∷ [])) ∷ [])) ∷ [])) 0 unlimited (with_value (symbol (named (97 ∷ [])))) []

abbrev pub SlotForm : Doing → Type 0
SlotForm does = does slot_names (slotted (of (prim SlotInitform (forms (an_instance ∷ literal 3 ∷ [])) ∷ []) ∷ [])) 1 unlimited (with_value (integer (pos 4))) []

-- an unbound slot is a program error, and one that was set has its value
abbrev pub UnboundSlot : Doing → Type 0
UnboundSlot does = does slot_names (slotted (sited 1 (prim SlotRef (forms (an_instance ∷ literal 3 ∷ []))) ∷ [])) 0 unlimited (by_class 24 (site_at 1)) []

abbrev pub SetSlot : Doing → Type 0
SetSlot does = does slot_names (slotted (let_form (binding_and 0 an_instance no_binding) (body (
    prim SlotSet (forms (literal 2 ∷ local 0 ∷ literal 3 ∷ [])) ∷ prim SlotRef (forms (local 0 ∷ literal 3 ∷ [])) ∷ [])) ∷ [])) 0 unlimited (with_value (integer (pos 4))) []

-- the first byte of the input less the second
abbrev pub two_bytes : ProgramRows
two_bytes = a_program [] [] [] (prim Subtract (forms (prim GetByte (forms []) ∷ prim GetByte (forms []) ∷ [])) ∷ [])

-- behind the last byte comes -1: 7 - (-1)
abbrev pub TwoBytes : Type 0
TwoBytes = (meaning [] two_bytes (7 ∷ []) 0 unlimited).end ≡ ended_value (integer (pos 8))
