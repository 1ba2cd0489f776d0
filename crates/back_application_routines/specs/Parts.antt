-- Parts of the code of applications and chains.
use Rattle.std.specs.Prelude.{ℕ, ◌+◌, [], ◌∷◌, ◌++◌}
use Rattle.lang_meaning.specs.Objects.{control_error_class, program_error_class, undefined_function_class}
use Rattle.mid_code.specs.declared.operation.Arithmetic.TheVariants as which
use Rattle.mid_code.specs.declared.operation.Comparison.TheVariants.{Equal, Different, LessUnsigned}
use Rattle.mid_code.specs.declared.operation.Counted.TheVariants.{Turn}
use Rattle.mid_code.specs.MidCode.{MidStep, repeat, lend, return_word, code_of}
use Rattle.mid_arena.specs.Tags.{nil_word, cons_tag, object_tag, function_header, generic_header}
use Rattle.back_lowering.specs.declared.placement.Placement.{Placement}
use Rattle.back_lowering.specs.ControlWords.{site_address, around_method, before_method, after_method, chain_end, primary_behind, generic_arity, generic_name}
use Rattle.back_lowering.specs.Routines.{failing_with_routine, generic_routine, chain_routine, level_routine, class_routine}
use Rattle.back_lowering.specs.Steps.{Steps, move, constant, compute, load, load_header, store, call, call_number, test_of, where_so, if_equal}
use Rattle.back_lowering.specs.Primitives.{where_tag, car_into}
use Rattle.back_lowering.specs.RoutineCodes.{add_to, turns_while, returning, signals, wrong_number, arity_into, generic_into, chain_sought}

-- ---- applications

-- twice how many arguments are required, and one more where there may be more, is in `arity`: whether so many as in `count` are taken
abbrev pub where_takes : (arity count t : ℕ) → (wrong : Steps) → Steps
where_takes arity count t wrong =
    constant t 1 ∷ compute (t + 1) which.And arity t ∷ compute (t + 2) which.ShiftRight arity t
    ∷ if_equal (t + 1) t (where_so LessUnsigned count (t + 2) wrong [] ∷ []) (where_so Different count (t + 2) wrong [] ∷ []) ∷ []

-- one thing for a function, another for a generic function, whose value is in 0
abbrev pub object_by_function : (t : ℕ) → (function generic : Steps) → Steps
object_by_function t function generic =
    load_header t 0 ∷ constant (t + 1) function_header
    ∷ if_equal t (t + 1) function (constant (t + 1) generic_header ∷ if_equal t (t + 1) generic [] ∷ []) ∷ []

abbrev pub by_function : (t : ℕ) → (function generic : Steps) → Steps
by_function t function generic = where_tag 0 t object_tag (object_by_function t function generic) []

-- a function is applied, and a generic function
abbrev pub function_applied : Placement → Steps
function_applied at =
    arity_into at 3 5 0 ++ (where_takes 3 1 6 (wrong_number at 6) ++ (constant 3 0 ∷ call_number 6 5 (0 ∷ 3 ∷ 1 ∷ 2 ∷ []) ∷ return_word 6 ∷ []))

abbrev pub generic_applied : Placement → Steps
generic_applied at = generic_into at 3 4 0 ++ returning at 6 (generic_routine at) (3 ∷ 1 ∷ 2 ∷ [])

-- how far the next step of the count is from the last one from which it began
abbrev pub count_doubled : Steps
count_doubled =
    constant 7 1 ∷ compute 6 which.Subtract 6 7 ∷ constant 7 0
    ∷ if_equal 6 7 (move 4 3 ∷ compute 5 which.Add 5 5 ∷ move 6 5 ∷ []) [] ∷ []

abbrev pub conses_counted : MidStep
conses_counted =
    repeat Turn (code_of (constant 7 3 ∷ compute 7 which.And 3 7 ∷ constant 8 cons_tag ∷ [])) (test_of Equal 7 8)
    (code_of (add_to 2 7 1 ++ (load 3 3 3 ∷ if_equal 3 4 (constant 3 0 ∷ []) count_doubled ∷ [])))

abbrev pub list_counted : Steps
list_counted = constant 2 0 ∷ move 3 1 ∷ move 4 1 ∷ constant 5 1 ∷ constant 6 1 ∷ conses_counted ∷ []

abbrev pub list_copied : Steps
list_copied =
    move 3 1 ∷ move 4 9 ∷ constant 5 nil_word
    ∷ turns_while [] 3 5 (car_into 6 3 ++ (store 6 4 0 ∷ load 3 3 3 ∷ add_to 4 6 4))
    ∷ []

abbrev pub element_into : Steps
element_into =
    turns_while [] 11 7 (load 10 10 3 ∷ constant 8 4 ∷ compute 11 which.Add 11 8 ∷ [])
    ∷ car_into 7 10

-- one specialised argument of a call
abbrev pub group_added : Placement → (argument : Steps) → Steps
group_added at argument =
    load 7 4 0 ∷ (argument
    ++ (call 7 (class_routine at) (7 ∷ []) ∷ load 8 4 4 ∷ compute 7 which.Add 7 8 ∷ load 7 7 0 ∷ compute 5 which.Add 5 7
    ∷ (add_to 4 7 8 ++ (constant 7 1 ∷ compute 3 which.Subtract 3 7 ∷ []))))

-- there is no chain
abbrev pub undefined : Placement → Steps
undefined at = load 7 0 generic_name ∷ constant 8 undefined_function_class ∷ returning at 7 (failing_with_routine at) (8 ∷ 7 ∷ [])

-- the elements of a list are words of a block, to which a function is applied, and a chain; where there is no level, none are laid
abbrev pub lent : (inside : Steps) → MidStep
lent inside = lend 9 2 (code_of inside)

abbrev pub function_spread : Placement → Steps
function_spread at =
    arity_into at 3 11 0
    ++ (where_takes 3 2 5 (wrong_number at 5)
    ++ (call 10 (level_routine at) []
    ∷ lend 9 2 (code_of (list_copied ++ (constant 3 0 ∷ call_number 10 11 (0 ∷ 3 ∷ 2 ∷ 9 ∷ []) ∷ []))) ∷ return_word 10 ∷ []))

abbrev pub chain_spread : Placement → Steps
chain_spread at =
    move 11 4 ∷ call 10 (level_routine at) []
    ∷ lend 9 2 (code_of (list_copied ++ (call 10 (chain_routine at) (11 ∷ 2 ∷ 9 ∷ []) ∷ []))) ∷ return_word 10 ∷ []

abbrev pub generic_spread : Placement → Steps
generic_spread at =
    generic_into at 11 4 0
    ++ (move 0 11 ∷ load 3 0 generic_arity
    ∷ (where_takes 3 2 4 (signals at 4 program_error_class) ++ (move 10 1 ∷ constant 11 0 ∷ (chain_sought at element_into ++ chain_spread at))))

-- ---- chains

abbrev pub kind_into : (to word address : ℕ) → Steps
kind_into to word address = load word address 0 ∷ constant to 7 ∷ compute to which.And word to ∷ []

abbrev pub number_into : (to word t : ℕ) → Steps
number_into to word t = constant t 3 ∷ compute to which.ShiftRight word t ∷ []

-- one method of a kind is called
abbrev pub method_called : Steps
method_called =
    number_into 3 3 5
    ++ (constant 5 0 ∷ store 9 5 site_address ∷ call_number 6 3 (5 ∷ 5 ∷ 1 ∷ 2 ∷ []) ∷ add_to 7 4 4)

abbrev pub methods_called : (kind : ℕ) → Steps
methods_called kind = repeat Turn (code_of (kind_into 4 3 7 ++ (constant 5 kind ∷ []))) (test_of Equal 4 5) (code_of method_called) ∷ []

abbrev pub around_called : Steps
around_called =
    number_into 3 3 4 ++ (constant 4 4 ∷ compute 4 which.Add 0 4 ∷ constant 5 0 ∷ call_number 6 3 (5 ∷ 4 ∷ 1 ∷ 2 ∷ []) ∷ return_word 6 ∷ [])

-- the first word says where the first primary method is
abbrev pub primary_ahead : Steps
primary_ahead = number_into 3 3 5 ++ (compute 8 which.Add 0 3 ∷ add_to 7 5 4)

abbrev pub primary_called : Steps
primary_called =
    load 3 8 0
    ∷ (number_into 3 3 4
    ++ (constant 4 4 ∷ compute 4 which.Add 8 4 ∷ constant 5 0 ∷ store 9 5 site_address ∷ call_number 8 3 (5 ∷ 4 ∷ 1 ∷ 2 ∷ [])
    ∷ (methods_called after_method ++ (return_word 8 ∷ []))))

abbrev pub chain_run : Steps
chain_run =
    constant 5 0 ∷ load 9 5 site_address
    ∷ (kind_into 4 3 0
    ++ (constant 5 around_method ∷ if_equal 4 5 around_called []
    ∷ move 7 0 ∷ move 8 0 ∷ constant 5 primary_behind ∷ if_equal 4 5 primary_ahead [] ∷ (methods_called before_method ++ primary_called)))

-- the chain is at its end
abbrev pub end_judged : Placement → Steps
end_judged at = kind_into 4 3 0 ++ (constant 5 chain_end ∷ if_equal 4 5 (signals at 4 control_error_class) [] ∷ [])
