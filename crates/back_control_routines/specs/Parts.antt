-- Parts of the code of transfers, signals, lists and bindings.
use Rattle.std.specs.Prelude.{ℕ, ◌+◌, ◌*◌, ◌^◌, ℤ, [], ◌∷◌, ◌++◌}
use Rattle.lang_meaning.specs.Objects.{control_error_class}
use Rattle.mid_code.specs.declared.operation.Arithmetic.TheVariants as which
use Rattle.mid_code.specs.declared.operation.Operation.TheVariants.{Store}
use Rattle.mid_code.specs.MidCode.{perform, with_block, code_of}
use Rattle.mid_arena.specs.Tags.{nil_word, cons_tag, object_tag, instance_header}
use Rattle.back_lowering.specs.declared.placement.Placement.{Placement}
use Rattle.back_lowering.specs.ControlWords.{site_address, link_address, handlers_address, record_kind, record_link, record_tag, record_mark, signal_kind, end_kind, handler_function, handler_outer, binding_variable}
use Rattle.back_lowering.specs.Routines.{function_routine, failing_routine, raise_routine}
use Rattle.back_lowering.specs.Steps.{Steps, constant, compute, load, load_header, store, request, call, if_equal, if_different}
use Rattle.back_lowering.specs.Records.{exit_laid, record_left}
use Rattle.back_lowering.specs.RoutineCodes.{add_to, turns_while, returning, signals, transfers_to_found}

-- what is asked of a record on the way to the first of a kind whose tag is in 0, or to the end
abbrev pub tag_asked : (kind : ℕ) → Steps
tag_asked kind =
    constant 6 1 ∷ load 4 3 record_kind ∷ constant 5 kind
    ∷ if_equal 4 5
    (load 5 3 record_tag ∷ if_equal 5 0 (constant 6 0 ∷ []) [] ∷ [])
    (constant 5 end_kind ∷ if_equal 4 5 (constant 6 0 ∷ constant 3 0 ∷ []) [] ∷ [])
    ∷ []

-- a condition that is not continuable is not continued
abbrev pub continued : Placement → Steps
continued at =
    load 4 3 record_mark ∷ constant 5 nil_word ∷ if_equal 4 5 (signals at 6 control_error_class) (transfers_to_found at) ∷ []

-- the handler is applied to the condition, which is a word of a block
abbrev pub applied : Placement → Steps
applied at = store 0 16 0 ∷ constant 17 1 ∷ call 6 (function_routine at) (5 ∷ 17 ∷ 16 ∷ []) ∷ []

-- where the handler returns, that is a control error under the handlers outside it, at the same site
abbrev pub returned : Placement → Steps
returned at =
    constant 5 0 ∷ store 7 5 site_address
    ∷ constant 5 control_error_class ∷ call 6 (failing_routine at) (5 ∷ [])
    ∷ record_left 8 14

-- the handler is applied inside the record of the signal
abbrev pub handler_inside : Placement → Steps
handler_inside at =
    store 0 8 record_tag ∷ store 1 8 record_mark
    ∷ (exit_laid 13 8 14 signal_kind
    ++ (load 5 4 handler_outer ∷ store 5 14 handlers_address ∷ load 5 4 handler_function
    ∷ with_block 16 1 6 (code_of (applied at)) (code_of [])
    ∷ returned at))

-- an instance is signalled where its class is one of conditions
abbrev pub condition_raised : Placement → Steps
condition_raised at =
    load 2 0 2 ∷ load 2 2 14 ∷ constant 3 nil_word ∷ if_different 2 3 (returning at 4 (raise_routine at) (0 ∷ 1 ∷ [])) [] ∷ []

-- an object is signalled where it is an instance of such a class
abbrev pub object_raised : Placement → Steps
object_raised at =
    load_header 2 0 ∷ constant 3 28 ∷ compute 2 which.ShiftLeft 2 3 ∷ constant 3 (instance_header 0 * 2 ^ 28)
    ∷ if_equal 2 3 (condition_raised at) [] ∷ []

-- the mark of the instance in 3, at an offset, is nil, and it is signalled
abbrev pub raised_with : Placement → (mark : ℤ) → Steps
raised_with at mark =
    constant 4 nil_word ∷ perform (Store 4 3 mark) ∷ constant 2 object_tag ∷ compute 3 which.Add 3 2
    ∷ returning at 3 (raise_routine at) (3 ∷ 4 ∷ [])

-- the mark of the condition in 0 is the word in 1
abbrev pub mark_set : Steps
mark_set =
    load_header 2 0 ∷ constant 3 4 ∷ compute 2 which.ShiftRight 2 3 ∷ constant 3 2 ∷ compute 2 which.ShiftLeft 2 3
    ∷ compute 2 which.Add 2 0 ∷ store 1 2 6 ∷ []

-- so many words for an instance with that many slots, whose class has its word at the address in 2; its address is in 3
abbrev pub instance_begun : (slots : ℕ) → Steps
instance_begun slots =
    constant 3 (3 + slots) ∷ request 3 3 ∷ constant 4 (instance_header slots) ∷ store 4 3 0 ∷ load 4 2 0 ∷ store 4 3 4 ∷ []

-- where the word of the class in a register is
abbrev pub class_place : (to class : ℕ) → Steps
class_place to class = constant to 2 ∷ compute to which.ShiftLeft class to ∷ []

-- along the links to the first record of a kind whose tag is in 0, or to the end
abbrev pub tag_sought : (kind : ℕ) → Steps
tag_sought kind = constant 2 0 ∷ load 3 2 link_address ∷ turns_while (tag_asked kind) 6 2 (load 3 3 record_link ∷ []) ∷ []

-- ---- lists, methods, bindings

abbrev pub cons_in_front : Steps
cons_in_front =
    constant 4 1 ∷ compute 1 which.Subtract 1 4 ∷ constant 4 4 ∷ compute 0 which.Subtract 0 4 ∷ load 5 0 0
    ∷ constant 4 2 ∷ request 4 4 ∷ store 5 4 0 ∷ store 2 4 4 ∷ constant 5 cons_tag ∷ compute 2 which.Add 4 5 ∷ []

abbrev pub word_copied : Steps
word_copied = load 7 2 0 ∷ store 7 6 0 ∷ (add_to 2 7 4 ++ add_to 6 7 4)

abbrev pub binding_asked : Steps
binding_asked = constant 4 0 ∷ if_equal 2 1 [] (load 3 2 binding_variable ∷ if_equal 3 0 [] (constant 4 1 ∷ []) ∷ []) ∷ []
