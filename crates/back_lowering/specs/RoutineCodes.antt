-- The code of the routines. Arguments are in the first registers, the result is returned.
use Rattle.std.specs.Prelude.{ℕ, zero, suc, ◌+◌, ◌*◌, ◌^◌, pos, List, [], ◌∷◌, ◌++◌}
use Rattle.lang_meaning.specs.Objects.{program_error_class, undefined_function_class, domain_error_class, control_error_class, function_class, list_class, serious_condition_class}
use Rattle.mid_code.specs.declared.operation.Arithmetic.TheVariants as which
use Rattle.mid_code.specs.declared.operation.Comparison.TheVariants.{Equal, Different, LessUnsigned, AtLeastUnsigned}
use Rattle.mid_code.specs.declared.operation.Counted.{Counted}
use Rattle.mid_code.specs.declared.operation.Counted.TheVariants.{Level, Turn}
use Rattle.mid_code.specs.declared.operation.Operation.TheVariants.{Draw}
use Rattle.mid_code.specs.MidCode.{MidStep, perform, repeat, with_block, lend, return_word, cut_to, code_of}
use Rattle.mid_arena.specs.Tags.{nil_word, cons_tag, object_tag, instance_header, function_header, generic_header}
use Rattle.mid_arena.specs.FixedWords.{class_address, pending_address}
use Rattle.mid_arena.specs.Steps.{class_word}
use Rattle.back_lowering.specs.ControlWords.{current_address, link_address, serials_address, target_address, landing_address, handlers_address, bindings_address, site_address, end_address}
use Rattle.back_lowering.specs.ControlWords.{record_serial, record_kind, record_outer, record_link, record_tag, record_mark, record_words, catch_kind, cleanup_kind, signal_kind, end_kind}
use Rattle.back_lowering.specs.ControlWords.{handler_function, handler_outer, binding_variable, binding_value, binding_outer, around_method, before_method, after_method, chain_end, primary_behind, generic_arity, generic_name, generic_specialised, generic_groups, function_number}
use Rattle.back_lowering.specs.declared.placement.Placement.{Placement}
use Rattle.back_lowering.specs.Routines.{transfer_routine, raise_routine, failing_routine, failing_with_routine, domain_routine, function_routine, generic_routine, chain_routine, level_routine, is_function_routine, class_routine}
use Rattle.back_lowering.specs.Steps.{Steps, move, constant, compute, load, store, load_header, request, call, call_number, test_of, where_so, if_equal, if_different}
use Rattle.back_lowering.specs.Primitives.{where_tag, car_into}
use Rattle.back_lowering.specs.Records.{exit_laid, record_left, record_landed}

-- a step that adds a constant to a register; t is used
abbrev pub add_to : (r t word : ℕ) → Steps
add_to r t word = constant t word ∷ compute r which.Add r t ∷ []

-- a loop of a routine
abbrev pub turns_while : (head : Steps) → (first second : ℕ) → (body : Steps) → MidStep
turns_while head first second body = repeat Turn (code_of head) (test_of Different first second) (code_of body)

module _ (at : Placement) where
  -- what a call comes to is returned
  abbrev pub returning : (t routine : ℕ) → List ℕ → Steps
  returning t routine arguments = call t routine arguments ∷ return_word t ∷ []

  -- a condition of a class without slots is signalled; it uses t
  abbrev pub signals : (t class : ℕ) → Steps
  signals t class = constant t class ∷ returning t (failing_routine at) (t ∷ [])

  -- and a domain error of the word in a register
  abbrev pub signals_domain : (of t class : ℕ) → Steps
  signals_domain of t class = constant t class ∷ returning t (domain_routine at) (of ∷ t ∷ [])

  -- ---- transfers

  -- from the current record outwards to the first that is the target, in 0, or a cleanup: what is asked is whether its kind is that of a
  -- cleanup, which that of the target is taken for
  unfoldable pub transfer_code : Steps
  transfer_code =
      constant 2 0 ∷ store 0 2 target_address ∷ load 3 2 current_address ∷ constant 5 cleanup_kind
      ∷ turns_while (load 4 3 record_kind ∷ if_equal 3 0 (constant 4 cleanup_kind ∷ []) [] ∷ []) 4 5 (load 3 3 record_outer ∷ [])
      ∷ cut_to 3 1 ∷ []

  -- along the links, where serial numbers fall, as long as they are above the one in 0
  unfoldable pub leave_code : Steps
  leave_code =
      constant 3 0 ∷ load 4 3 link_address
      ∷ repeat Turn (code_of (load 5 4 record_serial ∷ [])) (test_of LessUnsigned 0 5) (code_of (load 4 4 record_link ∷ []))
      ∷ if_equal 5 0 (store 2 3 landing_address ∷ returning 6 (transfer_routine at) (4 ∷ 1 ∷ [])) (signals 6 control_error_class)
      ∷ []

  -- Along the links to the first record of a kind whose tag is in 0, or to the end: 3 is that record, or 0; 2 is 0, and 4 to 6 are used.
  abbrev pub tag_sought : (kind : ℕ) → Steps
  tag_sought kind =
      constant 2 0 ∷ load 3 2 link_address
      ∷ turns_while
      (constant 6 1 ∷ load 4 3 record_kind ∷ constant 5 kind
      ∷ if_equal 4 5
      (load 5 3 record_tag ∷ if_equal 5 0 (constant 6 0 ∷ []) [] ∷ [])
      (constant 5 end_kind ∷ if_equal 4 5 (constant 6 0 ∷ constant 3 0 ∷ []) [] ∷ [])
      ∷ [])
      6 2 (load 3 3 record_link ∷ [])
      ∷ []

  abbrev pub transfers_to_found : Steps
  transfers_to_found = store 2 2 landing_address ∷ returning 6 (transfer_routine at) (3 ∷ 1 ∷ [])

  unfoldable pub throw_code : Steps
  throw_code =
      tag_sought catch_kind ++ (if_equal 3 2 (signals 6 control_error_class) transfers_to_found ∷ [])

  unfoldable pub continue_code : Steps
  continue_code =
      tag_sought signal_kind
      ++ (if_equal 3 2 (signals 6 control_error_class)
      (load 4 3 record_mark ∷ constant 5 nil_word ∷ if_equal 4 5 (signals 6 control_error_class) transfers_to_found ∷ []) ∷ [])

  -- ---- signals

  -- the mark of the condition in 0 is the word in 1: it stands behind the slots, which the header counts; 2 and 3 are used
  abbrev pub mark_set : Steps
  mark_set =
      load_header 2 0 ∷ constant 3 4 ∷ compute 2 which.ShiftRight 2 3 ∷ constant 3 2 ∷ compute 2 which.ShiftLeft 2 3
      ∷ compute 2 which.Add 2 0 ∷ store 1 2 6 ∷ []

  -- no handler: the program ends, at the site; the signal has an exit all the same
  abbrev pub unhandled_code : Steps
  unhandled_code =
      perform (Draw 5 3 (pos serials_address))
      ∷ load 5 3 site_address ∷ store 5 3 landing_address
      ∷ load 5 3 end_address ∷ returning 6 (transfer_routine at) (5 ∷ 0 ∷ [])

  -- The innermost handler, whose cell is in 4, is applied under those outside it; where it returns, that is a control error under them, at the
  -- same site. The record is in 8, the condition in 0, its mark in 1.
  abbrev pub handler_applied : Steps
  handler_applied =
      load 7 3 site_address
      ∷ with_block 8 record_words 6
      (code_of (store 0 8 record_tag ∷ store 1 8 record_mark
      ∷ (exit_laid 13 8 14 signal_kind
      ++ (load 5 4 handler_outer ∷ store 5 14 handlers_address ∷ load 5 4 handler_function
      ∷ with_block 16 1 6
      (code_of (store 0 16 0 ∷ constant 17 1 ∷ call 6 (function_routine at) (5 ∷ 17 ∷ 16 ∷ []) ∷ []))
      (code_of [])
      ∷ constant 5 0 ∷ store 7 5 site_address
      ∷ constant 5 control_error_class ∷ call 6 (failing_routine at) (5 ∷ [])
      ∷ record_left 8 14))))
      (code_of (record_landed 8 14))
      ∷ return_word 6 ∷ []

  unfoldable pub raise_code : Steps
  raise_code =
      mark_set
      ++ (constant 3 0 ∷ load 4 3 handlers_address ∷ if_equal 4 3 unhandled_code handler_applied ∷ [])

  -- whether the value in 0 is a condition: an instance of a class that says so
  unfoldable pub signal_code : Steps
  signal_code =
      where_tag 0 2 object_tag
      (load_header 2 0 ∷ constant 3 28 ∷ compute 2 which.ShiftLeft 2 3 ∷ constant 3 (instance_header 0 * 2 ^ 28)
      ∷ if_equal 2 3
      (load 2 0 2 ∷ load 2 2 14 ∷ constant 3 nil_word ∷ if_different 2 3 (returning 4 (raise_routine at) (0 ∷ 1 ∷ [])) [] ∷ [])
      [] ∷ [])
      []
      ++ signals_domain 0 2 serious_condition_class

  unfoldable pub pending_code : Steps
  pending_code = constant 0 0 ∷ load 0 0 pending_address ∷ constant 1 nil_word ∷ returning 2 (raise_routine at) (0 ∷ 1 ∷ [])

  -- so many words for an instance whose class has its word at the address in 2, with that many slots; its address is in 3; 4 is used
  abbrev pub instance_begun : (slots : ℕ) → Steps
  instance_begun slots =
      constant 3 (3 + slots) ∷ request 3 3 ∷ constant 4 (instance_header slots) ∷ store 4 3 0 ∷ load 4 2 0 ∷ store 4 3 4 ∷ []

  -- its mark is nil, and it is signalled
  abbrev pub instance_raised : (slots : ℕ) → Steps
  instance_raised slots =
      constant 4 nil_word ∷ store 4 3 (8 + 4 * slots) ∷ constant 2 object_tag ∷ compute 3 which.Add 3 2
      ∷ returning 3 (raise_routine at) (3 ∷ 4 ∷ [])

  -- where the word of the class in a register is
  abbrev pub class_place : (to class : ℕ) → Steps
  class_place to class = constant to 2 ∷ compute to which.ShiftLeft class to ∷ []

  unfoldable pub failing_code : Steps
  failing_code = class_place 2 0 ++ (instance_begun 0 ++ instance_raised 0)

  unfoldable pub failing_with_code : Steps
  failing_with_code = class_place 2 0 ++ (instance_begun 1 ++ (store 1 3 8 ∷ instance_raised 1))

  unfoldable pub domain_code : Steps
  domain_code =
      constant 2 (class_address domain_error_class)
      ∷ (instance_begun 2
      ++ (store 0 3 8 ∷ (class_place 4 1 ++ (load 4 4 0 ∷ store 4 3 12 ∷ instance_raised 2))))

  -- ---- applications

  -- a number of arguments that a function does not take is judged a level below
  abbrev pub wrong_number : (t : ℕ) → Steps
  wrong_number t = call t (level_routine at) [] ∷ signals t program_error_class

  -- twice how many arguments are required, and one more where there may be more, is in `arity`: whether so many as in `count` are taken; t to
  -- t + 2 are used
  abbrev pub where_takes : (arity count t : ℕ) → (wrong : Steps) → Steps
  where_takes arity count t wrong =
      constant t 1 ∷ compute (t + 1) which.And arity t ∷ compute (t + 2) which.ShiftRight arity t
      ∷ if_equal (t + 1) t (where_so LessUnsigned count (t + 2) wrong [] ∷ []) (where_so Different count (t + 2) wrong [] ∷ []) ∷ []

  -- the arity of the function in a register, whose number comes to n
  abbrev pub arity_into : (to n f : ℕ) → Steps
  arity_into to n f =
      load n f function_number ∷ constant to 2 ∷ compute to which.ShiftLeft n to ∷ constant (to + 1) at.arities ∷ compute to which.Add to (to + 1)
      ∷ load to to 0 ∷ []

  -- the words of the generic function in a register
  abbrev pub generic_into : (to t f : ℕ) → Steps
  generic_into to t f = load to f 2 ∷ constant t at.generics ∷ compute to which.Add to t ∷ load to to 0 ∷ []

  -- one thing for a function, another for a generic function, whose value is in 0; t and the next one are used. Else it goes on.
  abbrev pub by_function : (t : ℕ) → (function generic : Steps) → Steps
  by_function t function generic =
      where_tag 0 t object_tag
      (load_header t 0 ∷ constant (t + 1) function_header
      ∷ if_equal t (t + 1) function (constant (t + 1) generic_header ∷ if_equal t (t + 1) generic [] ∷ []) ∷ [])
      []

  -- the value in 0 is applied to as many words as 1 says, at the address in 2
  unfoldable pub function_code : Steps
  function_code =
      by_function 3
      (arity_into 3 5 0 ++ (where_takes 3 1 6 (wrong_number 6) ++ (constant 3 0 ∷ call_number 6 5 (0 ∷ 3 ∷ 1 ∷ 2 ∷ []) ∷ return_word 6 ∷ [])))
      (generic_into 3 4 0 ++ returning 6 (generic_routine at) (3 ∷ 1 ∷ 2 ∷ []))
      ++ signals_domain 0 3 function_class

  -- How many conses the list in 1 has comes to 2, and what is behind the last one to 3, or the list itself where it goes in a circle, by steps
  -- whose number doubles: 4 is where the last of them began, 5 how many there are, 6 how many are left; 7 and 8 are used.
  abbrev pub list_counted : Steps
  list_counted =
      constant 2 0 ∷ move 3 1 ∷ move 4 1 ∷ constant 5 1 ∷ constant 6 1
      ∷ repeat Turn (code_of (constant 7 3 ∷ compute 7 which.And 3 7 ∷ constant 8 cons_tag ∷ [])) (test_of Equal 7 8)
      (code_of (add_to 2 7 1
      ++ (load 3 3 3 ∷ if_equal 3 4 (constant 3 0 ∷ [])
      (constant 7 1 ∷ compute 6 which.Subtract 6 7 ∷ constant 7 0
      ∷ if_equal 6 7 (move 4 3 ∷ compute 5 which.Add 5 5 ∷ move 6 5 ∷ []) [] ∷ []) ∷ [])))
      ∷ []

  -- the words of the list in 1 are copied to the address in 9; 3, 4 and 5 are used
  abbrev pub list_copied : Steps
  list_copied =
      move 3 1 ∷ move 4 9 ∷ constant 5 nil_word
      ∷ turns_while [] 3 5 (car_into 6 3 ++ (store 6 4 0 ∷ load 3 3 3 ∷ add_to 4 6 4))
      ∷ []

  -- The offset of the tuple of groups of a call comes to 5: as many specialised arguments as 3 says, of which 4 is at the words of the first.
  -- `argument` takes the word of the argument whose offset is in 7 to 7. 7 and 8 are used.
  abbrev pub groups_added : (argument : Steps) → Steps
  groups_added argument =
      constant 5 0 ∷ constant 6 0
      ∷ turns_while [] 3 6
      (load 7 4 0 ∷ (argument
      ++ (call 7 (class_routine at) (7 ∷ []) ∷ load 8 4 4 ∷ compute 7 which.Add 7 8 ∷ load 7 7 0 ∷ compute 5 which.Add 5 7
      ∷ (add_to 4 7 8 ++ (constant 7 1 ∷ compute 3 which.Subtract 3 7 ∷ [])))))
      ∷ []

  -- the chain of a call of the generic function whose words are at 0 comes to 4; where there is none, the function is undefined
  abbrev pub chain_sought : (argument : Steps) → Steps
  chain_sought argument =
      load 3 0 generic_specialised ∷ constant 4 generic_groups ∷ compute 4 which.Add 4 0
      ∷ (groups_added argument
      ++ (compute 4 which.Add 4 5 ∷ load 4 4 0
      ∷ if_equal 4 6
      (load 7 0 generic_name ∷ constant 8 undefined_function_class ∷ returning 7 (failing_with_routine at) (8 ∷ 7 ∷ [])) [] ∷ []))

  -- the generic function whose words are at 0 is applied to as many words as 1 says, at the address in 2
  unfoldable pub generic_code : Steps
  generic_code =
      load 3 0 generic_arity
      ∷ (where_takes 3 1 4 (signals 4 program_error_class)
      ++ (chain_sought (compute 7 which.Add 7 2 ∷ load 7 7 0 ∷ [])
      ++ returning 7 (chain_routine at) (4 ∷ 1 ∷ 2 ∷ [])))

  -- the kind of the method whose word is at an address, and the number of its function
  abbrev pub kind_into : (to word address : ℕ) → Steps
  kind_into to word address = load word address 0 ∷ constant to 7 ∷ compute to which.And word to ∷ []

  abbrev pub number_into : (to word t : ℕ) → Steps
  number_into to word t = constant t 3 ∷ compute to which.ShiftRight word t ∷ []

  -- Methods of a kind from the address in 7 on are called, each without a chain, at the site in 9; 3 to 6 are used.
  abbrev pub methods_called : (kind : ℕ) → Steps
  methods_called kind =
      repeat Turn (code_of (kind_into 4 3 7 ++ (constant 5 kind ∷ []))) (test_of Equal 4 5)
      (code_of (number_into 3 3 5
      ++ (constant 5 0 ∷ store 9 5 site_address ∷ call_number 6 3 (5 ∷ 5 ∷ 1 ∷ 2 ∷ []) ∷ add_to 7 4 4)))
      ∷ []

  -- The chain at the address in 0 runs on as many words as 1 says, at the address in 2: the first around method; else the before methods, the
  -- first primary method, whose word 8 is at, and the after methods.
  abbrev pub chain_run : Steps
  chain_run =
      constant 5 0 ∷ load 9 5 site_address
      ∷ (kind_into 4 3 0
      ++ (constant 5 around_method
      ∷ if_equal 4 5
      (number_into 3 3 4 ++ (constant 4 4 ∷ compute 4 which.Add 0 4 ∷ constant 5 0 ∷ call_number 6 3 (5 ∷ 4 ∷ 1 ∷ 2 ∷ []) ∷ return_word 6 ∷ []))
      []
      ∷ move 7 0 ∷ move 8 0 ∷ constant 5 primary_behind
      ∷ if_equal 4 5 (number_into 3 3 5 ++ (compute 8 which.Add 0 3 ∷ add_to 7 5 4)) []
      ∷ (methods_called before_method
      ++ (load 3 8 0
      ∷ (number_into 3 3 4
      ++ (constant 4 4 ∷ compute 4 which.Add 8 4 ∷ constant 5 0 ∷ store 9 5 site_address ∷ call_number 8 3 (5 ∷ 4 ∷ 1 ∷ 2 ∷ [])
      ∷ (methods_called after_method ++ (return_word 8 ∷ []))))))))

  -- without a chain, or at its end, there is no next method
  unfoldable pub next_code : Steps
  next_code =
      constant 3 0
      ∷ if_equal 0 3 (signals 4 control_error_class)
      (kind_into 4 3 0 ++ (constant 5 chain_end ∷ if_equal 4 5 (signals 4 control_error_class) [] ∷ []))
      ∷ chain_run

  unfoldable pub chain_code : Steps
  chain_code = chain_run

  -- The element of the list whose offset is in 7 comes to 7, on from the cons in 10, whose offset is in 11: the specialised arguments are in order, so
  -- each cons is passed once. 8 is used.
  abbrev pub element_into : Steps
  element_into =
      turns_while [] 11 7 (load 10 10 3 ∷ constant 8 4 ∷ compute 11 which.Add 11 8 ∷ [])
      ∷ car_into 7 10

  -- The value in 0 is applied to the elements of the list in 1: the function is judged first, then the list, then how many there are. A
  -- generic function has its chain before its words are laid; and no words are laid where there is no level for the application.
  unfoldable pub apply_code : Steps
  apply_code =
      call 2 (is_function_routine at) (0 ∷ []) ∷ constant 3 0 ∷ if_equal 2 3 (signals_domain 0 2 function_class) []
      ∷ (list_counted
      ++ (constant 4 nil_word ∷ if_different 3 4 (signals_domain 1 2 list_class) []
      ∷ (by_function 3
      (arity_into 3 11 0
      ++ (where_takes 3 2 5 (wrong_number 5)
      ++ (call 10 (level_routine at) []
      ∷ lend 9 2 (code_of (list_copied ++ (constant 3 0 ∷ call_number 10 11 (0 ∷ 3 ∷ 2 ∷ 9 ∷ []) ∷ []))) ∷ return_word 10 ∷ [])))
      (generic_into 11 4 0
      ++ (move 0 11 ∷ load 3 0 generic_arity
      ∷ (where_takes 3 2 4 (signals 4 program_error_class)
      ++ (move 10 1 ∷ constant 11 0 ∷ (chain_sought element_into
      ++ (move 11 4 ∷ call 10 (level_routine at) []
      ∷ lend 9 2 (code_of (list_copied ++ (call 10 (chain_routine at) (11 ∷ 2 ∷ 9 ∷ []) ∷ []))) ∷ return_word 10 ∷ []))))))
      ++ signals_domain 0 3 function_class)))

  unfoldable pub level_code : Steps
  level_code = constant 0 0 ∷ return_word 0 ∷ []

  -- ---- lists, methods, bindings, kinds

  -- conses from the last word to the first; the list comes to 2
  unfoldable pub list_code : Steps
  list_code =
      constant 3 2 ∷ compute 4 which.ShiftLeft 1 3 ∷ compute 0 which.Add 0 4 ∷ constant 2 nil_word ∷ constant 3 0
      ∷ turns_while [] 1 3
      (constant 4 1 ∷ compute 1 which.Subtract 1 4 ∷ constant 4 4 ∷ compute 0 which.Subtract 0 4 ∷ load 5 0 0
      ∷ constant 4 2 ∷ request 4 4 ∷ store 5 4 0 ∷ store 2 4 4 ∷ constant 5 cons_tag ∷ compute 2 which.Add 4 5 ∷ [])
      ∷ return_word 2 ∷ []

  -- the chain in 0, the number in 1 and the words at 2 are copied; the address of the words' copy is returned
  unfoldable pub method_code : Steps
  method_code =
      constant 3 2 ∷ compute 4 which.Add 1 3 ∷ request 4 4 ∷ store 0 4 0 ∷ store 1 4 4
      ∷ (add_to 4 5 8
      ++ (compute 5 which.ShiftLeft 1 3 ∷ compute 5 which.Add 5 2 ∷ move 6 4
      ∷ turns_while [] 2 5 (load 7 2 0 ∷ store 7 6 0 ∷ (add_to 2 7 4 ++ add_to 6 7 4))
      ∷ return_word 4 ∷ []))

  unfoldable pub binding_code : Steps
  binding_code =
      constant 1 0 ∷ load 2 1 bindings_address
      ∷ turns_while
      (constant 4 0 ∷ if_equal 2 1 [] (load 3 2 binding_variable ∷ if_equal 3 0 [] (constant 4 1 ∷ []) ∷ []) ∷ [])
      4 1 (load 2 2 binding_outer ∷ [])
      ∷ if_equal 2 1 (return_word 0 ∷ []) (add_to 2 3 binding_value ++ (return_word 2 ∷ [])) ∷ []

  unfoldable pub is_function_code : Steps
  is_function_code =
      by_function 1 (constant 1 1 ∷ return_word 1 ∷ []) (constant 1 1 ∷ return_word 1 ∷ []) ++ (constant 1 0 ∷ return_word 1 ∷ [])

  unfoldable pub class_code : Steps
  class_code = class_word 1 0 ++ (load 1 1 2 ∷ return_word 1 ∷ [])
