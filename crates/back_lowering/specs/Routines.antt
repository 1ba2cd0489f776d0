-- The routines that code calls, by their numbers.
use Rattle.std.specs.Prelude.{ℕ, ◌+◌}
use Rattle.back_lowering.specs.Placement.{routines_from}
use Rattle.back_lowering.specs.declared.placement.Placement.{Placement}

module _ (at : Placement) where
  -- a transfer to a record, with a word: the cleanups on the way come first
  abbrev pub transfer_routine : ℕ
  transfer_routine = routines_from at

  -- to the exit with a serial number, with a word and a landing, where it is valid
  abbrev pub leave_routine : ℕ
  leave_routine = routines_from at + 1

  -- to the innermost exit of a tag, with a word
  abbrev pub throw_routine : ℕ
  throw_routine = routines_from at + 2

  -- to the innermost signal of a condition, with a word
  abbrev pub continue_routine : ℕ
  continue_routine = routines_from at + 3

  -- a condition is signalled with a mark
  abbrev pub raise_routine : ℕ
  raise_routine = routines_from at + 4

  -- the same where it may be no condition
  abbrev pub signal_routine : ℕ
  signal_routine = routines_from at + 5

  -- the condition that a primitive made is signalled
  abbrev pub pending_routine : ℕ
  pending_routine = routines_from at + 6

  -- a new condition of a class without slots, with one slot, and a domain error are signalled
  abbrev pub failing_routine : ℕ
  failing_routine = routines_from at + 7

  abbrev pub failing_with_routine : ℕ
  failing_with_routine = routines_from at + 8

  abbrev pub domain_routine : ℕ
  domain_routine = routines_from at + 9

  -- a value is applied to so many words at an address
  abbrev pub function_routine : ℕ
  function_routine = routines_from at + 10

  -- a value is applied to the elements of a list
  abbrev pub apply_routine : ℕ
  apply_routine = routines_from at + 11

  -- a generic function, by the address of its words, is applied to so many words at an address
  abbrev pub generic_routine : ℕ
  generic_routine = routines_from at + 12

  -- a chain runs on so many words at an address: a level below, and at the same level
  abbrev pub chain_routine : ℕ
  chain_routine = routines_from at + 13

  abbrev pub next_routine : ℕ
  next_routine = routines_from at + 14

  -- nothing is done, a level below
  abbrev pub level_routine : ℕ
  level_routine = routines_from at + 15

  -- a list of so many words at an address
  abbrev pub list_routine : ℕ
  list_routine = routines_from at + 16

  -- the chain, the number of arguments and the arguments of a method, copied into the heap
  abbrev pub method_routine : ℕ
  method_routine = routines_from at + 17

  -- where the value of the innermost binding of a dynamic variable is, by the address of its outermost value
  abbrev pub binding_routine : ℕ
  binding_routine = routines_from at + 18

  -- whether a value is a function: 1, or 0
  abbrev pub is_function_routine : ℕ
  is_function_routine = routines_from at + 19

  -- the number of the class of a value, four times
  abbrev pub class_routine : ℕ
  class_routine = routines_from at + 20

-- how many there are
abbrev pub routine_count : ℕ
routine_count = 21
