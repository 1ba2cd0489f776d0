-- When middle code is in form: registers that are there, constants that are words, offsets that an instruction holds, blocks that are
-- not too large, and calls of procedures that are there with as many arguments as they take.
use Rattle.std.specs.Prelude.{ℕ, ◌^◌, ◌==◌, Bool, true, false, ◌&&◌, nat_lt, nat_le, ℤ, pos, negsuc, int_le, List, length, slice_get, Option, Some, None}
use Rattle.std.specs.List.{list_all}
use Rattle.mid_code.specs.declared.operation.Callee.{Callee}
use Rattle.mid_code.specs.declared.operation.Callee.TheVariants.{Procedure, Word}
use Rattle.mid_code.specs.declared.operation.Operation.{Operation}
use Rattle.mid_code.specs.declared.operation.Operation.TheVariants.{Move, Constant, Compute, Load, Store, Request, Draw, Put, Get, Call}
use Rattle.mid_code.specs.declared.operation.Test.{Test}
use Rattle.mid_code.specs.declared.program.MidProcedure.{MidProcedure}
use Rattle.mid_code.specs.declared.program.MidProgram.{MidProgram}
use Rattle.mid_code.specs.MidCode.{MidStep, perform, choose, switch, repeat, with_block, lend, return_word, cut_to, halt_with, end_unhandled, MidCode, no_step, step_and, MidCodes, no_code, code_and, code_of}

-- a register among so many
abbrev pub is_register : ℕ → ℕ → Bool
is_register count r = nat_lt r count

-- a number of 32 bits
abbrev pub is_constant : ℕ → Bool
is_constant word = nat_lt word (2 ^ 32)

-- how many words a block may have; a number in a register is tested when the block is lent
abbrev pub is_block_size : ℕ → Bool
is_block_size words = nat_lt words (2 ^ 24)

-- a number of 12 bits
abbrev pub is_offset : ℤ → Bool
is_offset offset = int_le (negsuc 2047) offset && int_le offset (pos 2047)

abbrev pub callee_fits : ℕ → Callee → Bool
callee_fits count (Procedure n) = true
callee_fits count (Word r) = is_register count r

-- whether an operation fits so many registers
abbrev pub operation_fits : ℕ → Operation → Bool
operation_fits count (Move to from) = is_register count to && is_register count from
operation_fits count (Constant to word) = is_register count to && is_constant word
operation_fits count (Compute to which first second) = is_register count to && is_register count first && is_register count second
operation_fits count (Load to base offset) = is_register count to && is_register count base && is_offset offset
operation_fits count (Store from base offset) = is_register count from && is_register count base && is_offset offset
operation_fits count (Request to words) = is_register count to && is_register count words
operation_fits count (Draw to base offset) = is_register count to && is_register count base && is_offset offset
operation_fits count (Put from) = is_register count from
operation_fits count (Get to) = is_register count to
operation_fits count (Call to callee arguments) =
    is_register count to && callee_fits count callee && list_all (is_register count) arguments

abbrev pub test_fits : ℕ → Test → Bool
test_fits count t = is_register count t.first && is_register count t.second

-- whether steps and code fit so many registers
abbrev mutual
  pub step_fits : ℕ → MidStep → Bool
  step_fits count (perform o) = operation_fits count o
  step_fits count (choose t first second) = test_fits count t && code_fits count first && code_fits count second
  step_fits count (switch r codes) = is_register count r && codes_fit count codes
  step_fits count (repeat c head t body) = code_fits count head && test_fits count t && code_fits count body
  step_fits count (with_block block words word inside landing) =
      is_register count block && is_block_size words && is_register count word && code_fits count inside && code_fits count landing
  step_fits count (lend block words inside) = is_register count block && is_register count words && code_fits count inside
  step_fits count (return_word r) = is_register count r
  step_fits count (cut_to block word) = is_register count block && is_register count word
  step_fits count (halt_with r) = is_register count r
  step_fits count (end_unhandled class site condition) = is_register count class && is_register count site && is_register count condition

  pub code_fits : ℕ → MidCode → Bool
  code_fits count no_step = true
  code_fits count (step_and s c) = step_fits count s && code_fits count c

  pub codes_fit : ℕ → MidCodes → Bool
  codes_fit count no_code = true
  codes_fit count (code_and c codes) = code_fits count c && codes_fit count codes

-- whether a procedure is in form
abbrev pub is_checked : MidProcedure → Bool
is_checked p = nat_le p.parameters p.registers && is_block_size p.frame && code_fits p.registers (code_of p.body)

-- whether there is a procedure, which takes so many arguments
abbrev pub takes : Option MidProcedure → ℕ → Bool
takes None count = false
takes (Some p) count = p.parameters == count

abbrev pub call_fits : List MidProcedure → Callee → ℕ → Bool
call_fits procedures (Procedure n) count = takes (slice_get procedures n) count
call_fits procedures (Word r) count = true

-- whether each call by number, in an operation, in a step and in code, is of a procedure that takes as many arguments
abbrev pub operation_calls : List MidProcedure → Operation → Bool
operation_calls procedures (Move to from) = true
operation_calls procedures (Constant to word) = true
operation_calls procedures (Compute to which first second) = true
operation_calls procedures (Load to base offset) = true
operation_calls procedures (Store from base offset) = true
operation_calls procedures (Request to words) = true
operation_calls procedures (Draw to base offset) = true
operation_calls procedures (Put from) = true
operation_calls procedures (Get to) = true
operation_calls procedures (Call to callee arguments) = call_fits procedures callee (length arguments)

abbrev mutual
  pub step_calls : List MidProcedure → MidStep → Bool
  step_calls procedures (perform o) = operation_calls procedures o
  step_calls procedures (choose t first second) = code_calls procedures first && code_calls procedures second
  step_calls procedures (switch r codes) = codes_call procedures codes
  step_calls procedures (repeat c head t body) = code_calls procedures head && code_calls procedures body
  step_calls procedures (with_block block words word inside landing) = code_calls procedures inside && code_calls procedures landing
  step_calls procedures (lend block words inside) = code_calls procedures inside
  step_calls procedures (return_word r) = true
  step_calls procedures (cut_to block word) = true
  step_calls procedures (halt_with r) = true
  step_calls procedures (end_unhandled class site condition) = true

  pub code_calls : List MidProcedure → MidCode → Bool
  code_calls procedures no_step = true
  code_calls procedures (step_and s c) = step_calls procedures s && code_calls procedures c

  pub codes_call : List MidProcedure → MidCodes → Bool
  codes_call procedures no_code = true
  codes_call procedures (code_and c codes) = code_calls procedures c && codes_call procedures codes

-- whether a program is in form: each of its procedures is, and so is each call
abbrev pub is_sound_in : List MidProcedure → MidProcedure → Bool
is_sound_in procedures p = is_checked p && code_calls procedures (code_of p.body)

abbrev pub is_checked_program : MidProgram → Bool
is_checked_program program = list_all (is_sound_in program.procedures) program.procedures
