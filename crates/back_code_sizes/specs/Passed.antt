-- How many arguments calls pass and procedures take, all together: the words for arguments that an image has are as many as its longest call passes, and
-- so no more than these.
use Rattle.std.specs.Prelude.{ℕ, ◌+◌, List, [], ◌∷◌, length}
use Rattle.mid_code.specs.declared.operation.Operation.{Operation}
use Rattle.mid_code.specs.declared.operation.Operation.TheVariants.{Call}
use Rattle.mid_code.specs.declared.program.MidProcedure.{MidProcedure}
use Rattle.mid_code.specs.MidCode.{MidStep, perform, choose, switch, repeat, with_block, lend, return_word, cut_to, halt_with, end_unhandled, MidCode, no_step, step_and, MidCodes, no_code, code_and, code_of}

abbrev pub operation_passes : Operation → ℕ
operation_passes (Call to callee arguments) = length arguments
operation_passes o = 0

abbrev mutual
  pub step_passes : MidStep → ℕ
  step_passes (perform o) = operation_passes o
  step_passes (choose t first second) = code_passes first + code_passes second
  step_passes (switch r codes) = codes_pass codes
  step_passes (repeat c head t body) = code_passes head + code_passes body
  step_passes (with_block b n w inside landing) = code_passes inside + code_passes landing
  step_passes (lend b n inside) = code_passes inside
  step_passes (return_word r) = 0
  step_passes (cut_to b w) = 0
  step_passes (halt_with r) = 0
  step_passes (end_unhandled class site condition) = 0

  pub code_passes : MidCode → ℕ
  code_passes no_step = 0
  code_passes (step_and s c) = step_passes s + code_passes c

  pub codes_pass : MidCodes → ℕ
  codes_pass no_code = 0
  codes_pass (code_and c codes) = code_passes c + codes_pass codes

abbrev pub procedure_passes : MidProcedure → ℕ
procedure_passes p = p.parameters + code_passes (code_of p.body)

abbrev pub procedures_pass : List MidProcedure → ℕ
procedures_pass [] = 0
procedures_pass (p ∷ more) = procedure_passes p + procedures_pass more
