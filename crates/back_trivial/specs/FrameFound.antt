-- When the frame is found at each line of a tree: the way to it past the records around a step has as many words of it as there are registers,
-- and one more, and where the step is a return, it is from the stack pointer.
use Rattle.std.specs.Prelude.{◌≡◌, ◌<◌, ℕ, ◌+◌, Bool, true, false, ◌&&◌, nat_lt}
use Rattle.std.specs.List.{list_all}
use Rattle.mid_code.specs.declared.program.MidProcedure.{MidProcedure}
use Rattle.mid_code.specs.declared.program.MidProgram.{MidProgram}
use Rattle.mid_code.specs.Arena.{header_words}
use Rattle.mid_code.specs.MidCode.{MidStep, perform, choose, switch, repeat, with_block, lend, return_word, cut_to, halt_with, end_unhandled, MidCode, no_step, step_and, MidCodes, no_code, code_and, code_of}
use Rattle.back_places.specs.Places.{Way, from_stack, past_record, past_block, reachable, is_from_stack}

module _ (registers frame : ℕ) where
  -- whether the way reaches the words of that many registers, behind the return address
  abbrev pub reaches_all : Way → Bool
  reaches_all way = nat_lt registers (reachable way frame)

  -- steps, code and codes that stand at a way
  abbrev mutual
    pub step_finds : Way → MidStep → Bool
    step_finds way (perform o) = true
    step_finds way (choose t first second) = code_finds way first && code_finds way second
    step_finds way (switch r codes) = codes_find way codes
    step_finds way (repeat counted head t body) = code_finds way head && code_finds way body
    step_finds way (with_block block words word inside landing) =
        reaches_all (past_record (words + header_words) way)
        && (code_finds (past_record (words + header_words) way) inside && code_finds (past_record (words + header_words) way) landing)
    step_finds way (lend block words inside) = reaches_all (past_block way) && code_finds (past_block way) inside
    step_finds way (return_word r) = is_from_stack way
    step_finds way (cut_to block word) = true
    step_finds way (halt_with r) = true
    step_finds way (end_unhandled class site condition) = true

    pub code_finds : Way → MidCode → Bool
    code_finds way no_step = true
    code_finds way (step_and s c) = step_finds way s && code_finds way c

    pub codes_find : Way → MidCodes → Bool
    codes_find way no_code = true
    codes_find way (code_and c codes) = code_finds way c && codes_find way codes

-- a procedure whose body begins with the frame at the stack pointer, and a program of such ones
abbrev pub procedure_finds : MidProcedure → Bool
procedure_finds p = reaches_all p.registers p.frame (from_stack 0) && code_finds p.registers p.frame (from_stack 0) (code_of p.body)

abbrev pub finds_frames : MidProgram → Bool
finds_frames program = list_all procedure_finds program.procedures

-- code that lends no block
abbrev mutual
  pub step_lends_none : MidStep → Bool
  step_lends_none (perform o) = true
  step_lends_none (choose t first second) = lends_none first && lends_none second
  step_lends_none (switch r codes) = codes_lend_none codes
  step_lends_none (repeat counted head t body) = lends_none head && lends_none body
  step_lends_none (with_block block words word inside landing) = lends_none inside && lends_none landing
  step_lends_none (lend block words inside) = false
  step_lends_none (return_word r) = true
  step_lends_none (cut_to block word) = true
  step_lends_none (halt_with r) = true
  step_lends_none (end_unhandled class site condition) = true

  pub lends_none : MidCode → Bool
  lends_none no_step = true
  lends_none (step_and s c) = step_lends_none s && lends_none c

  pub codes_lend_none : MidCodes → Bool
  codes_lend_none no_code = true
  codes_lend_none (code_and c codes) = lends_none c && codes_lend_none codes

-- such code finds its frame, whatever records stand, where the frame has more words than there are registers
abbrev pub LawOfNoLent : Type 0
LawOfNoLent = (p : MidProcedure) → lends_none (code_of p.body) ≡ true → p.registers < p.frame → procedure_finds p ≡ true
