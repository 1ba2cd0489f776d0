-- Trees of steps as lists of lines. The code of a step begins at a given line and goes on at the line behind its last one.
use Rattle.std.specs.Prelude.{ℕ, ◌+◌, List, [], ◌∷◌, ◌++◌, map, slice_set}
use Rattle.mid_code.specs.declared.operation.Test.{Test}
use Rattle.mid_code.specs.declared.program.MidProcedure.{MidProcedure}
use Rattle.mid_code.specs.declared.program.MidProgram.{MidProgram}
use Rattle.mid_code.specs.MidCode.{MidStep, perform, choose, switch, repeat, with_block, lend, return_word, cut_to, halt_with, end_unhandled, MidCode, no_step, step_and, MidCodes, no_code, code_and, code_of}
use Rattle.mid_lines.specs.declared.line.Line.{Line}
use Rattle.mid_lines.specs.declared.line.Line.TheVariants.{Do, Branch, Switch, Jump, Lay, Landed, GiveBack, Lend, GiveBackLent, Return, Cut, Halt, Unhandled}
use Rattle.mid_lines.specs.declared.line.LineProcedure.{LineProcedure}
use Rattle.mid_lines.specs.declared.line.LineProgram.{LineProgram}

-- how many lines a step has, and code
abbrev mutual
  pub step_line_count : MidStep → ℕ
  step_line_count (perform o) = 1
  step_line_count (choose t first second) = 1 + line_count first + 1 + line_count second + 1
  step_line_count (switch r codes) = 1 + codes_line_count codes
  step_line_count (repeat counted head t body) = line_count head + 1 + line_count body + 1
  step_line_count (with_block block words word inside landing) = 1 + line_count inside + 3 + line_count landing + 1
  step_line_count (lend block words inside) = 1 + line_count inside + 1
  step_line_count (return_word r) = 1
  step_line_count (cut_to block word) = 1
  step_line_count (halt_with r) = 1
  step_line_count (end_unhandled class site condition) = 1

  pub line_count : MidCode → ℕ
  line_count no_step = 0
  line_count (step_and s c) = step_line_count s + line_count c

  pub codes_line_count : MidCodes → ℕ
  codes_line_count no_code = 0
  codes_line_count (code_and c codes) = line_count c + 1 + codes_line_count codes

-- a choice: the branch to the second code, the first code and a jump to the end, the second code and a jump to the end
abbrev pub choice_lines : Test → (second_at end : ℕ) → (first second : List Line) → List Line
choice_lines t second_at end first second = Branch t second_at ∷ (first ++ (Jump end ∷ (second ++ Jump end ∷ [])))

-- the lines at which the codes of a switch begin, where the first one begins at a line and a jump stands behind each
abbrev pub code_targets : (at : ℕ) → MidCodes → List ℕ
code_targets at no_code = []
code_targets at (code_and c codes) = at ∷ code_targets (at + line_count c + 1) codes

-- the lines of these jumps
abbrev pub code_jumps : (at : ℕ) → MidCodes → List ℕ
code_jumps at no_code = []
code_jumps at (code_and c codes) = (at + line_count c) ∷ code_jumps (at + line_count c + 1) codes

-- lines with a jump to an end written at some of them
abbrev pub jumps_written : List ℕ → (end : ℕ) → List Line → List Line
jumps_written [] end lines = lines
jumps_written (j ∷ jumps) end lines = jumps_written jumps end (slice_set lines j (Jump end))

-- a loop: the head, the branch to the end, the body and a jump to the head
abbrev pub loop_lines : Test → (at end : ℕ) → (head body : List Line) → List Line
loop_lines t at end head body = head ++ (Branch t end ∷ (body ++ Jump at ∷ []))

-- A control record: the laying, the inside, the give-back and a jump to the end, the head of the landing, the landing and the give-back.
abbrev pub record_lines : (block words word landing_at end : ℕ) → (inside landing : List Line) → List Line
record_lines block words word landing_at end inside landing =
    Lay block words landing_at ∷ (inside ++ (GiveBack words ∷ Jump end ∷ Landed word ∷ (landing ++ GiveBack words ∷ [])))

-- the lines of a step, and of code, from a line on
abbrev mutual
  pub step_lines : (at : ℕ) → MidStep → List Line
  step_lines at (perform o) = Do o ∷ []
  step_lines at (choose t first second) =
      choice_lines t (at + 1 + line_count first + 1) (at + (1 + line_count first + 1 + line_count second + 1))
      (code_lines (at + 1) first) (code_lines (at + 1 + line_count first + 1) second)
  step_lines at (switch r codes) = Switch r (code_targets (at + 1) codes) ∷ codes_lines (at + 1) (at + (1 + codes_line_count codes)) codes
  step_lines at (repeat counted head t body) =
      loop_lines t at (at + (line_count head + 1 + line_count body + 1)) (code_lines at head) (code_lines (at + line_count head + 1) body)
  step_lines at (with_block block words word inside landing) =
      record_lines block words word (at + 1 + line_count inside + 2) (at + (1 + line_count inside + 3 + line_count landing + 1))
      (code_lines (at + 1) inside) (code_lines (at + 1 + line_count inside + 3) landing)
  step_lines at (lend block words inside) = Lend block words ∷ (code_lines (at + 1) inside ++ GiveBackLent ∷ [])
  step_lines at (return_word r) = Return r ∷ []
  step_lines at (cut_to block word) = Cut block word ∷ []
  step_lines at (halt_with r) = Halt r ∷ []
  step_lines at (end_unhandled class site condition) = Unhandled class site condition ∷ []

  pub code_lines : (at : ℕ) → MidCode → List Line
  code_lines at no_step = []
  code_lines at (step_and s c) = step_lines at s ++ code_lines (at + step_line_count s) c

  -- the codes of a switch, with a jump to the end behind each
  pub codes_lines : (at end : ℕ) → MidCodes → List Line
  codes_lines at end no_code = []
  codes_lines at end (code_and c codes) = code_lines at c ++ (Jump end ∷ codes_lines (at + line_count c + 1) end codes)

-- a procedure, and a program, of lines
abbrev pub procedure_lines : MidProcedure → LineProcedure
procedure_lines p = record {
  counted = p.counted;
  parameters = p.parameters;
  registers = p.registers;
  frame = p.frame;
  lines = code_lines 0 (code_of p.body);
}

abbrev pub program_lines : MidProgram → LineProgram
program_lines program = record { procedures = map procedure_lines program.procedures; laid = program.laid }
