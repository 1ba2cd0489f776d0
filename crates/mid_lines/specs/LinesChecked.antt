-- When lines are in form, as trees are: registers that are there, constants that are words, offsets that an instruction holds, blocks that are
-- not too large, lines that are there, and calls of procedures that are there with as many arguments as they take.
use Rattle.std.specs.Prelude.{◌≡◌, ℕ, ◌==◌, Bool, true, false, ◌&&◌, nat_le, List, length, slice_get, Option, Some, None}
use Rattle.std.specs.List.{list_all}
use Rattle.mid_code.specs.declared.operation.Callee.{Callee}
use Rattle.mid_code.specs.declared.operation.Callee.TheVariants.{Procedure, Word}
use Rattle.mid_code.specs.declared.operation.Operation.{Operation}
use Rattle.mid_code.specs.declared.operation.Operation.TheVariants.{Move, Constant, Compute, Load, Store, Request, Draw, Put, Get, Call}
use Rattle.mid_code.specs.declared.program.MidProgram.{MidProgram}
use Rattle.mid_code.specs.Checked.{is_register, is_block_size, operation_fits, test_fits, is_checked_program}
use Rattle.mid_lines.specs.declared.line.Line.{Line}
use Rattle.mid_lines.specs.declared.line.Line.TheVariants.{Do, Branch, Switch, Jump, Lay, Landed, GiveBack, Lend, GiveBackLent, Return, Cut, Halt, Unhandled}
use Rattle.mid_lines.specs.declared.line.LineProcedure.{LineProcedure}
use Rattle.mid_lines.specs.declared.line.LineProgram.{LineProgram}
use Rattle.mid_lines.specs.Flattened.{program_lines}

-- one of so many lines, or the end behind them
abbrev pub is_target : (lines : ℕ) → ℕ → Bool
is_target lines to = nat_le to lines

-- whether a line fits so many registers and lines
abbrev pub line_fits : (registers lines : ℕ) → Line → Bool
line_fits registers lines (Do o) = operation_fits registers o
line_fits registers lines (Branch t otherwise) = test_fits registers t && is_target lines otherwise
line_fits registers lines (Switch r targets) = is_register registers r && list_all (is_target lines) targets
line_fits registers lines (Jump to) = is_target lines to
line_fits registers lines (Lay block words landing) = is_register registers block && (is_block_size words && is_target lines landing)
line_fits registers lines (Landed r) = is_register registers r
line_fits registers lines (GiveBack words) = is_block_size words
line_fits registers lines (Lend block words) = is_register registers block && is_register registers words
line_fits registers lines GiveBackLent = true
line_fits registers lines (Return r) = is_register registers r
line_fits registers lines (Cut block word) = is_register registers block && is_register registers word
line_fits registers lines (Halt r) = is_register registers r
line_fits registers lines (Unhandled class site condition) = is_register registers class && (is_register registers site && is_register registers condition)

-- whether there is a procedure, which takes so many arguments
abbrev pub takes : Option LineProcedure → ℕ → Bool
takes None count = false
takes (Some p) count = p.parameters == count

abbrev pub call_fits : List LineProcedure → Callee → ℕ → Bool
call_fits procedures (Procedure n) count = takes (slice_get procedures n) count
call_fits procedures (Word r) count = true

-- whether an operation, and a line, calls by number no procedure but one that is there and takes as many arguments
abbrev pub operation_calls : List LineProcedure → Operation → Bool
operation_calls procedures (Move to from) = true
operation_calls procedures (Constant to word) = true
operation_calls procedures (Compute to which first second) = true
operation_calls procedures (Load to base offset) = true
operation_calls procedures (Store from base offset) = true
operation_calls procedures (Request to words) = true
operation_calls procedures (Draw to base offset) = true
operation_calls procedures (Put from) = true
operation_calls procedures (Get to) = true
operation_calls procedures (Call to callee arguments) = call_fits procedures callee (length arguments)

abbrev pub line_calls : List LineProcedure → Line → Bool
line_calls procedures (Do o) = operation_calls procedures o
line_calls procedures (Branch t otherwise) = true
line_calls procedures (Switch r targets) = true
line_calls procedures (Jump to) = true
line_calls procedures (Lay block words landing) = true
line_calls procedures (Landed r) = true
line_calls procedures (GiveBack words) = true
line_calls procedures (Lend block words) = true
line_calls procedures GiveBackLent = true
line_calls procedures (Return r) = true
line_calls procedures (Cut block word) = true
line_calls procedures (Halt r) = true
line_calls procedures (Unhandled class site condition) = true

-- whether a procedure of lines, and a program, is in form
abbrev pub is_sound_in : List LineProcedure → LineProcedure → Bool
is_sound_in procedures p =
    nat_le p.parameters p.registers
    && (is_block_size p.frame && (list_all (line_fits p.registers (length p.lines)) p.lines && list_all (line_calls procedures) p.lines))

abbrev pub is_checked_line_program : LineProgram → Bool
is_checked_line_program program = list_all (is_sound_in program.procedures) program.procedures

-- the lines of a program in form are in form
abbrev pub LawOfForm : Type 0
LawOfForm = (program : MidProgram) → is_checked_program program ≡ true → is_checked_line_program (program_lines program) ≡ true
