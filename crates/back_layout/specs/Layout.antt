-- Where all stands in the image. At its front are the words laid beside the code, those in which arguments are passed, and the table of
-- procedures; then the code that begins a run, that which ends it, that for want of words, and procedure behind procedure.
use Rattle.std.specs.Prelude.{ℕ, ◌+◌, ◌-◌, ◌^◌, Bool, false, ◌&&◌, nat_lt, nat_le, length, take, slice_get, slice_index, Option, Some, None}
use Rattle.mid_code.specs.declared.operation.Callee.TheVariants.{Procedure}
use Rattle.mid_code.specs.declared.operation.Operation.TheVariants.{Call}
use Rattle.mid_lines.specs.declared.line.Line.{Line}
use Rattle.mid_lines.specs.declared.line.Line.TheVariants.{Do, Branch, Jump}
use Rattle.mid_lines.specs.declared.line.LineProgram.{LineProgram}
use Rattle.mid_lines.specs.Lines.{line_of}
use Rattle.back_places.specs.Places.{Located}
use Rattle.back_places.specs.LineCode.{before_call_code, tested_code, behind_code}
use Rattle.back_layout.specs.Sizes.{at_positions, unplaced, procedure_rests, entry_size, all_targets, lines_there, code_size}

-- the jump to the procedure in which a run begins, behind the table of procedures
abbrev pub start_words : ℕ
start_words = 2

-- the code that ends a run, and that for want of words
abbrev pub end_words : ℕ
end_words = 3

abbrev pub full_words : ℕ
full_words = 6

abbrev pub start_at : LineProgram → Located → ℕ
start_at program l = length program.laid + l.argument_words + length program.procedures

-- what stands in front of all procedures
abbrev pub with_front : LineProgram → Located → Located
with_front program l = record l {
  arguments_at = length program.laid;
  procedures_at = length program.laid + l.argument_words;
  end_at = start_at program l + start_words;
  full_at = start_at program l + start_words + end_words;
  code_from = length program.laid + l.argument_words;
}

-- the position behind it
abbrev pub first_at : LineProgram → Located → ℕ
first_at program l = start_at program l + start_words + end_words + full_words

-- the positions of procedures, one behind the other; of lines, from their procedure's on; of tables, behind the lines
abbrev pub entry_place : LineProgram → Located → (number : ℕ) → ℕ
entry_place program l number = first_at program l + code_size l 0 (take number program.procedures)

abbrev pub body_place : LineProgram → Located → (number : ℕ) → ℕ
body_place program l number = entry_place program l number + entry_size l number (slice_get program.procedures number)

abbrev pub line_place : LineProgram → Located → (number line : ℕ) → ℕ
line_place program l number line =
    body_place program l number
    + (slice_index (procedure_rests l number (slice_get program.procedures number)) 0
    - slice_index (procedure_rests l number (slice_get program.procedures number)) line)

abbrev pub table_place : LineProgram → Located → (number line : ℕ) → ℕ
table_place program l number line =
    body_place program l number + slice_index (procedure_rests l number (slice_get program.procedures number)) 0
    + length (all_targets (take line (lines_there (slice_get program.procedures number))))

-- what stands behind the jump of a call ends at the next line
abbrev pub behind_size : Located → (number line : ℕ) → Option Line → ℕ
behind_size l number line None = 0
behind_size l number line (Some x) = length (behind_code (unplaced l) number line x)

abbrev pub back_place : LineProgram → Located → (number line : ℕ) → ℕ
back_place program l number line = line_place program l number (line + 1) - behind_size l number line (line_of program number line)

-- all positions, with jumps near or far as was decided
abbrev pub placed : LineProgram → Located → Located
placed program l =
    at_positions (entry_place program l) (line_place program l) (back_place program l) (table_place program l)
    (first_at program l + code_size l 0 program.procedures) l

-- no jump is near
abbrev pub all_far : Located → Located
all_far l = record l { near = λ number line. false }

-- how far a branch, and a jump, goes in its short form
abbrev pub is_near_branch : (from to : ℕ) → Bool
is_near_branch from to = nat_lt to (from + 2 ^ 10) && nat_le from (to + 2 ^ 10)

abbrev pub is_near_jump : (from to : ℕ) → Bool
is_near_jump from to = nat_lt to (from + 2 ^ 18) && nat_le from (to + 2 ^ 18)

-- whether the jump of a line is near at these positions
abbrev pub line_is_near : Located → (number line : ℕ) → Line → Bool
line_is_near l number line (Do (Call to (Procedure n) arguments)) =
    is_near_jump (l.line_at number line + length (before_call_code l number line (Procedure n) arguments)) (l.entry_at n)
line_is_near l number line (Branch t otherwise) =
    is_near_branch (l.line_at number line + length (tested_code l number line t.first t.second)) (l.line_at number otherwise)
line_is_near l number line (Jump to) = is_near_jump (l.line_at number line) (l.line_at number to)
line_is_near l number line x = false

abbrev pub near_in : Located → (number line : ℕ) → Option Line → Bool
near_in l number line None = false
near_in l number line (Some x) = line_is_near l number line x

-- the positions with all jumps far
abbrev pub far_placed : LineProgram → Located → Located
far_placed program l = placed program (all_far (with_front program l))

-- jumps are near where they would be with all jumps far
abbrev pub with_near : LineProgram → Located → Located
with_near program l = record (with_front program l) {
  near = λ number line. near_in (far_placed program l) number line (line_of program number line);
}

-- the layout: what is decided, with all positions
abbrev pub laid_out : LineProgram → Located → Located
laid_out program l = placed program (with_near program l)
