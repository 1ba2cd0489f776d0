-- What the steps of lines weigh: a call, and a jump to its own line or an earlier one, weigh 1, and nothing else weighs anything. So whoever
-- makes instructions of lines has to give instructions to what weighs alone.
use Rattle.std.specs.Prelude.{ℕ, zero, suc, ◌+◌, nat_le, Option, Some, if◌then◌else◌}
use Rattle.mid_code.specs.declared.operation.Operation.TheVariants.{Call}
use Rattle.mid_lines.specs.declared.line.Line.{Line}
use Rattle.mid_lines.specs.declared.line.Line.TheVariants.{Do, Jump}
use Rattle.mid_lines.specs.declared.line.LineProgram.{LineProgram}
use Rattle.mid_lines.specs.Lines.{line_of}
use Rattle.mid_lines.specs.LineMeaning.{Stage, running, entering, ended, next}

-- what a line of a number weighs
abbrev pub line_weight : (line : ℕ) → Option Line → ℕ
line_weight line (Some (Do (Call to callee arguments))) = 1
line_weight line (Some (Jump to)) = if nat_le to line then 1 else 0
line_weight line other = 0

-- what a step from a stage weighs; to enter a procedure weighs nothing
abbrev pub weight : LineProgram → Stage → ℕ
weight program (running a line rs callers z) = line_weight line (line_of program a.procedure line)
weight program (entering number arguments callers z) = 0
weight program (ended e z) = 0

-- what so many steps from a stage on weigh
unfoldable pub weights : LineProgram → ℕ → Stage → ℕ
weights program zero s = 0
weights program (suc n) s = weight program s + weights program n (next program s)
