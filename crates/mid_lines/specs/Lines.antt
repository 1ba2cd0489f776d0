-- The lines of a program's procedures, by their numbers.
use Rattle.std.specs.Prelude.{ℕ, List, [], slice_get, Option, Some, None}
use Rattle.mid_lines.specs.declared.line.Line.{Line}
use Rattle.mid_lines.specs.declared.line.LineProcedure.{LineProcedure}
use Rattle.mid_lines.specs.declared.line.LineProgram.{LineProgram}

-- the lines of a procedure, and none where it is not there
abbrev pub lines_in : Option LineProcedure → List Line
lines_in None = []
lines_in (Some p) = p.lines

-- the lines of the procedure of a number
abbrev pub lines_of : LineProgram → ℕ → List Line
lines_of program number = lines_in (slice_get program.procedures number)

-- a line of the procedure of a number; none where it is not there
abbrev pub line_of : LineProgram → (number line : ℕ) → Option Line
line_of program number line = slice_get (lines_of program number) line
