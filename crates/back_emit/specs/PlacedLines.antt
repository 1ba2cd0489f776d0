-- The spots of the lines of a procedure with their positions, which are known from what is left, and the code from these spots.
use Rattle.std.specs.Prelude.{ℕ, ◌+◌, ◌-◌, Bool, List, slice_index}
use Rattle.mid_code.specs.declared.operation.Callee.{Callee}
use Rattle.mid_code.specs.declared.operation.Callee.TheVariants.{Procedure, Word}
use Rattle.mid_code.specs.declared.operation.Operation.{Operation}
use Rattle.mid_code.specs.declared.operation.Operation.TheVariants as operation
use Rattle.mid_lines.specs.declared.line.Line.{Line}
use Rattle.mid_lines.specs.declared.line.Line.TheVariants.{Do, Branch, Jump, Lay}
use Rattle.back_emit.specs.declared.spots.Spot.{Spot}
use Rattle.back_emit.specs.declared.spots.Sizing.{Sizing}
use Rattle.back_emit.specs.declared.ways.FrameWay.{FrameWay}
use Rattle.back_emit.specs.PlacedSizes.{sizing_spot}

-- the position of a line, in a body at a position
abbrev pub line_position : (lefts : List ℕ) → (body line : ℕ) → ℕ
line_position lefts body line = body + (slice_index lefts 0 - slice_index lefts line)

-- where a line jumps, or its landing; entries are those of procedures, by their numbers
abbrev pub callee_position : (entries : List ℕ) → Callee → ℕ
callee_position entries (Procedure n) = slice_index entries n
callee_position entries (Word r) = 0

abbrev pub operation_goes : (entries : List ℕ) → Operation → ℕ
operation_goes entries (operation.Call to callee arguments) = callee_position entries callee
operation_goes entries o = 0

abbrev pub line_goes : (lefts entries : List ℕ) → (body : ℕ) → Line → ℕ
line_goes lefts entries body (Do o) = operation_goes entries o
line_goes lefts entries body (Branch t otherwise) = line_position lefts body otherwise
line_goes lefts entries body (Jump to) = line_position lefts body to
line_goes lefts entries body (Lay block words landing) = line_position lefts body landing
line_goes lefts entries body x = 0

-- the spot of a line with its positions, and that of its table
abbrev pub placed_spot : Sizing → List FrameWay → List Bool → (lefts entries : List ℕ) → (body line table : ℕ) → Line → Spot
placed_spot z ways nears lefts entries body line table x = record (sizing_spot z ways nears line) {
  at = line_position lefts body line;
  next = line_position lefts body (line + 1);
  to = line_goes lefts entries body x;
  table = table;
}
