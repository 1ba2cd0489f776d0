-- The instructions of as many lines as were looked at, and the position of the next table.
use Rattle.std.proofs.Common.{◌≡◌, ◌++◌, take}
use Rattle.back_program_code.specs.Joined.{joined}
use Rattle.back_program_code.specs.ShapedImage.{table_position, line_instructions}
use Rattle.back_program_code.proofs.words.put_lines.Given as goal

abbrev pub invariant-loop-i : goal.invariant-loop-i
invariant-loop-i l =
    (l.code ≡ l.fn.code ++ joined (line_instructions l.fn.front l.entries l.fn.at l.nears l.lefts l.shape) 0 (take l.i l.shape.chosen.lines))
    × (l.table ≡ table_position l.fn.front l.entries l.fn.at l.nears l.lefts l.shape l.i)
