-- The tables of as many lines as were looked at.
use Rattle.std.proofs.Common.{◌≡◌, ◌++◌, take}
use Rattle.back_program_code.specs.Joined.{joined}
use Rattle.back_program_code.specs.ShapedImage.{line_table}
use Rattle.back_program_code.proofs.words.put_tables.Given as goal

abbrev pub invariant-loop-i : goal.invariant-loop-i
invariant-loop-i l =
    l.words ≡ l.fn.words ++ joined (line_table l.fn.front l.fn.entries l.fn.at l.fn.nears l.lefts l.shape) 0 (take l.i l.shape.chosen.lines)
