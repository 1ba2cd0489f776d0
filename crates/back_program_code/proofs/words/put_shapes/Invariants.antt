-- The words of as many procedures as were looked at.
use Rattle.std.proofs.Common.{◌≡◌, ◌++◌, take}
use Rattle.back_program_code.specs.Joined.{joined}
use Rattle.back_program_code.specs.ShapedImage.{numbered_image}
use Rattle.back_program_code.proofs.words.put_shapes.Given as goal

abbrev pub invariant-loop-number : goal.invariant-loop-number
invariant-loop-number l = l.words ≡ l.fn.words ++ joined (numbered_image l.front l.entries l.nears l.lefts) 0 (take l.number l.shapes)
