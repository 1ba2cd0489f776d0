-- The most of the lines that were looked at.
use Rattle.std.proofs.Common.{◌≡◌, take}
use Rattle.back_layout.specs.ChosenPlaces.{most_in_lines}
use Rattle.back_program_code.proofs.front.most_in_lines.Given as goal

abbrev pub invariant-loop-i : goal.invariant-loop-i
invariant-loop-i l = l.most ≡ most_in_lines (take l.i l.lines)
