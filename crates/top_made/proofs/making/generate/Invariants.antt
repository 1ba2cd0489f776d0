-- The lines of the numbers so far stand behind the first ones.
use Rattle.std.proofs.Common.{◌≡◌, ◌++◌}
use Rattle.top_made.specs.Text.{first_lines, lines_up_to}
use Rattle.top_made.proofs.making.generate.Given as goal

abbrev pub invariant-loop-at : goal.invariant-loop-at
invariant-loop-at l = l.text ≡ first_lines ++ lines_up_to l.at
