-- The letters so far are filled in.
use Rattle.std.proofs.Common.{◌≡◌, ◌++◌, take}
use Rattle.top_made.specs.Text.{filled}
use Rattle.top_made.proofs.making.append_filled.Given as goal

abbrev pub invariant-loop-letter : goal.invariant-loop-letter
invariant-loop-letter l = l.text ≡ l.initial.text ++ filled l.number (take l.letter-index l.lines)
