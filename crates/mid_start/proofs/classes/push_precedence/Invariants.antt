-- The numbers so far.
use Rattle.std.proofs.Common.{◌≡◌, ◌++◌, take}
use Rattle.mid_start.specs.Settling.{precedence_words}
use Rattle.mid_start.proofs.classes.push_precedence.Given as goal

abbrev pub invariant-loop-at : goal.invariant-loop-at
invariant-loop-at l = l.words ≡ l.fn.words ++ precedence_words (take l.at l.classes)
