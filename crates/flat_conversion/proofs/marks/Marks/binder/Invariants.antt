-- What is passed is made.
use Rattle.std.proofs.Common.{◌≡◌, take}
use Rattle.flat_conversion.specs.Marks.{marked_variables}
use Rattle.flat_conversion.proofs.marks.Marks.binder.Given as goal

abbrev pub invariant-loop-at : goal.invariant-loop-at
invariant-loop-at l = l.news ≡ marked_variables l.self (take l.at l.variables)
