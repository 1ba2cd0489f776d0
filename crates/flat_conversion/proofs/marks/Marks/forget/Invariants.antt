-- Those that are passed are forgotten.
use Rattle.std.proofs.Common.{take}
use Rattle.flat_conversion.specs.Marks.{Forgets}
use Rattle.flat_conversion.proofs.marks.Marks.forget.Given as goal

abbrev pub invariant-loop-at : goal.invariant-loop-at
invariant-loop-at l = Forgets (take l.at l.variables) l.initial.self l.self
