-- Those that are passed are marked.
use Rattle.std.proofs.Common.{false, take}
use Rattle.std.specs.List.{list_any}
use Rattle.lang_meaning.specs.declared.capture.Capture.TheVariants.{Variable, Method}
use Rattle.lang_meaning.specs.Mentions.{same_part}
use Rattle.flat_conversion.specs.Marks.{Adds}
use Rattle.flat_conversion.proofs.marks.Marks.capture.Given as goal

abbrev pub invariant-loop-at : goal.invariant-loop-at
invariant-loop-at l = Adds l.initial.self l.self (λ v. false) (λ v. list_any (same_part (Variable v)) (take l.at l.parts)) (list_any (same_part Method) (take l.at l.parts))
