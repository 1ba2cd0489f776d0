-- What was found stands in front of what the rest gives.
use Rattle.std.proofs.Common.{◌≡◌, drop}
use Rattle.front_profile.specs.MethodShapes.{specialised_of}
use Rattle.front_syntax.specs.Behind.{specialised_behind}
use Rattle.front_syntax.specs.Definitions.{view_all_asked}
use Rattle.front_syntax.proofs.methods.specialised_of.Given as goal

abbrev pub invariant-loop-at : goal.invariant-loop-at
invariant-loop-at l = specialised_behind l.required (view_all_asked l.classes) (specialised_of l.words (drop l.at l.items)) ≡ specialised_of l.words l.items
