-- What was found stands in front of what the rest gives.
use Rattle.std.proofs.Common.{◌≡◌, drop}
use Rattle.front_profile.specs.Shapes.{parameters_of}
use Rattle.front_syntax.specs.Behind.{parameters_behind}
use Rattle.front_syntax.proofs.shapes.parameters_behind.Given as goal

abbrev pub invariant-loop-at : goal.invariant-loop-at
invariant-loop-at l =
    parameters_behind l.required (parameters_of l.words (drop l.at l.items)) ≡ parameters_behind l.fn.required (parameters_of l.words l.items)
