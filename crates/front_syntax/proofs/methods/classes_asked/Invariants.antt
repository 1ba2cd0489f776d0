-- What was found stands in front of what the rest gives.
use Rattle.std.proofs.Common.{◌≡◌, drop}
use Rattle.front_profile.specs.MethodShapes.{classes_asked}
use Rattle.front_syntax.specs.Behind.{all_behind}
use Rattle.front_syntax.specs.Definitions.{view_all_asked}
use Rattle.front_syntax.proofs.methods.classes_asked.Given as goal

abbrev pub invariant-loop-one : goal.invariant-loop-one
invariant-loop-one l = all_behind l.found (classes_asked l.classes.rows (view_all_asked (drop l.one-index l.asked))) ≡ classes_asked l.classes.rows (view_all_asked l.asked)
