-- It is left to see what the rest says.
use Rattle.std.proofs.Common.{◌≡◌, drop}
use Rattle.front_profile.specs.MethodShapes.{first_unknown}
use Rattle.front_syntax.specs.Definitions.{view_all_asked}
use Rattle.front_syntax.proofs.methods.first_unknown.Given as goal

abbrev pub invariant-loop-one : goal.invariant-loop-one
invariant-loop-one l = first_unknown l.classes.rows (view_all_asked (drop l.one-index l.asked)) ≡ first_unknown l.classes.rows (view_all_asked l.asked)
