-- What was found stands in front of what the rest gives.
use Rattle.std.proofs.Common.{◌≡◌, drop}
use Rattle.front_profile.specs.Shapes.{clauses_in}
use Rattle.front_syntax.specs.Behind.{all_behind}
use Rattle.front_syntax.specs.Views.{view_clauses}
use Rattle.front_syntax.proofs.shapes.clauses_in.Given as goal

abbrev pub invariant-loop-item : goal.invariant-loop-item
invariant-loop-item l = all_behind (view_clauses l.clauses) (clauses_in (drop l.item-index l.items)) ≡ clauses_in l.items
