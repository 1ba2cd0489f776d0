-- It is left to see what the rest says.
use Rattle.std.proofs.Common.{◌≡◌, drop}
use Rattle.front_profile.specs.ValueRows.{own_depth}
use Rattle.front_syntax.specs.Views.{view_clauses}
use Rattle.front_special_forms.proofs.values.own_depth.Given as goal

abbrev pub invariant-loop-clause : goal.invariant-loop-clause
invariant-loop-clause l = own_depth (view_clauses (drop l.clause-index l.clauses)) ≡ own_depth (view_clauses l.clauses)
