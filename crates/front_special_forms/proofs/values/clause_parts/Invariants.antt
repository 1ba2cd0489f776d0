-- The parts of the clauses that were seen stand in front of the rest.
use Rattle.std.proofs.Common.{◌≡◌, ◌++◌, drop}
use Rattle.front_profile.specs.ValueRows.{clause_parts}
use Rattle.front_syntax.specs.Views.{view_clauses}
use Rattle.front_drafts.specs.Views.{view_parts}
use Rattle.front_special_forms.proofs.values.clause_parts.Given as goal

abbrev pub invariant-loop-clause : goal.invariant-loop-clause
invariant-loop-clause l = view_parts l.parts ++ clause_parts (view_clauses (drop l.clause-index l.clauses)) ≡ clause_parts (view_clauses l.clauses)
