-- The lengths of the clauses that were seen.
use Rattle.std.proofs.Common.{◌≡◌, take}
use Rattle.front_profile.specs.ValueRows.{clause_lengths}
use Rattle.front_syntax.specs.Views.{view_clauses}
use Rattle.front_special_forms.proofs.values.clause_lengths.Given as goal

abbrev pub invariant-loop-clause : goal.invariant-loop-clause
invariant-loop-clause l = l.lengths ≡ clause_lengths (view_clauses (take l.clause-index l.clauses))
