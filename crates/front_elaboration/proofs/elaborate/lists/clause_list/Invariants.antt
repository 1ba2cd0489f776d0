-- The clauses made so far stand in front of those still to be made.
use Rattle.std.proofs.Common.{◌≡◌, drop}
use Rattle.front_profile.specs.Elaborations.{make_clauses}
use Rattle.front_elaboration.proofs.MakingGroups.{clauses_before}
use Rattle.front_elaboration.proofs.elaborate.lists.clause_list.Given as goal

abbrev pub invariant-loop-length : goal.invariant-loop-length
invariant-loop-length l = clauses_before l.list (make_clauses (drop l.length-index l.lengths) l.queue) ≡ make_clauses l.lengths l.fn.forms
