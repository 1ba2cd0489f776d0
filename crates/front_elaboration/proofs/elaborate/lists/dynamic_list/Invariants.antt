-- The bindings made so far stand in front of those still to be made, and so for the forms behind all of them.
use Rattle.std.proofs.Common.{◌≡◌, drop}
use Rattle.front_profile.specs.Elaborations.{make_dynamics, behind_dynamics}
use Rattle.front_elaboration.proofs.MakingGroups.{dynamics_before}
use Rattle.front_elaboration.proofs.elaborate.lists.dynamic_list.Given as goal

abbrev pub invariant-loop-name : goal.invariant-loop-name
invariant-loop-name l = record {
  list : dynamics_before l.list (make_dynamics (drop l.name-index l.names) l.queue) ≡ make_dynamics l.names l.fn.queue;
  behind : behind_dynamics (drop l.name-index l.names) l.queue ≡ behind_dynamics l.names l.fn.queue;
}
