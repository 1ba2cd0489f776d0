-- The names of the slots that are left are to be added.
use Rattle.std.proofs.Common.{drop}
use Rattle.front_syntax.specs.Lacking.{each_lacks}
use Rattle.front_syntax.proofs.AskedNames.{Adding}
use Rattle.front_syntax.proofs.setters.add_by_slots.Given as goal

abbrev pub invariant-loop-slot : goal.invariant-loop-slot
invariant-loop-slot l = Adding l.initial.names l.names (drop l.slot-index l.slots) (each_lacks (drop l.slot-index l.slots)) (each_lacks l.slots)
