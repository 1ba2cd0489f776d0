use Rattle.std.proofs.Common.{length}
use Rattle.back_allocation.specs.NamesFound.{owner_in, AreOverwritten}
use Rattle.back_allocation.proofs.names.overwritten_of.Given as goal

abbrev pub invariant-loop-at : goal.invariant-loop-at
invariant-loop-at l =
    AreOverwritten l.named (owner_in l.names.owners.items) (length l.names.owners.items) l.barriers.items l.at
