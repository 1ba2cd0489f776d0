use Rattle.mid_told.proofs.Tells.{SlotsPassed}
use Rattle.mid_told.proofs.telling.tell_slots.Given as goal

abbrev pub invariant-loop-k : goal.invariant-loop-k
invariant-loop-k l = SlotsPassed l.from l.first l.k-end l.fn.out l.out l.k
