-- The slots so far have other names.
use Rattle.eval_primitives.specs.Computed.{IsSlotPast}
use Rattle.eval_primitives.proofs.primitives.Primitives.find_slot.Given as goal

abbrev pub invariant-loop-at : goal.invariant-loop-at
invariant-loop-at l = IsSlotPast l.self l.spelt l.slots l.at
