-- The words of the slots so far.
use Rattle.std.proofs.Common.{◌≡◌, ◌++◌, take}
use Rattle.mid_start.specs.Settling.{slot_words}
use Rattle.mid_start.proofs.classes.push_slots.Given as goal

abbrev pub invariant-loop-at : goal.invariant-loop-at
invariant-loop-at l = l.words ≡ l.fn.words ++ slot_words (take l.at l.slots)
