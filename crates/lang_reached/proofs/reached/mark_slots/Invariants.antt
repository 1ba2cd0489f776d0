-- The initforms of the slots that were passed are marked.
use Rattle.std.proofs.Common.{take}
use Rattle.lang_reached.specs.Search.{MarksAll, slots_bring}
use Rattle.lang_reached.proofs.reached.mark_slots.Given as goal

abbrev pub invariant-loop-at : goal.invariant-loop-at
invariant-loop-at l = MarksAll l.given.names.now l.given.program.now (slots_bring (take l.at l.slots)) l.initial.search l.search
