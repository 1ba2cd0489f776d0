-- The initforms of the classes that were passed are marked.
use Rattle.std.proofs.Common.{take}
use Rattle.lang_meaning.specs.Literals.{all_slots}
use Rattle.lang_reached.specs.Search.{MarksAll, slots_bring}
use Rattle.lang_reached.proofs.reached.mark_initforms.Given as goal

abbrev pub invariant-loop-at : goal.invariant-loop-at
invariant-loop-at l = MarksAll l.given.names.now l.given.program.now (slots_bring (all_slots (take l.at l.classes))) l.initial.search l.search
