-- The slots so far are told.
use Rattle.std.proofs.Common.{take}
use Rattle.eval_store.specs.Words.{slots_of}
use Rattle.eval_told.specs.Parts.{objects_of}
use Rattle.eval_told.specs.Telling.{SlotsAreTold}
use Rattle.eval_told.proofs.telling.tell_slots.Given as goal

abbrev pub invariant-loop-slot : goal.invariant-loop-slot
invariant-loop-slot l = SlotsAreTold l.names l.classes (objects_of l.names l.store) (slots_of l.names (take l.slot-index l.slot-items)) l.told
