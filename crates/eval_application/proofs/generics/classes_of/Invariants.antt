-- The classes of the values so far.
use Rattle.std.proofs.Common.{take}
use Rattle.eval_state.specs.Frames.{last_of}
use Rattle.eval_application.specs.Generics.{AreClassesOf}
use Rattle.eval_application.proofs.generics.classes_of.Given as goal

abbrev pub invariant-loop-at : goal.invariant-loop-at
invariant-loop-at l = AreClassesOf l.machine (take l.at (last_of l.count l.machine.operands.items)) l.classes
