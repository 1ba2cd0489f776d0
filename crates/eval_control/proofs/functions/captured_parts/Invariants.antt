-- What is captured of the places that are passed.
use Rattle.std.proofs.Common.{take}
use Rattle.eval_control.proofs.MadeFunctions.{AreCaptured}
use Rattle.eval_control.proofs.functions.captured_parts.Given as goal

abbrev pub invariant-loop-part : goal.invariant-loop-part
invariant-loop-part l = AreCaptured l.machine l.situation l.list (take l.part-index l.part-items)
