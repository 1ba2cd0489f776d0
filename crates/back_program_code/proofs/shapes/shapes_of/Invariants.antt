-- As many shapes are made as procedures were looked at.
use Rattle.std.proofs.Common.{take}
use Rattle.back_program_code.specs.ShapesMade.{AreShapesOf}
use Rattle.back_program_code.proofs.shapes.shapes_of.Given as goal

abbrev pub invariant-loop-procedure : goal.invariant-loop-procedure
invariant-loop-procedure l = AreShapesOf (take l.procedure-index l.program.procedures) l.shapes
