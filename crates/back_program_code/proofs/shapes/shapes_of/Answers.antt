use Rattle.std.proofs.Common.{◌+◌, take, refl, sym, subst}
use Rattle.back_program_code.specs.ShapesMade.{AreShapesOf}
use Rattle.back_program_code.proofs.Shaped.{item_there, shapes_more, has_registers}
use Rattle.back_program_code.proofs.shapes.shapes_of.Goals as goal

pub shape_of-requires-in-loop-procedure : goal.shape_of-requires-in-loop-procedure
shape_of-requires-in-loop-procedure c =
    let i = c.loop-procedure.procedure-index in
    has_registers c.args.program.now i c.procedure-item.result c.requires
    (item_there c.args.program.now.procedures c.as_slice-procedure-items.result.now i c.procedure-item.result c.as_slice-procedure-items.ensures c.loop-procedure-test.true
    c.procedure-item.is)

pub loop-procedure-preserved : goal.loop-procedure-preserved
loop-procedure-preserved c =
    let i = c.loop-procedure.procedure-index in
    let procedures = c.args.program.now.procedures in
    subst (AreShapesOf (take (i + 1) procedures)) (sym c.in_ok-push.ensures.ok)
    (shapes_more i (i + 1) procedures c.loop-procedure.shapes c.procedure-item.result c.in_ok-shape_of.field-0 refl
    (item_there procedures c.as_slice-procedure-items.result.now i c.procedure-item.result c.as_slice-procedure-items.ensures c.loop-procedure-test.true c.procedure-item.is)
    c.loop-procedure.invariant c.in_ok-shape_of.ensures.ok)
