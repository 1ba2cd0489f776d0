-- One place after another.
use Rattle.std.proofs.Common.{◌+◌, take, sym, subst, ◌∙◌, arith}
use Rattle.std.proofs.lemmas.List.{take_all}
use Rattle.eval_control.proofs.MadeFunctions.{AreCaptured, one_captured}
use Rattle.eval_control.proofs.functions.captured_parts.Goals as goal

pub loop-part-preserved : goal.loop-part-preserved
loop-part-preserved c =
    let m = c.args.machine.now in
    subst (λ xs. AreCaptured m c.args.situation xs (take (c.loop-part.part-index + 1) c.as_slice-part-items.result.now)) (sym c.in_ok-push.ensures.ok)
    (one_captured m c.args.situation c.loop-part.list c.as_slice-part-items.result.now c.in_ok-captured.captured c.loop-part.part-index _
    c.loop-part-test.true c.loop-part.invariant c.in_ok-captured.ensures)

pub returns : goal.returns
returns c =
    let m = c.args.machine.now in
    subst (AreCaptured m c.args.situation c.loop-part.list)
    (take_all c.loop-part.part-index c.as_slice-part-items.result.now (omega arith) ∙ c.as_slice-part-items.ensures)
    c.loop-part.invariant
