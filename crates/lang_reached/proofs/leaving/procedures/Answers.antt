-- One procedure more; and at the end all are there.
use Rattle.std.proofs.Common.{◌≤◌, arith, length}
use Rattle.lang_reached.proofs.Looking.{left_next, left_all}
use Rattle.lang_reached.proofs.leaving.procedures.Goals as goal

pub loop-at-preserved : goal.loop-at-preserved
loop-at-preserved c =
    left_next c.args.marks.now c.args.list.now c.loop-at.at c.in-Some.row.now c.loop-at.left c.push.new.self c.in_ok-procedure.field-0 c.is_kept.result c.in-Some.ensures c.loop-at.invariant
    c.is_kept.ensures c.in_ok-procedure.ensures c.in_ok-push.ensures.ok

pub returns : goal.returns
returns c =
    let qs = c.args.list.now in
    let all : length qs ≤ c.loop-at.at = omega (arith, c.loop-at-test.false, c.len-at-end.ensures) in
    left_all c.args.marks.now qs c.loop-at.at c.loop-at.left all c.loop-at.invariant
