-- A method more is marked.
use Rattle.std.proofs.Common.{◌-◌, arith}
use Rattle.lang_rows.proofs.Marking.{method_marked}
use Rattle.back_tables.proofs.methods.mark_methods.Goals as goal

pub loop-at-preserved : goal.loop-at-preserved
loop-at-preserved c =
    method_marked c.args.methods.now c.loop-at.at (c.loop-at.at - 1) c.in-Some.method.now c.args.flags.now c.loop-at.flags c.mark.new.flags
    (omega (arith, c.loop-at-test.true)) c.in-Some.ensures c.loop-at.invariant c.mark.ensures
