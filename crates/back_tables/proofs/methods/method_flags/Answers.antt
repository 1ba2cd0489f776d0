-- The methods of a generic function more are marked.
use Rattle.std.proofs.Common.{◌-◌, arith}
use Rattle.lang_rows.proofs.Marking.{generic_marked}
use Rattle.back_tables.proofs.methods.method_flags.Goals as goal

pub loop-at-preserved : goal.loop-at-preserved
loop-at-preserved c =
    generic_marked c.args.count c.args.generics.now c.loop-at.at (c.loop-at.at - 1) c.in-Some.generic.now c.loop-at.flags c.mark_methods.new.flags
    (omega (arith, c.loop-at-test.true)) c.in-Some.ensures c.loop-at.invariant c.mark_methods.ensures
