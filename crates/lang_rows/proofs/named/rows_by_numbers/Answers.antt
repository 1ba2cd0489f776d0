-- A function more is noted.
use Rattle.std.proofs.Common.{◌-◌, arith}
use Rattle.lang_rows.proofs.Numbering.{function_noted}
use Rattle.lang_rows.proofs.named.rows_by_numbers.Goals as goal

pub loop-at-preserved : goal.loop-at-preserved
loop-at-preserved c =
    function_noted c.args.names.now c.args.functions.now c.loop-at.at (c.loop-at.at - 1) c.in-Some.function.now c.loop-at.rows c.note.new.rows
    (omega (arith, c.loop-at-test.true)) c.in-Some.ensures c.loop-at.invariant c.note.ensures
