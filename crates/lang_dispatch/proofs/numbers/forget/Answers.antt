-- Each turn forgets the last one that is left.
use Rattle.std.proofs.Common.{arith}
use Rattle.lang_dispatch.proofs.Cutting.{forgotten}
use Rattle.lang_dispatch.proofs.numbers.forget.Goals as goal

pub loop-left-preserved : goal.loop-left-preserved
loop-left-preserved c = record {
  fits = omega arith;
  above = omega arith;
  indexed = forgotten c.args.rows.now c.loop-left.left c.in-Some.row.now c.loop-left.numbers c.remove.new.self (omega arith)
      c.in-Some.ensures c.loop-left.invariant.indexed c.remove.ensures.updates;
}
