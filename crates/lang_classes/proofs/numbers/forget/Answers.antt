-- Each turn forgets the last one that is left.
use Rattle.std.proofs.Common.{arith}
use Rattle.lang_classes.proofs.Cutting.{forgotten}
use Rattle.lang_classes.proofs.numbers.forget.Goals as goal

pub loop-left-preserved : goal.loop-left-preserved
loop-left-preserved c = record {
  fits = omega arith;
  above = omega arith;
  found = forgotten c.args.rows.now c.loop-left.left c.in-Some.row.now c.loop-left.numbers c.remove.new.self (omega arith)
      c.requires.named c.in-Some.ensures c.loop-left.invariant.found c.remove.ensures.updates;
}
