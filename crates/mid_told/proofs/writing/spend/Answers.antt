use Rattle.mid_told.proofs.Writes.{too_large}
use Rattle.std.proofs.Common.{arith}
use Rattle.mid_told.proofs.writing.spend.Goals as goal

pub returns-then-left-size-clause-halts : goal.returns-then-left-size-clause-halts
returns-then-left-size-clause-halts c = λ words. too_large words c.args.part c.args.left.now (omega (arith, c.if-left-size.true, c.part_size-size.ensures))
