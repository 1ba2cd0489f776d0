-- It has the methods that it had.
use Rattle.std.proofs.Common.{arith}
use Rattle.front_cells.proofs.Estimating.{counted_before}
use Rattle.front_cells.proofs.count.CellCount.estimate.Goals as goal

pub recounted-requires-clause-before : goal.recounted-requires-clause-before
recounted-requires-clause-before c =
    counted_before c.args.classes.now c.args.generics.now c.args.self.now c.args.at c.in-Some.count.now c.args.generic.now c.requires.before c.in-Some.ensures c.requires.there
    (omega (arith, c.if-count-len.true, c.len.ensures))
