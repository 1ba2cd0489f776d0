-- Where nothing was added, the count is as it was.
use Rattle.front_cells.proofs.Estimating.{current_count}
use Rattle.front_cells.proofs.count.CellCount.recount.Goals as goal

pub returns-then-is_current : goal.returns-then-is_current
returns-then-is_current c = current_count c.args.classes.now c.args.generics.now c.args.self.now c.requires (c.is_current.ensures c.if-is_current.true)
