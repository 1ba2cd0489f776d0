-- A generic function more.
use Rattle.std.proofs.Common.{rules}
use Rattle.front_cells.proofs.Estimating.{estimate_more}
use Rattle.front_cells.proofs.count.CellCount.estimates.Goals as goal

pub loop-at-preserved : goal.loop-at-preserved
loop-at-preserved c = record {
  cleared = c.in_ok-count.ensures.cleared;
  estimated =
      estimate_more c.loop-at.at c.args.classes.now c.args.generics.now c.in-Some.generic.now c.in_ok-count.count c.loop-at.found
      (record { total = c.saturating_add.result; generics = c.push.new.self }) c.in-Some.ensures c.in_ok-count.ensures.counted (search rules) (search rules) c.loop-at.invariant.estimated;
}
