-- A class more.
use Rattle.std.proofs.Common.{get_or, refl, rules}
use Rattle.front_cells.proofs.Counting.{one_raised, number_at}
use Rattle.front_cells.proofs.groups.raise_all.Goals as goal

pub loop-class-preserved : goal.loop-class-preserved
loop-class-preserved c =
    let there = number_at c.args.classes.now c.args.classes.now c.loop-class.class-index refl c.loop-class-test.true in
    one_raised c.args.classes.now c.loop-class.class-index (get_or c.args.classes.now c.loop-class.class-index 0) c.args.counts.now c.loop-class.counts c.raise.new.counts
    there (c.raise.ensures (search rules)) c.loop-class.invariant
