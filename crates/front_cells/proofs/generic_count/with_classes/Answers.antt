-- A class more, which adds no group.
use Rattle.std.proofs.Common.{arith}
use Rattle.front_cells.proofs.Fewer.{first_cells, nothing_added}
use Rattle.front_cells.proofs.generic_count.with_classes.Goals as goal

pub loop-class-init : goal.loop-class-init
loop-class-init c = record {
  cleared = c.requires.cleared;
  most = omega (arith, c.requires.before.most, first_cells c.args.classes.now c.args.generic.now c.args.from c.requires.there);
}

pub loop-class-preserved : goal.loop-class-preserved
loop-class-preserved c =
    let added = nothing_added c.args.classes.now c.args.generic.now c.loop-class.class (c.adds_nothing.ensures.nothing c.if-not-adds_nothing.false) in
    record {
      cleared = c.adds_nothing.ensures.cleared;
      most = omega (arith, c.loop-class.invariant.most, added, c.requires.before.specialised, c.saturating_add-most.ensures);
    }
