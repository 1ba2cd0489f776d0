-- The arguments that were seen are counted, and no flag is set.
use Rattle.std.proofs.Common.{[]}
use Rattle.front_cells.specs.Flags.{AreFlags}
use Rattle.front_cells.specs.Tuples.{AreTupleCounts}
use Rattle.front_cells.proofs.bounds.count_tuples.Given as goal

abbrev pub invariant-loop-argument : goal.invariant-loop-argument
invariant-loop-argument l = record {
  counted : AreTupleCounts l.classes l.generic l.argument l.counts;
  cleared : AreFlags [] l.flags;
}
