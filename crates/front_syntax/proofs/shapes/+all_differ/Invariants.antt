-- The rest is shorter.
use Rattle.std.proofs.Common.{length}
use Rattle.front_syntax.proofs.shapes.+all_differ.Given as goal

abbrev pub decreases-all_differ : goal.decreases-all_differ
decreases-all_differ l = length l.symbols.now
