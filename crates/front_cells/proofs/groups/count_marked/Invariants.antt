-- The groups of the classes that were seen are counted.
use Rattle.std.proofs.Common.{ℕ, List}
use Rattle.front_cells.specs.Flags.{AreFlags}
use Rattle.front_cells.specs.Groups.{AreCounted, groups_to}
use Rattle.front_cells.proofs.groups.count_marked.Given as goal

abbrev pub invariant-loop-class : goal.invariant-loop-class
invariant-loop-class l = (column : List ℕ) → AreFlags column l.flags → AreCounted l.classes (groups_to l.classes column l.class) l.counts
