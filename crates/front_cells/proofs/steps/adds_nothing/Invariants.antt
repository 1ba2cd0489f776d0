-- At no argument that was seen, and no flag is set.
use Rattle.std.proofs.Common.{[], ℕ, ◌<◌}
use Rattle.lang_meaning.specs.Cells.{argument_classes}
use Rattle.front_cells.specs.Flags.{AreFlags}
use Rattle.front_cells.specs.Copies.{IsCopy}
use Rattle.front_cells.proofs.steps.adds_nothing.Given as goal

abbrev pub invariant-loop-argument : goal.invariant-loop-argument
invariant-loop-argument l = record {
  cleared : AreFlags [] l.flags;
  nothing : (i : ℕ) → i < l.argument → IsCopy l.classes (argument_classes l.generic i) l.class;
}
