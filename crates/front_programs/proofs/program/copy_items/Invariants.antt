-- What is passed is copied.
use Rattle.std.proofs.Common.{◌≡◌, take}
use Rattle.front_programs.proofs.program.copy_items.Given as goal

abbrev pub invariant-loop-datum : goal.invariant-loop-datum
invariant-loop-datum l = l.copied ≡ take l.datum-index l.items
