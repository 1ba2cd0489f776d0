-- The classes so far.
use Rattle.std.proofs.Common.{◌≡◌, map, take}
use Rattle.eval_primitives.specs.Serious.{is_serious_row}
use Rattle.eval_primitives.proofs.primitives.serious_classes.Given as goal

abbrev pub invariant-loop-row : goal.invariant-loop-row
invariant-loop-row l = l.serious.items ≡ map is_serious_row (take l.row-index l.row-items)
