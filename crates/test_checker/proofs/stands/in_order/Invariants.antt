-- It is left to see whether the rest stands in its order.
use Rattle.std.proofs.Common.{◌≡◌, length}
use Rattle.lang_meaning.specs.Mentions.{in_order}
use Rattle.test_checker.proofs.stands.in_order.Given as goal

abbrev pub invariant-loop-left : goal.invariant-loop-left
invariant-loop-left l = in_order l.left ≡ in_order l.parts

abbrev pub decreases-loop-left : goal.decreases-loop-left
decreases-loop-left l = length l.left
