use Rattle.std.proofs.Common.{◌≡◌, length}
use Rattle.back_allocation.specs.Constants.{AreWords}
use Rattle.back_allocation.proofs.constants.propose_all.Given as goal

abbrev pub invariant-loop-at : goal.invariant-loop-at
invariant-loop-at l = record {
  count : length l.constants ≡ length l.fn.constants;
  words : AreWords l.constants;
}
