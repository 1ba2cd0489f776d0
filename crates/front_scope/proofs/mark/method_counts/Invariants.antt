-- The counts of those that were seen.
use Rattle.std.proofs.Common.{◌≡◌, take}
use Rattle.front_profile.specs.Cuts.{method_counts}
use Rattle.front_scope.proofs.mark.method_counts.Given as goal

abbrev pub invariant-loop-generic : goal.invariant-loop-generic
invariant-loop-generic l = l.counts ≡ method_counts (take l.generic-index l.generic-items)
