use Rattle.std.proofs.Common.{◌≡◌, length}
use Rattle.back_scan.proofs.leaving.Leaving.slot_before.Given as goal

abbrev pub invariant-loop-at : goal.invariant-loop-at
invariant-loop-at l = length l.self.entries.items ≡ l.at-end
