use Rattle.std.proofs.Common.{ℕ, ◌<◌}
use Rattle.back_scan.specs.Scanned.{IsTaken, taken_of}
use Rattle.back_scan.proofs.choosing.first_free.Given as goal

abbrev pub invariant-loop-r : goal.invariant-loop-r
invariant-loop-r l = (k : ℕ) → k < l.r → IsTaken (taken_of l.taken k) l.line
