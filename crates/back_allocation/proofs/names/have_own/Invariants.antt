use Rattle.std.proofs.Common.{◌≡◌, ◌<◌, ℕ}
use Rattle.back_allocation.specs.NamesFound.{owner_in}
use Rattle.back_allocation.proofs.names.have_own.Given as goal

abbrev pub invariant-loop-register : goal.invariant-loop-register
invariant-loop-register l = (k : ℕ) → k < l.register → owner_in l.owners k ≡ k
