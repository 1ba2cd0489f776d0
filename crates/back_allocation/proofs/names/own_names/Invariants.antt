use Rattle.std.proofs.Common.{◌≡◌, ◌<◌, ℕ, length, get_or}
use Rattle.back_allocation.proofs.names.own_names.Given as goal

abbrev pub invariant-loop-register : goal.invariant-loop-register
invariant-loop-register l = record {
  count : length l.owners.items ≡ l.register;
  own : (k : ℕ) → k < l.register → get_or l.owners.items k 0 ≡ k;
}
