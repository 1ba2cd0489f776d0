use Rattle.std.proofs.Common.{◌≡◌, ◌≤◌, ℕ, true}
use Rattle.back_scan.specs.Windows.{is_open}
use Rattle.back_scan.proofs.windows.without.Given as goal

abbrev pub invariant-loop-at : goal.invariant-loop-at
invariant-loop-at l = record {
  were : (r x : ℕ) → is_open l.left.items r x ≡ true → is_open l.windows r x ≡ true;
  apart : (x : ℕ) → is_open l.left.items l.number x ≡ true → l.part.from ≤ x → x ≤ l.part.to → ⊥;
}
