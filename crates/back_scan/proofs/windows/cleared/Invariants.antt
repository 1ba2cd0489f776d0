use Rattle.std.proofs.Common.{◌≡◌, ℕ, true, take}
use Rattle.back_liveness.specs.Liveness.{have_line}
use Rattle.back_scan.specs.Windows.{is_open}
use Rattle.back_scan.proofs.windows.cleared.Given as goal

abbrev pub invariant-loop-at : goal.invariant-loop-at
invariant-loop-at l = record {
  were : (r x : ℕ) → is_open l.left.items r x ≡ true → is_open l.initial.left.items r x ≡ true;
  apart : (x : ℕ) → is_open l.left.items l.number x ≡ true → have_line (take l.at l.own) x ≡ true → ⊥;
}
