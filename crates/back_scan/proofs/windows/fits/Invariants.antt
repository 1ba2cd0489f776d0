use Rattle.std.proofs.Common.{◌≡◌, ℕ, true, take}
use Rattle.back_liveness.specs.Liveness.{have_line}
use Rattle.back_scan.specs.Windows.{is_open}
use Rattle.back_scan.proofs.windows.fits.Given as goal

abbrev pub invariant-loop-at : goal.invariant-loop-at
invariant-loop-at l = (x : ℕ) → have_line (take l.at l.own) x ≡ true → is_open l.windows l.number x ≡ true
