use Rattle.std.proofs.Common.{◌≡◌, ◌≤◌, ◌<◌, ℕ, true}
use Rattle.std.specs.Prelude.{slice_index}
use Rattle.back_liveness.specs.Settled.{is_marked}
use Rattle.back_liveness.proofs.lives.any_marked.Given as goal

abbrev pub invariant-loop-t : goal.invariant-loop-t
invariant-loop-t l =
    (j t : ℕ) → j < l.t-index → slice_index l.aside j ≡ t → l.line < t → t ≤ l.high → is_marked l.marks t ≡ true → ⊥
