use Rattle.std.proofs.Common.{ℕ, ◌<◌}
use Rattle.back_liveness.specs.Heads.{IsNestedAt}
use Rattle.back_liveness.proofs.heads.is_nested.Given as goal

abbrev pub invariant-loop-t : goal.invariant-loop-t
invariant-loop-t l = (t : ℕ) → l.h < t → t < l.t → IsNestedAt l.earliest l.latest l.h t
