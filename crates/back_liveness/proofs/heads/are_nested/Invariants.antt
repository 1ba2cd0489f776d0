use Rattle.std.proofs.Common.{ℕ, ◌<◌, ◌≤◌}
use Rattle.std.specs.Prelude.{slice_index}
use Rattle.back_liveness.specs.Heads.{IsNestedAt}
use Rattle.back_liveness.proofs.heads.are_nested.Given as goal

abbrev pub invariant-loop-h : goal.invariant-loop-h
invariant-loop-h l = (h t : ℕ) → h < l.h → h < t → t ≤ slice_index l.latest h → IsNestedAt l.earliest l.latest h t
