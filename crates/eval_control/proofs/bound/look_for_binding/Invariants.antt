-- How far the frames were searched.
use Rattle.std.proofs.Common.{ℕ, List}
use Rattle.eval_store.specs.Spelling.{IsSpelling}
use Rattle.eval_control.proofs.BindingsFound.{IsSeeking}
use Rattle.eval_control.proofs.bound.look_for_binding.Given as goal

abbrev pub invariant-loop-frame : goal.invariant-loop-frame
invariant-loop-frame l = (names : List (List ℕ)) → IsSpelling names l.machine.given.spellings → IsSeeking names l.name.0 l.machine.frames.items l.link l.left l.passed

abbrev pub decreases-loop-frame : goal.decreases-loop-frame
decreases-loop-frame l = l.left
