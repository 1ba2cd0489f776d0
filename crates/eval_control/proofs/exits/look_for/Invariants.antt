-- How far the search has come.
use Rattle.std.proofs.Common.{ℕ, List}
use Rattle.eval_store.specs.Spelling.{IsSpelling}
use Rattle.eval_control.proofs.Looking.{IsLooking}
use Rattle.eval_control.proofs.exits.look_for.Given as goal

abbrev pub invariant-loop-frame : goal.invariant-loop-frame
invariant-loop-frame l = (names : List (List ℕ)) → IsSpelling names l.machine.given.spellings → IsLooking names l.sought l.machine.frames.items l.link l.left l.passed

abbrev pub decreases-loop-frame : goal.decreases-loop-frame
decreases-loop-frame l = l.left
