-- How far the search has come.
use Rattle.std.proofs.Common.{◌≡◌, ℕ, List}
use Rattle.std.specs.Prelude.{reverse}
use Rattle.lang_meaning.specs.State.{exits_from}
use Rattle.eval_state.specs.Chains.{chained}
use Rattle.eval_state.specs.Frames.{exit_link}
use Rattle.eval_control.proofs.remaining.exits_from.Given as goal

abbrev pub invariant-loop-frame : goal.invariant-loop-frame
invariant-loop-frame l = (names : List (List ℕ)) → exits_from l.number (chained (exit_link names) (reverse l.machine.frames.items) l.link) ≡ exits_from l.number (chained (exit_link names) (reverse l.machine.frames.items) l.left)

abbrev pub decreases-loop-frame : goal.decreases-loop-frame
decreases-loop-frame l = l.left
