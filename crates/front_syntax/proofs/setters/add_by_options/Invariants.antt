-- The names of the options that are left are to be added.
use Rattle.std.proofs.Common.{length}
use Rattle.front_syntax.specs.Lacking.{list_lacks}
use Rattle.front_syntax.proofs.AskedNames.{Adding}
use Rattle.front_syntax.proofs.setters.add_by_options.Given as goal

abbrev pub invariant-loop-left : goal.invariant-loop-left
invariant-loop-left l = Adding l.initial.names l.names l.left (list_lacks l.left) (list_lacks l.options)

abbrev pub decreases-loop-left : goal.decreases-loop-left
decreases-loop-left l = length l.left
