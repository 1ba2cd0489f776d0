use Rattle.std.proofs.Common.{◌≡◌, ◌++◌, drop}
use Rattle.back_allocation.specs.LineSteps.{landings_in, steps_from}
use Rattle.back_allocation.proofs.steps.steps_of.Given as goal

abbrev pub invariant-loop-at : goal.invariant-loop-at
invariant-loop-at l = l.steps ++ steps_from (landings_in l.landings) l.at (drop l.at l.lines) ≡ steps_from (landings_in l.landings) 0 l.lines
