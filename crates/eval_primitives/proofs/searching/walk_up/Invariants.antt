-- It was not among those that were passed.
use Rattle.eval_primitives.specs.Searching.{IsPast}
use Rattle.eval_primitives.proofs.searching.walk_up.Given as goal

abbrev pub invariant-loop-above : goal.invariant-loop-above
invariant-loop-above l = IsPast l.precedence l.class l.above-index l.passed
