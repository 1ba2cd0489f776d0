-- So many steps were done, in which no form began.
use Rattle.eval_step.specs.Advanced.{HasReached}
use Rattle.eval_step.proofs.evaluator.Evaluator.to_form.Given as goal

abbrev pub invariant-loop : goal.invariant-loop
invariant-loop l = HasReached l.initial.self l.self l.counter
