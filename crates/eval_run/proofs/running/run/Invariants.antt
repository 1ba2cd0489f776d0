-- As many forms began as there were turns.
use Rattle.eval_run.proofs.Turning.{HasTurned}
use Rattle.eval_run.proofs.running.run.Given as goal

abbrev pub invariant-loop : goal.invariant-loop
invariant-loop g l =
    HasTurned (g.S.Source.left l.initial.source) (g.S.Source.left l.source) (g.K.Sink.given l.initial.sink) (g.K.Sink.given l.sink)
    (g.S.Source.faults l.initial.source) (g.S.Source.faults l.source) (g.K.Sink.faults l.initial.sink) (g.K.Sink.faults l.sink)
    l.initial.evaluator l.evaluator l.counter
