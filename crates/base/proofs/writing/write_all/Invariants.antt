use Rattle.std.proofs.Common.{length}
use Rattle.base.proofs.Written.{FrontGiven}
use Rattle.base.proofs.writing.write_all.Given as goal

abbrev pub invariant-loop-rest : goal.invariant-loop-rest
invariant-loop-rest g l =
    FrontGiven (g.E.Sink.given l.initial.sink) (g.E.Sink.given l.sink) (g.E.Sink.faults l.initial.sink) (g.E.Sink.faults l.sink) l.bytes l.rest

abbrev pub decreases-loop-rest : goal.decreases-loop-rest
decreases-loop-rest g l = length l.rest
