-- After each stretch of rows and the turn behind it the run goes on, and machine, source and sink stand where it
-- stands.
use Rattle.std.proofs.Common.{◌≡◌, ℕ, List, ◌+◌, ◌-◌, ◌≤◌}
use Rattle.rv_machine.specs.Run.{first, run_from, Feeds, outside}
use Rattle.rv_machine.proofs.Turns.{Passed}
use Rattle.rv_machine.proofs.machine.Machine.run.Given as goal

abbrev pub invariant-loop-done : goal.invariant-loop-done
invariant-loop-done g l = record {
  below : l.done ≤ l.n;
  passed :
      (input : List ℕ)
      → Feeds (g.S.Source.left l.fn.source) input (run_from l.done (first l.fn.self.state input))
      → Passed l.done input l.fn.self l.self
      (outside (g.S.Source.left l.fn.source) (g.K.Sink.given l.fn.sink) (g.K.Sink.writes l.fn.sink))
      (outside (g.S.Source.left l.source) (g.K.Sink.given l.sink) (g.K.Sink.writes l.sink)) (l.sink ≡ l.fn.sink);
  unread :
      (input : List ℕ) → (run_from l.done (first l.fn.self.state input)).at.gets ≡ 0 → l.source ≡ l.fn.source;
  counted : l.self.count ≡ l.fn.self.count + l.done;
  source_faults : g.S.Source.faults l.fn.source ≤ g.S.Source.faults l.source;
  sink_faults : g.K.Sink.faults l.fn.sink ≤ g.K.Sink.faults l.sink;
}

abbrev pub decreases-loop-done : goal.decreases-loop-done
decreases-loop-done g l = l.n - l.done
