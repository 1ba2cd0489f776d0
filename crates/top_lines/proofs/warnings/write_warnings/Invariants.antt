-- The lines of the warnings so far were given.
use Rattle.std.proofs.Common.{◌≤◌, take}
use Rattle.base.specs.Given.{WasGiven}
use Rattle.top_lines.specs.Lines.{warning_lines}
use Rattle.top_lines.proofs.warnings.write_warnings.Given as goal

abbrev pub invariant-loop-warning : goal.invariant-loop-warning
invariant-loop-warning g l = record {
  given : WasGiven (g.E.Sink.given l.initial.err) (warning_lines l.file (take l.warning-index l.warnings)) (g.E.Sink.given l.err);
  count : g.E.Sink.faults l.initial.err ≤ g.E.Sink.faults l.err;
}
