-- Blanks and tabs for the bytes so far were given.
use Rattle.std.proofs.Common.{◌≤◌, take}
use Rattle.std.specs.Prelude.{map}
use Rattle.base.specs.Given.{WasGiven}
use Rattle.top_lines.specs.Excerpts.{blank}
use Rattle.top_lines.proofs.excerpts.write_blanks.Given as goal

abbrev pub invariant-loop-byte : goal.invariant-loop-byte
invariant-loop-byte g l = record {
  given : WasGiven (g.E.Sink.given l.initial.err) (map blank (take l.byte-index l.front)) (g.E.Sink.given l.err);
  count : g.E.Sink.faults l.initial.err ≤ g.E.Sink.faults l.err;
}
