use Rattle.std.proofs.Common.{◌≤◌}
use Rattle.back_liveness.specs.Parts.{InParts}
use Rattle.back_liveness.proofs.parts.parts_of.Given as goal

abbrev pub invariant-loop-line : goal.invariant-loop-line
invariant-loop-line l = record {
  parts : InParts l.steps l.latest l.register l.marks l.high l.interval.from l.line l.parts l.run l.reach;
  above : l.interval.from ≤ l.line;
}
