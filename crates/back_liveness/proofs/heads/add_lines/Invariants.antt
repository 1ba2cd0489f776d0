use Rattle.back_liveness.specs.Heads.{AreHeadsOf, AreSources}
use Rattle.back_liveness.proofs.heads.add_lines.Given as goal

abbrev pub invariant-loop-line : goal.invariant-loop-line
invariant-loop-line l = record {
  heads : AreHeadsOf l.steps l.line l.earliest l.latest;
  sources : AreSources l.steps l.initial.earliest l.initial.latest → AreSources l.steps l.earliest l.latest;
}
