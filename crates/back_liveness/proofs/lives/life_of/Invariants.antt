use Rattle.std.proofs.Common.{◌≤◌, ◌+◌, length}
use Rattle.back_liveness.specs.Settled.{Settled, CrossingsTold, OnlyWithin, AreAlive, IsTight}
use Rattle.back_liveness.proofs.lives.life_of.Given as goal

abbrev pub invariant-loop-life : goal.invariant-loop-life
invariant-loop-life l = record {
  settled : Settled l.steps l.heads.earliest.items l.heads.latest.items l.register l.marks l.points.to l.life l.line;
  crossings : CrossingsTold l.barriers l.heads.latest.items l.register l.marks l.points.to l.life.crossed l.line;
  only : OnlyWithin l.barriers l.register l.life;
  alive : AreAlive l.steps l.register l.marks l.points.to l.line;
  tight : IsTight l.steps l.register l.life;
  ends : l.life.to ≤ length l.steps;
  need : l.life.need ≤ l.points.from;
  from : l.life.from ≤ l.points.from;
  to : l.points.to ≤ l.life.to;
  line : l.line ≤ l.points.to + 1;
}

abbrev pub decreases-loop-life : goal.decreases-loop-life
decreases-loop-life l = l.line
