-- So many rows were followed, and the machine stands at the place of the next one.
use Rattle.std.proofs.Common.{◌+◌, ◌-◌, ◌≤◌}
use Rattle.rv_machine.specs.Held.{standing}
use Rattle.rv_machine.specs.Turn.{Walks}
use Rattle.rv_machine.proofs.machine.contents.Contents.walk.Given as goal

abbrev pub invariant-loop-place : goal.invariant-loop-place
invariant-loop-place l = record {
  room : l.n ≤ 4611686018427387904;
  ahead : l.place ≤ l.last;
  left : l.last ≤ l.place + l.n;
  within : l.end ≤ l.last;
  rows : l.end ≤ l.self.rows;
  bounded : l.end ≤ 16777216;
  walks : Walks (l.n - (l.last - l.place)) (standing l.fn.from l.fn.self) (standing l.place l.self);
}

abbrev pub decreases-loop-place : goal.decreases-loop-place
decreases-loop-place l = l.last - l.place
