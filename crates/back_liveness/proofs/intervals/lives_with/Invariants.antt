use Rattle.std.proofs.Common.{◌≡◌, length}
use Rattle.back_liveness.specs.Points.{EndBy, HaveLives, HaveParts, HaveCrossings}
use Rattle.back_liveness.specs.Liveness.{OnlyCrossed, AreTight}
use Rattle.back_liveness.proofs.intervals.lives_with.Given as goal

abbrev pub invariant-loop-register : goal.invariant-loop-register
invariant-loop-register l = record {
  count : length l.intervals ≡ l.register;
  count_parts : length l.parts ≡ l.register;
  count_crossed : length l.crossed ≡ l.register;
  lives : HaveLives l.steps l.heads.latest.items l.register l.intervals;
  own : HaveParts l.steps l.heads.latest.items l.register l.intervals l.parts;
  tight : AreTight l.steps l.intervals;
  ends : EndBy (length l.steps) l.intervals;
  only : OnlyCrossed l.barriers l.intervals l.crossed;
  crossings : HaveCrossings l.steps l.barriers l.heads.latest.items l.register l.crossed;
}
