use Rattle.std.proofs.Common.{refl, arith}
use Rattle.back_allocation.proofs.constants.check_all.Goals as goal

pub loop-at-init : goal.loop-at-init
loop-at-init c = record {
  long = refl;
  given = λ line to w x low there e k. absurd (omega (arith, low));
  passed = c.requires.passed;
  words = c.requires.words;
}
