-- The rest is shorter.
use Rattle.std.proofs.Common.{length}
use Rattle.front_profile.proofs.special.+some_has_text.Given as goal

abbrev pub decreases-some_has_text : goal.decreases-some_has_text
decreases-some_has_text l = length l.specials.now
