-- The rest is shorter.
use Rattle.std.proofs.Common.{length}
use Rattle.front_profile.proofs.special.+first_with_text.Given as goal

abbrev pub decreases-first_with_text : goal.decreases-first_with_text
decreases-first_with_text l = length l.specials.now
