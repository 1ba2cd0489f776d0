-- The items so far.
use Rattle.std.proofs.Common.{◌≡◌, take}
use Rattle.lang_dispatch.proofs.passing.copied_ids.Given as goal

abbrev pub invariant-loop-class : goal.invariant-loop-class
invariant-loop-class l = l.copy ≡ take l.class-index l.class-items
