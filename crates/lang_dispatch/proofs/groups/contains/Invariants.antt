-- The class is among the rest where it is among all.
use Rattle.std.proofs.Common.{◌≡◌, drop}
use Rattle.lang_meaning.specs.Lookup.{is_in}
use Rattle.lang_dispatch.proofs.groups.contains.Given as goal

abbrev pub invariant-loop-other : goal.invariant-loop-other
invariant-loop-other l = is_in l.class (drop l.other-index l.list) ≡ is_in l.class l.list
