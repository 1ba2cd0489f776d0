-- None of the classes so far is it.
use Rattle.std.proofs.Common.{◌≡◌, drop}
use Rattle.lang_meaning.specs.Lookup.{is_in}
use Rattle.lang_classes.proofs.line.is_among.Given as goal

abbrev pub invariant-loop-other : goal.invariant-loop-other
invariant-loop-other l = is_in l.class (drop l.other-index l.classes) ≡ is_in l.class l.classes
