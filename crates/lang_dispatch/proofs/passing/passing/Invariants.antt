-- Those found so far, and then the ones of the rest that pass.
use Rattle.std.proofs.Common.{◌≡◌, ◌++◌, drop, filter}
use Rattle.lang_dispatch.specs.OfClasses.{with_classes}
use Rattle.lang_dispatch.specs.Suffixes.{passes}
use Rattle.lang_dispatch.proofs.passing.passing.Given as goal

abbrev pub invariant-loop-method : goal.invariant-loop-method
invariant-loop-method l =
    l.few ++ filter (passes (with_classes l.classes) l.argument l.class) (drop l.method-index l.methods)
    ≡ filter (passes (with_classes l.classes) l.argument l.class) l.methods
