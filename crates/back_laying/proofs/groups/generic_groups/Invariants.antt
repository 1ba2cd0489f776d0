-- The groups at the arguments so far.
use Rattle.lang_dispatch.specs.OfClasses.{with_classes}
use Rattle.back_laying.specs.Grouped.{AreGrouped}
use Rattle.back_laying.proofs.groups.generic_groups.Given as goal

abbrev pub invariant-loop-argument : goal.invariant-loop-argument
invariant-loop-argument l = AreGrouped (with_classes l.classes) l.generic l.argument l.found
