-- The arguments that are left decide.
use Rattle.std.proofs.Common.{◌≡◌}
use Rattle.lang_meaning.specs.Classes.{more_specific}
use Rattle.lang_dispatch.specs.OfClasses.{with_classes}
use Rattle.lang_dispatch.specs.Chains.{more_specific_from}
use Rattle.lang_dispatch.proofs.order.is_more_specific.Given as goal

abbrev pub invariant-loop-at : goal.invariant-loop-at
invariant-loop-at l =
    more_specific_from l.classes l.at l.tuple l.method l.other ≡ more_specific (with_classes l.classes) l.tuple l.method l.other
