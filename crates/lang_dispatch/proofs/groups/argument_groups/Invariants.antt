-- The groups of the classes so far.
use Rattle.std.proofs.Common.{length}
use Rattle.lang_meaning.specs.Cells.{argument_classes, group_of}
use Rattle.lang_dispatch.specs.OfClasses.{with_classes}
use Rattle.lang_dispatch.proofs.GroupTurns.{Progress}
use Rattle.lang_dispatch.proofs.groups.argument_groups.Given as goal

abbrev pub invariant-loop-class : goal.invariant-loop-class
invariant-loop-class l =
    Progress (group_of (with_classes l.classes) (argument_classes l.generic l.argument)) (length l.classes)
    l.grouping.firsts l.grouping.kept l.grouping.numbers l.class
