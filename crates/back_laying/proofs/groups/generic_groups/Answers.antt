-- One argument more.
use Rattle.lang_dispatch.specs.OfClasses.{with_classes}
use Rattle.back_laying.proofs.GroupTurns.{grouped_more}
use Rattle.back_laying.proofs.groups.generic_groups.Goals as goal

pub loop-argument-preserved : goal.loop-argument-preserved
loop-argument-preserved c =
    grouped_more (with_classes c.args.classes.now) c.args.generic.now c.loop-argument.argument c.in_ok-groups.groups c.in_ok-groups.ensures
    c.loop-argument.found c.take.new.self c.in_ok-take.ensures.firsts c.in_ok-take.ensures.specialised c.loop-argument.invariant
