-- An argument more.
use Rattle.std.proofs.Common.{◌≡◌, ◌*◌, rules}
use Rattle.lang_dispatch.specs.OfClasses.{with_classes}
use Rattle.front_scope.proofs.CellBounds.{argument_more}
use Rattle.front_scope.proofs.quick.most_tuples.Goals as goal

pub loop-argument-preserved : goal.loop-argument-preserved
loop-argument-preserved c =
    let same : c.in_ok-most.most ≡ c.loop-argument.most * c.in_ok-groups.groups = search rules in
    argument_more (with_classes c.args.classes.now.rows) c.args.generic.now c.loop-argument.argument _ c.loop-argument.most c.in_ok-groups.groups c.in_ok-most.most
    (search rules) c.in_ok-groups.ensures same c.loop-argument.invariant
