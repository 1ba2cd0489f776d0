-- At most a group for each class, and at most two and those of the classes below others.
use Rattle.std.proofs.Common.{◌≡◌, ◌+◌, length, ap, ◌∙◌, rules, arith}
use Rattle.lang_dispatch.specs.OfClasses.{with_classes}
use Rattle.front_scope.proofs.CellBounds.{specialised_few, groups_few}
use Rattle.front_scope.proofs.quick.most_groups.Goals as goal

pub returns : goal.returns
returns c =
    let all = specialised_few (with_classes c.args.classes.now.rows) c.args.generic.now c.args.argument in
    let few = groups_few c.args.classes.now.rows c.args.generic.now c.args.argument c.in_ok-most_specials.field-0
    (λ k. c.law_precedence.ensures.once c.args.classes.now k c.rows.ensures.hierarchy) c.in_ok-most_specials.ensures in
    let most : c.in_ok-most.most ≡ c.in_ok-most_specials.field-0 + 2 = search rules in
    omega (arith, all, few, most, c.min.ensures, c.len-all.ensures ∙ ap length c.rows.ensures.rows)
