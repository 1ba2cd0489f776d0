-- Times the groups of the argument.
use Rattle.std.proofs.Common.{◌≡◌, ◌*◌, List, ℕ, Option, IfSome, subst, rules}
use Rattle.front_cells.specs.Tuples.{AreScaled}
use Rattle.front_cells.proofs.Tupling.{argument_counted}
use Rattle.front_cells.proofs.bounds.with_argument.Goals as goal

pub returns : goal.returns
returns c =
    let product : c.in-Some.tuples ≡ c.args.counts.now.tuples * c.args.groups.now.groups = search rules in
    let scaled : AreScaled c.args.generic.now.methods c.args.argument c.args.groups.now.below c.args.counts.now.applied c.in-Some-2.applied =
    subst (λ (o : Option (List ℕ)). IfSome o (λ more. AreScaled c.args.generic.now.methods c.args.argument c.args.groups.now.below c.args.counts.now.applied more)) c.in-Some-2.is
    c.in_ok-applied.ensures in
    argument_counted c.args._classes.now c.args.generic.now c.args.argument c.args.counts.now c.args.groups.now
    (record { tuples = c.in-Some.tuples; applied = c.in-Some-2.applied }) c.requires.there c.requires.counts c.requires.groups product scaled
