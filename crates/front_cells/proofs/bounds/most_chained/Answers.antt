-- No fewer than the tuples that methods apply to; none without a primary method.
use Rattle.std.proofs.Common.{◌≡◌, sym, ◌∙◌, arith}
use Rattle.front_cells.specs.Tuples.{chained}
use Rattle.front_cells.proofs.Tupling.{chains_counted, no_chains, some_as}
use Rattle.front_cells.proofs.bounds.most_chained.Goals as goal

pub returns-then-has_primary : goal.returns-then-has_primary
returns-then-has_primary c =
    let few = chains_counted c.args._classes.now c.args.generic.now c.args.counts.now c.requires in
    some_as c.total.result _ _ (λ n h. omega (arith, h, few)) c.total.ensures

pub returns-else-has_primary : goal.returns-else-has_primary
returns-else-has_primary c =
    let none : chained c.args._classes.now c.args.generic.now ≡ 0 = no_chains c.args._classes.now c.args.generic.now (sym c.has_primary.ensures ∙ c.if-has_primary.false) in
    omega (arith, none)
