-- Argument by argument.
use Rattle.std.proofs.Common.{◌+◌, ◌*◌, min, refl, ap, ◌∙◌, arith}
use Rattle.lang_dispatch.proofs.Picking.{item_at}
use Rattle.lang_dispatch.proofs.Placing.{indexing_more, indexing_all}
use Rattle.lang_dispatch.proofs.table.index_of.Goals as goal

pub loop-at-preserved : goal.loop-at-preserved
loop-at-preserved c =
    λ program g maps called.
    let class = item_at c.args.classes.now c.args.classes.now c.loop-at.at c.in-Some-get.class.now refl c.in-Some-get.ensures.lookup.3.0 c.in-Some-get.ensures.lookup.1 in
    indexing_more program g c.args.classes.now c.loop-at.index c.loop-at.at c.in-Some.argument.now c.in-Some-get.class.now _ _
    (c.loop-at.invariant program g maps called)
    (maps.each c.loop-at.at c.in-Some.argument.now c.in-Some.ensures)
    class
    (called.each c.loop-at.at c.in-Some-get.class.now class)
    (c.saturating_mul.ensures ∙ ap (λ n. min (c.loop-at.index * n) 18446744073709551615) c.count.ensures)
    (c.saturating_add-index.ensures ∙ ap (λ n. min (c.saturating_mul.result + n) 18446744073709551615) c.number.ensures)

pub returns : goal.returns
returns c =
    λ program g maps called bounded.
    indexing_all program g c.args.classes.now c.loop-at.index c.loop-at.at (c.loop-at.invariant program g maps called)
    (omega (arith, c.len-at-end.ensures, maps.arity)) called.arity bounded
