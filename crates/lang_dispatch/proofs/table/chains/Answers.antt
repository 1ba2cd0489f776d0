-- One chain more.
use Rattle.std.proofs.Common.{◌+◌, ◌++◌, ◌∷◌, [], map, drop, ap, ◌∙◌}
use Rattle.lang_meaning.specs.Classes.{chain}
use Rattle.lang_meaning.specs.Cells.{tuples}
use Rattle.lang_dispatch.specs.OfClasses.{with_classes}
use Rattle.lang_dispatch.specs.Chains.{maybe_seen}
use Rattle.lang_dispatch.proofs.Making.{map-more, map_turn}
use Rattle.lang_dispatch.proofs.table.chains.Goals as goal

pub loop-index-preserved : goal.loop-index-preserved
loop-index-preserved c =
    let f = chain (with_classes c.args.classes.now) c.args.generic.now in
    let rest = map f (drop (c.loop-index.index + 1) (tuples c.args.lists.now)) in
    ap (λ l. map maybe_seen l ++ rest) c.in_ok-push.ensures.ok
    ∙ ap (λ l. l ++ rest) (map-more maybe_seen c.loop-index.cells c.in_ok-chain.chain)
    ∙ ap (λ k. (map maybe_seen c.loop-index.cells ++ k ∷ []) ++ rest) c.in_ok-chain.ensures
    ∙ map_turn f (map maybe_seen c.loop-index.cells) (tuples c.args.lists.now) c.loop-index.index c.in_ok-tuple.tuple c.in_ok-tuple.ensures
    ∙ c.loop-index.invariant
