-- One map more, or one that does not fit.
use Rattle.std.proofs.Common.{◌+◌, length, drop, arith}
use Rattle.std.proofs.lemmas.Result.{err_from_is_err_and}
use Rattle.lang_meaning.specs.Cells.{tuples}
use Rattle.back_laying.proofs.MapWords.{map_more, maps_all, map_too_large}
use Rattle.back_laying.proofs.maps.push_maps.Goals as goal

pub loop-at-preserved : goal.loop-at-preserved
loop-at-preserved c =
    λ program g h.
    map_more program g c.args.groups.now c.args.words.now c.loop-at.words c.push_map.new.words c.loop-at.at c.in-Some.item.now h c.in-Some.ensures
    (c.loop-at.invariant program g h)
    (c.in_ok-push_map.ensures.words (length (tuples (drop (c.in-Some.item.now.argument + 1) c.args.groups.now.firsts))) c.stride.ensures)

pub returns-clause-words : goal.returns-clause-words
returns-clause-words c =
    λ program g h.
    maps_all program g c.args.groups.now c.args.words.now c.loop-at.words c.loop-at.at h (omega (arith, c.len-at-end.ensures)) (c.loop-at.invariant program g h)

pub returns-in_err-push_map-clause-too_large : goal.returns-in_err-push_map-clause-too_large
returns-in_err-push_map-clause-too_large c =
    let p = err_from_is_err_and c.from_residual.result c.from_residual.ensures.1 in
    rw (p.1, p.2) (λ e program g h.
    map_too_large program g c.args.groups.now c.loop-at.at c.in-Some.item.now h c.in-Some.ensures
    (c.in_err-push_map.ensures.too_large e (length (tuples (drop (c.in-Some.item.now.argument + 1) c.args.groups.now.firsts))) c.stride.ensures))
