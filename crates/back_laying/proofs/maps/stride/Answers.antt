-- One list more.
use Rattle.std.proofs.Common.{◌≡◌, ◌+◌, ◌*◌, [], min, length, drop, sym, ◌∙◌, ap, arith}
use Rattle.std.proofs.lemmas.List.{drop_all}
use Rattle.lang_meaning.specs.Cells.{tuples}
use Rattle.base.specs.model.DataRest.{rest_at}
use Rattle.lang_dispatch.proofs.TuplePlaces.{length-tuples}
use Rattle.lang_dispatch.proofs.Decoding.{one_multiplied}
use Rattle.back_laying.proofs.maps.stride.Goals as goal

pub loop-at-preserved : goal.loop-at-preserved
loop-at-preserved c =
    let list = c.in-Some.list.now in
    let rest = drop (c.loop-at.at + 1) c.args.firsts.now in
    let left : length (tuples (drop c.loop-at.at c.args.firsts.now)) ≡ length list * length (tuples rest) =
    ap (λ lists. length (tuples lists)) (rest_at c.args.firsts.now c.loop-at.at list c.in-Some.ensures) ∙ length-tuples list rest in
    let next : c.saturating_mul-count.result ≡ min (c.loop-at.count * length list) 18446744073709551615 =
    c.saturating_mul-count.ensures ∙ ap (λ n. min (c.loop-at.count * n) 18446744073709551615) c.len.ensures in
    record {
      fits = omega (arith, next);
      counted = one_multiplied c.loop-at.count c.saturating_mul-count.result (length list) (length (tuples rest))
          (length (tuples (drop c.loop-at.at c.args.firsts.now))) (min (length (tuples (drop (c.args.argument + 1) c.args.firsts.now))) 18446744073709551615)
          18446744073709551615 left next c.loop-at.invariant.counted;
    }

pub returns : goal.returns
returns c =
    let none : drop c.loop-at.at c.args.firsts.now ≡ [] = drop_all c.loop-at.at c.args.firsts.now (omega (arith, c.len-at-end.ensures)) in
    let one : length (tuples (drop c.loop-at.at c.args.firsts.now)) ≡ 1 = ap (λ lists. length (tuples lists)) none in
    let all : min (c.loop-at.count * 1) 18446744073709551615 ≡ min (length (tuples (drop (c.args.argument + 1) c.args.firsts.now))) 18446744073709551615 =
    ap (λ n. min (c.loop-at.count * n) 18446744073709551615) (sym one) ∙ c.loop-at.invariant.counted in
    omega (arith, all, c.loop-at.invariant.fits)
