-- Where one datum more is named, all are where those that are left are; where one is not, all are not.
use Rattle.std.proofs.lemmas.Option.{slice_get-get_or}
use Rattle.std.proofs.Common.{ap, sym, ◌∙◌, Some, List}
use Rattle.base.specs.Data.{Item, items_of}
use Rattle.back_build.specs.Named.{is_named, are_named}
use Rattle.back_build.proofs.Listed.{holds_of, fails_of, holds_of_all, next_named, none_named}
use Rattle.back_build.proofs.data_below.+below.Goals as goal

pub are_below-loop-at-preserved : goal.are_below-loop-at-preserved
are_below-loop-at-preserved t c =
    let n = c.args.count in
    let here = slice_get-get_or c.args.items.now c.loop-at.at c.index-items-at.result c.loop-at-test.true ∙ ap Some (sym c.index-items-at.is) in
    holds_of (λ (ds : List Item). are_named n (items_of ds)) (is_named n) (next_named n) c.args.items.now c.loop-at.at c.index-items-at.result c.in_ok-is.is' here
    c.in_ok-is.ensures c.if-not-is.false c.loop-at.invariant

pub are_below-returns-then-not-is : goal.are_below-returns-then-not-is
are_below-returns-then-not-is t c =
    let n = c.args.count in
    let here = slice_get-get_or c.args.items.now c.loop-at.at c.index-items-at.result c.loop-at-test.true ∙ ap Some (sym c.index-items-at.is) in
    fails_of (λ (ds : List Item). are_named n (items_of ds)) (is_named n) (next_named n) c.args.items.now c.loop-at.at c.index-items-at.result c.in_ok-is.is' here
    c.in_ok-is.ensures c.if-not-is.true c.loop-at.invariant

pub are_below-returns : goal.are_below-returns
are_below-returns t c =
    let n = c.args.count in
    holds_of_all (λ (ds : List Item). are_named n (items_of ds)) (is_named n) (next_named n) c.args.items.now c.loop-at.at c.loop-at-test.false (none_named n)
    c.loop-at.invariant
