-- A list of two items; the turns of the loop over the items behind the first one.
use Rattle.std.proofs.Common.{◌≡◌, [], ◌∷◌, ◌∙◌, arith, ap, sym, refl}
use Rattle.base.specs.Data.{items_of, items_size}
use Rattle.lang_derived.specs.Pieces.{Pieces, no_piece}
use Rattle.lang_derived.specs.Shown.{tail_shown}
use Rattle.lang_derived.specs.Quotation.{template_list, tail_part}
use Rattle.lang_derived.proofs.Lists.{pushed, pushed_ok}
use Rattle.lang_derived.proofs.Templates.{pair_list, parts_turn, parts_last, parts_end, parts_dotted}
use Rattle.lang_derived.proofs.quotation.+quotation.Goals as goal

pub template_list-returns-in-Some-only_of : goal.template_list-returns-in-Some-only_of
template_list-returns-in-Some-only_of t c =
    let behind : Pieces = tail_part c.args.names.now c.args.level (tail_shown c.args.tail) in
    let pair : template_list c.args.names.now c.args.level (items_of c.args.items.now) behind
    ≡ template_list c.args.names.now c.args.level (items_of (c.in-Some.first.now ∷ c.in-Some-only_of.second.now ∷ [])) no_piece =
    ap (λ ds. template_list c.args.names.now c.args.level (items_of ds) behind) c.in-Some.ensures.cases.0
    ∙ pair_list c.args.names.now c.args.level c.in-Some.first.now c.in-Some-only_of.second.now c.in-Some.rest.now (tail_shown c.args.tail) (sym c.in-Some-only_of.ensures) in
    rw pair c.template_pair.ensures

pub parts-loop-item-preserved : goal.parts-loop-item-preserved
parts-loop-item-preserved t c =
    let size : items_size (items_of c.loop-item.rest.now) ≡ items_size (items_of (c.in-Some.item.now ∷ c.in-Some.others.now)) =
    ap (λ ds. items_size (items_of ds)) c.in-Some.ensures.cases.0 in
    record {
      before = parts_turn _ _ _ _ c.in-Some.item.now _ _ c.loop-item.list _ _ c.in-Some.ensures.cases.0 (sym c.in_default-unquote_left.ensures) refl (pushed_ok _ _ _ c.part.result c.part.ensures c.in_ok-push_made.ensures) c.loop-item.invariant.before;
      smaller = omega arith;
    }

pub parts-returns-in-Some-unquote_left : goal.parts-returns-in-Some-unquote_left
parts-returns-in-Some-unquote_left t c =
    parts_last c.push_made.result _ _ _ _ c.in-Some.item.now _ (tail_shown c.args.tail) _ c.loop-item.list _ c.in-Some.ensures.cases.0 (sym c.in-Some-unquote_left.ensures)
    (pushed c.loop-item.list c.push_made.new.list _ c.unquoted.result c.push_made.result c.unquoted.ensures c.push_made.ensures) c.loop-item.invariant.before

pub parts-returns-in-None : goal.parts-returns-in-None
parts-returns-in-None t c =
    parts_end _ _ _ (tail_shown c.args.tail) _ c.loop-item.list c.in_default.ensures.cases (ap tail_shown c.in-None.is) c.loop-item.invariant.before

pub parts-returns-in-Some-tail : goal.parts-returns-in-Some-tail
parts-returns-in-Some-tail t c =
    parts_dotted c.push_made-in-Some-tail.result _ _ _ (tail_shown c.args.tail) c.in-Some-tail.datum.now _ c.loop-item.list _ c.in_default.ensures.cases (ap tail_shown c.in-Some-tail.is)
    (pushed c.loop-item.list c.push_made-in-Some-tail.new.list _ c.template.result c.push_made-in-Some-tail.result c.template.ensures c.push_made-in-Some-tail.ensures) c.loop-item.invariant.before
