-- A loop copies a datum at each turn.
use Rattle.std.proofs.Common.{◌∷◌, [], ◌++◌, ap, sym, ◌∙◌}
use Rattle.base.specs.model.DataRest.{take_at}
use Rattle.base.proofs.datum.+copy.Goals as goal

pub copies::list_copy-loop-at-preserved : goal.copies::list_copy-loop-at-preserved
copies::list_copy-loop-at-preserved t c =
    c.in_ok-push.ensures.ok
    ∙ ap (λ d. c.loop-at.copied ++ d ∷ []) c.in_ok-copy.ensures
    ∙ ap (λ ds. ds ++ c.in-Some.item.now ∷ []) c.loop-at.invariant
    ∙ sym (take_at c.args.items.now c.loop-at.at c.in-Some.item.now c.in-Some.ensures)
