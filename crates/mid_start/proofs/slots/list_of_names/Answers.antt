-- One symbol more.
use Rattle.std.proofs.Common.{◌++◌, ◌∷◌, [], map, take, ap, ◌∙◌}
use Rattle.mid_start.proofs.Joins.{taken_more}
use Rattle.mid_start.proofs.NameData.{name_item, one_more}
use Rattle.mid_start.proofs.slots.list_of_names.Goals as goal

pub loop-at-preserved : goal.loop-at-preserved
loop-at-preserved c =
    rw (taken_more c.args.list.now c.loop-at.at c.in-Some.name.now c.in-Some.ensures, one_more (take c.loop-at.at c.args.list.now) c.in-Some.name.now)
    (c.in_ok-push.ensures.ok ∙ ap (λ xs. xs ++ c.symbol_of_name.result ∷ []) c.loop-at.invariant
    ∙ ap (λ d. map name_item (take c.loop-at.at c.args.list.now) ++ d ∷ []) c.symbol_of_name.ensures)
