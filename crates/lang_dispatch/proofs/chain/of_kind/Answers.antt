-- Method by method.
use Rattle.std.proofs.Common.{◌≡◌, ◌+◌, ◌++◌, ◌∷◌, [], true, false, drop, append_assoc, sym, ap, ◌∙◌}
use Rattle.lang_meaning.specs.Classes.{of_kind, is_qualifier}
use Rattle.lang_dispatch.proofs.Picking.{kind_here, kind_later, item_at, picked_at, picked_past}
use Rattle.lang_dispatch.proofs.chain.of_kind.Goals as goal
use Rattle.lang_dispatch.proofs.chain.of_kind.Goals.{then-is_qualifier+in_ok-push, else-is_qualifier}

pub returns-in_default-get : goal.returns-in_default-get
returns-in_default-get c =
    λ picked x.
    let there = item_at c.deref.result.now c.args.order.now.items c.loop-at.at c.in-Some.number.now c.deref.ensures.value c.in-Some.ensures.lookup.3.0 c.in-Some.ensures.lookup.1 in
    absurd (picked_past c.args.generic.now.methods picked c.args.order.now.items c.loop-at.at c.in-Some.number.now x there c.in_default-get.ensures)

pub loop-at-preserved : goal.loop-at-preserved
loop-at-preserved c =
    λ picked x.
    let there = item_at c.deref.result.now c.args.order.now.items c.loop-at.at c.in-Some.number.now c.deref.ensures.value c.in-Some.ensures.lookup.3.0 c.in-Some.ensures.lookup.1 in
    let here = picked_at c.args.generic.now.methods picked c.args.order.now.items c.loop-at.at c.in-Some.number.now c.in-Some-get.method.now x there c.in-Some-get.ensures in
    elim c.if-is_qualifier.branch [
      | then-is_qualifier+in_ok-push w ↦
          let yes : is_qualifier c.args.kind c.in-Some-get.method.now.qualifier ≡ true = sym c.is_qualifier.ensures ∙ w.if-is_qualifier.true in
          ap (λ done. done ++ of_kind c.args.kind (drop (c.loop-at.at + 1) picked)) (w.found-is ∙ w.in_ok-push.ensures.ok)
          ∙ append_assoc c.loop-at.found (c.in-Some-get.method.now.procedure ∷ []) (of_kind c.args.kind (drop (c.loop-at.at + 1) picked))
          ∙ ap (λ rest. c.loop-at.found ++ rest) (sym (kind_here c.args.kind picked c.loop-at.at c.in-Some-get.method.now here yes))
          ∙ c.loop-at.invariant picked x
      | else-is_qualifier w ↦
          let no : is_qualifier c.args.kind c.in-Some-get.method.now.qualifier ≡ false = sym c.is_qualifier.ensures ∙ w.if-is_qualifier.false in
          ap (λ done. done ++ of_kind c.args.kind (drop (c.loop-at.at + 1) picked)) w.found-is
          ∙ ap (λ rest. c.loop-at.found ++ rest) (sym (kind_later c.args.kind picked c.loop-at.at c.in-Some-get.method.now here no))
          ∙ c.loop-at.invariant picked x
    ]
