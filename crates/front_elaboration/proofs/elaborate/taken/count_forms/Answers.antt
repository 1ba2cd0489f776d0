-- A part more, which is a form or none.
use Rattle.std.proofs.Common.{◌≡◌, Some, sym, ◌∙◌, arith}
use Rattle.std.specs.Prelude.{slice_get}
use Rattle.front_elaboration.proofs.SetsOfParts.{read_there}
use Rattle.front_elaboration.proofs.Counting.{form_counted, none_counted}
use Rattle.front_elaboration.proofs.elaborate.taken.count_forms.Goals as goal
use Rattle.front_elaboration.proofs.elaborate.taken.count_forms.Goals.{then-is_form, else-is_form}

pub loop-part-preserved : goal.loop-part-preserved
loop-part-preserved c =
    let there : slice_get c.args.found.now c.loop-part.part-index ≡ Some c.part-item.result =
    read_there c.args.found.now c.as_slice-part-items.result.now c.loop-part.part-index c.part-item.result c.as_slice-part-items.ensures c.loop-part-test.true c.part-item.is in
    elim c.if-is_form.branch [
      | then-is_form w ↦ record {
        counted = w.count-is ∙ form_counted c.args.found.now c.loop-part.part-index c.loop-part.count c.part-item.result there (sym c.is_form.ensures ∙ w.if-is_form.true) c.loop-part.invariant.counted;
        below = omega (arith, w.count-is, c.loop-part.invariant.below);
      }
      | else-is_form w ↦ record {
        counted = w.count-is ∙ none_counted c.args.found.now c.loop-part.part-index c.loop-part.count c.part-item.result there (sym c.is_form.ensures ∙ w.if-is_form.false) c.loop-part.invariant.counted;
        below = omega (arith, w.count-is, c.loop-part.invariant.below);
      }
    ]
