-- The binders of a form are its own and those of the forms right inside it; its marks are those of the forms, without what it binds.
use Rattle.std.proofs.Common.{[], ◌∷◌, ap, ◌∙◌, arith, length, length-append}
use Rattle.std.specs.Prelude.{map, slice_set}
use Rattle.lang_meaning.specs.Form.{form_size}
use Rattle.flat_conversion.specs.Binders.{binders, all_before}
use Rattle.flat_conversion.proofs.Marking.{binder_made, from_none, body_forgotten}
use Rattle.lang_meaning.specs.model.View.{bindings_of}
use Rattle.flat_conversion.proofs.Listing.{plain_listed, let_listed, function_listed, still_there}
use Rattle.flat_conversion.proofs.binders.+list_form.Goals as goal

pub list_plain-returns : goal.list_plain-returns
list_plain-returns t c =
    plain_listed c.args.form.now c.requires c.outer.result c.inner.result c.outer.ensures c.inner.ensures c.args.made.now c.list_all.new.made c.list_all-2.new.made c.args.marks.now c.set_itself.new.marks c.list_all.new.marks c.list_all-2.new.marks
    c.in_ok-set_itself.ensures c.in_ok-list_all.ensures c.in_ok-list_all-2.ensures

pub list_let-list_body-requires : goal.list_let-list_body-requires
list_let-list_body-requires t c =
    let put = c.in_ok-list_all.ensures.put in (
      omega (arith, ap form_size c.requires, c.decreases),
      omega (arith, c.len-number.ensures, ap length c.in_ok-push.ensures.ok, length-append c.args.made.now (c.reserved.result ∷ []), still_there c.push.new.self c.list_all.new.made (λ r. all_before (map binders c.outer.result) r) put),
    )

pub list_let-returns : goal.list_let-returns
list_let-returns t c =
    let_listed (bindings_of c.args.list.now) c.args.body.now c.args.form.now c.requires c.in_ok-variables.variables c.in_ok-variables.ensures c.outer.result c.outer.ensures c.args.made.now c.push.new.self c.list_all.new.made c.list_body.new.made c.reserved.result c.len-number.result c.args.marks.now c.list_all.new.marks c.join.new.self _
    c.len-number.ensures c.in_ok-push.ensures.ok c.in_ok-list_all.ensures c.in_ok-inside.ensures c.in_ok-join.ensures

pub list_function-returns : goal.list_function-returns
list_function-returns t c =
    function_listed c.args.required.now c.args.rest c.args.body.now c.args.parts.now c.in_ok-variables.variables c.in_ok-variables.ensures c.args.made.now c.push.new.self c.list_body.new.made c.reserved.result c.len-number.result c.args.marks.now c.join_set.new.self c.capture.new.self _
    c.len-number.ensures c.in_ok-push.ensures.ok c.in_ok-inside.ensures c.in_ok-join_set.ensures c.in_ok-capture.ensures

pub list_body-replace-requires : goal.list_body-replace-requires
list_body-replace-requires t c =
    omega (arith, c.requires, still_there c.args.made.now c.list_form.new.made (binders c.args.body.now) c.in_ok-list_form.ensures.put)

pub list_body-returns : goal.list_body-returns
list_body-returns t c =
    let vs = c.args.variables in
    let body = c.args.body.now in
    record {
      all = c.list_form.new.made;
      put = c.in_ok-list_form.ensures.put;
      placed = c.replace.ensures.now ∙ ap (λ b. slice_set c.list_form.new.made c.args.number b) (c.in_ok-binder.ensures ∙ binder_made c.list_form.new.marks vs body (from_none body c.new-marks.result c.list_form.new.marks c.new-marks.ensures c.in_ok-list_form.ensures.marked));
      marked = body_forgotten vs body c.new-marks.result c.list_form.new.marks c.forget.new.self c.new-marks.ensures c.in_ok-list_form.ensures.marked c.forget.ensures;
    }
