-- The warnings of a form, and of those inside it, are added behind what was there.
use Rattle.lang_warnings.specs.Warnings.{warning_of}
use Rattle.lang_warnings.proofs.Adding.{ok_after, form_added}
use Rattle.lang_warnings.proofs.collected.+form.Goals as goal

pub add_form-returns : goal.add_form-returns
add_form-returns t c =
    ok_after c.add_forms-2.result (λ all. form_added (warning_of c.args.known.now.names.now c.args.known.now.program.now) c.args.form.now c.args.list.now.items
    c.add_itself.new.list.items c.add_forms.new.list.items c.add_forms-2.new.list.items c.outer.result c.inner.result
    c.outer.ensures c.inner.ensures c.in_ok-add_itself.ensures c.in_ok-add_forms.ensures all) c.add_forms-2.ensures
