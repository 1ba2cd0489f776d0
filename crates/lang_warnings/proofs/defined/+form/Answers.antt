-- What a form defines, and those inside it, is listed behind what was there.
use Rattle.lang_warnings.specs.Faults.{defined_by}
use Rattle.lang_warnings.proofs.Adding.{ok_after, form_added}
use Rattle.lang_warnings.proofs.defined.+form.Goals as goal

pub list_form-returns : goal.list_form-returns
list_form-returns t c =
    ok_after c.list_forms-2.result (λ all. form_added defined_by c.args.form.now c.args.numbers.now.items c.list_itself.new.numbers.items c.list_forms.new.numbers.items
    c.list_forms-2.new.numbers.items c.outer.result c.inner.result c.outer.ensures c.inner.ensures
    c.in_ok-list_itself.ensures c.in_ok-list_forms.ensures all) c.list_forms-2.ensures
