-- What a form mentions is what it mentions itself, and what those right inside it do; one form more of a list.
use Rattle.std.proofs.Common.{subst}
use Rattle.lang_reached.proofs.Marking.{ToMark, form_marked, one_marked, all_marked}
use Rattle.lang_reached.proofs.forms.+mark_form.Goals as goal

pub mark_form-returns : goal.mark_form-returns
mark_form-returns t c =
    form_marked c.args.given.now.names.now c.args.given.now.program.now c.args.form.now c.outer.result c.inner.result c.args.search.now c.mark_itself.new.search
    c.mark_forms.new.search c.mark_forms-2.new.search c.outer.ensures c.inner.ensures c.in_ok-mark_itself.ensures c.in_ok-mark_forms.ensures c.in_ok-mark_forms-2.ensures

pub mark_forms-loop-form-preserved : goal.mark_forms-loop-form-preserved
mark_forms-loop-form-preserved t c =
    let names = c.args.given.now.names.now in
    let program = c.args.given.now.program.now in
    one_marked names program c.args.forms c.args.search.now c.loop-form.search c.mark_form.new.search c.in-Some.form.now c.next.new.self
    (subst (ToMark names program c.args.forms c.args.search.now c.loop-form.search) c.in-Some.ensures.steps c.loop-form.invariant) c.in_ok-mark_form.ensures

pub mark_forms-returns : goal.mark_forms-returns
mark_forms-returns t c =
    let names = c.args.given.now.names.now in
    let program = c.args.given.now.program.now in
    all_marked names program c.args.forms c.args.search.now c.loop-form.search
    (subst (ToMark names program c.args.forms c.args.search.now c.loop-form.search) c.in-None.ensures.steps.0 c.loop-form.invariant)
