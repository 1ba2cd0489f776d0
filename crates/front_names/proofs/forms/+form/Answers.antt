-- The names of a form are its own, and those of the forms right inside.
use Rattle.std.proofs.Common.{◌∙◌, ◌&&◌, ap, refl, sym, Bool}
use Rattle.std.specs.List.{list_all}
use Rattle.lang_meaning.specs.Subforms.{inner}
use Rattle.front_names.specs.Tests.{is_form_below}
use Rattle.front_names.proofs.Folded.{form_from}
use Rattle.front_names.proofs.forms.+form.Goals as goal

pub is_form_below-returns-then-are_forms_below : goal.is_form_below-returns-then-are_forms_below
is_form_below-returns-then-are_forms_below t c =
    let own = c.are_own_below.result in
    let of_outs = c.are_forms_below.result in
    let of_ins = c.are_forms_below-then-are_forms_below.result in
    form_from c.args.count c.args.form.now own of_outs of_ins of_ins c.outer.result c.inner.result
    c.outer.ensures c.inner.ensures
    c.are_own_below.ensures c.are_forms_below.ensures c.are_forms_below-then-are_forms_below.ensures
    (sym (ap (λ (b : Bool). b && (of_outs && of_ins)) c.if-are_own_below.true
    ∙ ap (λ (b : Bool). b && of_ins) c.if-are_forms_below.true))

pub is_form_below-returns-else-are_forms_below : goal.is_form_below-returns-else-are_forms_below
is_form_below-returns-else-are_forms_below t c =
    let own = c.are_own_below.result in
    let of_outs = c.are_forms_below.result in
    let ins = inner c.args.form.now in
    let of_ins = list_all (is_form_below c.args.count) ins in
    form_from c.args.count c.args.form.now own of_outs of_ins of_outs c.outer.result ins c.outer.ensures refl
    c.are_own_below.ensures c.are_forms_below.ensures refl
    (c.if-are_forms_below.false
    ∙ sym (ap (λ (b : Bool). b && (of_outs && of_ins)) c.if-are_own_below.true
    ∙ ap (λ (b : Bool). b && of_ins) c.if-are_forms_below.false))
