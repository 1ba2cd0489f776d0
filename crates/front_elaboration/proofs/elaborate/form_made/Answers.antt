-- Where all that was found is taken, what the form mentions is known.
use Rattle.std.proofs.Common.{◌≡◌, true, ◌&&◌, ◌||◌, length, sym, ap, ◌∙◌}
use Rattle.front_profile.specs.Elaborations.{elaborate, forms_found}
use Rattle.front_elaboration.specs.Taken.{takes_forms, takes_values}
use Rattle.front_elaboration.proofs.Gathered.{all_gathers}
use Rattle.front_elaboration.proofs.elaborate.form_made.Goals as goal

pub mentioned_by-requires : goal.mentioned_by-requires
mentioned_by-requires c = λ e p.
    let m = c.args.making.now in
    let rs = c.kept.inside.found in
    let same : c.in_ok-form.form ≡ elaborate m rs = c.in_ok-form.ensures in
    let all : (takes_forms m (length (forms_found rs)) && (takes_values m || c.is_empty.result)) ≡ true =
    ap (λ n. takes_forms m n && (takes_values m || c.is_empty.result)) (sym c.count_forms.ensures) ∙ sym c.takes_all-is_exact.ensures ∙ e in
    rw (same, c.called-called.ensures)
    (all_gathers p m rs c.kept.inside.values c.kept.inside.bindings c.is_empty.result c.kept.invariant c.is_empty.ensures all)
