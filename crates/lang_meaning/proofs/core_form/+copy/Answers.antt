-- A loop copies one at each turn.
use Rattle.std.proofs.Common.{◌∷◌, [], ◌++◌, ap, sym, ◌∙◌}
use Rattle.std.proofs.Common.{ℕ, Option}
use Rattle.lang_meaning.specs.Form.{Form}
use Rattle.base.specs.model.DataRest.{take_at}
use Rattle.lang_meaning.specs.declared.core_form.Clause.{Clause}
use Rattle.lang_meaning.specs.declared.core_form.Binding.{Binding}
use Rattle.lang_meaning.specs.declared.core_form.DynBinding.{DynBinding}
use Rattle.base.specs.declared.datum.Name.{Name}
use Rattle.lang_meaning.proofs.core_form.+copy.Goals as goal

abbrev a_clause : Form → Option Form → Clause
a_clause test body = record { test = test; body = body }

abbrev a_binding : ℕ → Form → Binding
a_binding v f = record { var = v; value = f }

abbrev a_dynamic : Name → Form → DynBinding
a_dynamic n f = record { name = n; value = f }

pub copies::forms_copy-loop-at-preserved : goal.copies::forms_copy-loop-at-preserved
copies::forms_copy-loop-at-preserved t c =
    c.in_ok-push.ensures.ok
    ∙ ap (λ f. c.loop-at.copied ++ f ∷ []) c.in_ok-copy.ensures
    ∙ ap (λ fs. fs ++ c.in-Some.form.now ∷ []) c.loop-at.invariant
    ∙ sym (take_at c.args.list.now c.loop-at.at c.in-Some.form.now c.in-Some.ensures)

pub copies::clauses_copy-loop-at-preserved : goal.copies::clauses_copy-loop-at-preserved
copies::clauses_copy-loop-at-preserved t c =
    c.in_ok-push.ensures.ok
    ∙ ap (λ f. c.loop-at.copied ++ a_clause f c.in-Ok.body ∷ []) c.in_ok-test.ensures
    ∙ ap (λ b. c.loop-at.copied ++ a_clause c.in-Some.clause.now.test b ∷ []) c.in-Ok.ensures
    ∙ ap (λ cs. cs ++ c.in-Some.clause.now ∷ []) c.loop-at.invariant
    ∙ sym (take_at c.args.list.now c.loop-at.at c.in-Some.clause.now c.in-Some.ensures)

pub copies::bindings_copy-loop-at-preserved : goal.copies::bindings_copy-loop-at-preserved
copies::bindings_copy-loop-at-preserved t c =
    c.in_ok-push.ensures.ok
    ∙ ap (λ f. c.loop-at.copied ++ a_binding c.in-Some.binding.now.var f ∷ []) c.in_ok-value.ensures
    ∙ ap (λ bs. bs ++ c.in-Some.binding.now ∷ []) c.loop-at.invariant
    ∙ sym (take_at c.args.list.now c.loop-at.at c.in-Some.binding.now c.in-Some.ensures)

pub copies::dynamics_copy-loop-at-preserved : goal.copies::dynamics_copy-loop-at-preserved
copies::dynamics_copy-loop-at-preserved t c =
    c.in_ok-push.ensures.ok
    ∙ ap (λ f. c.loop-at.copied ++ a_dynamic c.in-Some.binding.now.name f ∷ []) c.in_ok-value.ensures
    ∙ ap (λ bs. bs ++ c.in-Some.binding.now ∷ []) c.loop-at.invariant
    ∙ sym (take_at c.args.list.now c.loop-at.at c.in-Some.binding.now c.in-Some.ensures)
