-- What a form names itself is added, and behind it what its parts use; in a list, item by item.
use Rattle.std.proofs.Common.{List, ◌∷◌, ◌++◌, refl, sym, append_assoc, arith}
use Rattle.std.proofs.lemmas.Result.{on_ok_weaker}
use Rattle.flat_language.specs.FlatForm.{FlatForm}
use Rattle.flat_language.specs.declared.flat_core.FlatClause.{FlatClause}
use Rattle.flat_language.specs.declared.flat_core.FlatBinding.{FlatBinding}
use Rattle.flat_language.specs.declared.flat_core.FlatDynBinding.{FlatDynBinding}
use Rattle.flat_language.specs.model.View.{forms, clauses_of, bindings_of, dynamics_of, maybe_form}
use Rattle.back_lowering.proofs.Sizes.{clause_in_smaller}
use Rattle.back_words.specs.Uses.{as_dynamic, uses, uses_of_forms, uses_of_clauses, uses_of_body, uses_of_values, uses_of_dynamics}
use Rattle.back_uses.proofs.Adding.{same_added, both_added, one_more}
use Rattle.back_uses.proofs.forms.+uses.Goals as goal

pub add_uses-returns-in_ok-add_uses-in-Two : goal.add_uses-returns-in_ok-add_uses-in-Two
add_uses-returns-in_ok-add_uses-in-Two t c =
    let names = c.args.lookups.now.names.now in
    let program = c.args.lookups.now.program.now in
    on_ok_weaker c.add_uses-in-Two-2.result
    (λ h. same_added (c.in-Two.ensures.1 names program) (both_added c.in_ok-add_uses-in-Two.ensures h))
    c.add_uses-in-Two-2.ensures

pub add_uses-returns-in_ok-add_bindings-in-Let : goal.add_uses-returns-in_ok-add_bindings-in-Let
add_uses-returns-in_ok-add_bindings-in-Let t c =
    let names = c.args.lookups.now.names.now in
    let program = c.args.lookups.now.program.now in
    on_ok_weaker c.add_uses-in-Let.result
    (λ h. same_added (c.in-Let.ensures.1 names program) (both_added c.in_ok-add_bindings-in-Let.ensures h))
    c.add_uses-in-Let.ensures

pub add_uses-returns-in_ok-add_dynamic_bindings-in-DynamicLet : goal.add_uses-returns-in_ok-add_dynamic_bindings-in-DynamicLet
add_uses-returns-in_ok-add_dynamic_bindings-in-DynamicLet t c =
    let names = c.args.lookups.now.names.now in
    let program = c.args.lookups.now.program.now in
    on_ok_weaker c.add_uses-in-DynamicLet.result
    (λ h. same_added (c.in-DynamicLet.ensures.1 names program) (both_added c.in_ok-add_dynamic_bindings-in-DynamicLet.ensures h))
    c.add_uses-in-DynamicLet.ensures

pub add_forms-loop-at-preserved : goal.add_forms-loop-at-preserved
add_forms-loop-at-preserved t c =
    let names = c.args.lookups.now.names.now in
    let program = c.args.lookups.now.program.now in
    one_more (λ (xs : List FlatForm). uses_of_forms names program (forms xs)) (uses names program) refl (λ x xs. refl)
    c.args.list.now c.loop-at.at c.in-Some.form.now c.in-Some.ensures c.loop-at.invariant c.in_ok-add_uses.ensures

pub add_clauses-add_body-requires : goal.add_clauses-add_body-requires
add_clauses-add_body-requires t c =
    (omega (arith, clause_in_smaller c.args.list.now c.loop-at.at c.in-Some.clause.now c.in-Some.ensures), c.requires)

pub add_clauses-loop-at-preserved : goal.add_clauses-loop-at-preserved
add_clauses-loop-at-preserved t c =
    let names = c.args.lookups.now.names.now in
    let program = c.args.lookups.now.program.now in
    one_more (λ (xs : List FlatClause). uses_of_clauses names program (clauses_of xs))
    (λ (x : FlatClause). uses names program x.test ++ uses_of_body names program (maybe_form x.body)) refl
    (λ x xs. sym (append_assoc (uses names program x.test) (uses_of_body names program (maybe_form x.body)) (uses_of_clauses names program (clauses_of xs))))
    c.args.list.now c.loop-at.at c.in-Some.clause.now c.in-Some.ensures c.loop-at.invariant
    (both_added c.in_ok-add_uses.ensures c.in_ok-add_body.ensures)

pub add_bindings-loop-at-preserved : goal.add_bindings-loop-at-preserved
add_bindings-loop-at-preserved t c =
    let names = c.args.lookups.now.names.now in
    let program = c.args.lookups.now.program.now in
    one_more (λ (xs : List FlatBinding). uses_of_values names program (bindings_of xs)) (λ (x : FlatBinding). uses names program x.value) refl (λ x xs. refl)
    c.args.list.now c.loop-at.at c.in-Some.binding.now c.in-Some.ensures c.loop-at.invariant c.in_ok-add_uses.ensures

pub add_dynamic_bindings-loop-at-preserved : goal.add_dynamic_bindings-loop-at-preserved
add_dynamic_bindings-loop-at-preserved t c =
    let names = c.args.lookups.now.names.now in
    let program = c.args.lookups.now.program.now in
    one_more (λ (xs : List FlatDynBinding). uses_of_dynamics names program (dynamics_of xs))
    (λ (x : FlatDynBinding). as_dynamic x.name.0 ∷ uses names program x.value) refl (λ x xs. refl)
    c.args.list.now c.loop-at.at c.in-Some.binding.now c.in-Some.ensures c.loop-at.invariant
    (both_added c.in_ok-add_bound.ensures c.in_ok-add_uses.ensures)
