-- One form more is counted.
use Rattle.std.proofs.Common.{List, refl, arith}
use Rattle.flat_language.specs.FlatForm.{FlatForm}
use Rattle.flat_language.specs.declared.flat_core.FlatClause.{FlatClause}
use Rattle.flat_language.specs.declared.flat_core.FlatBinding.{FlatBinding}
use Rattle.flat_language.specs.declared.flat_core.FlatDynBinding.{FlatDynBinding}
use Rattle.flat_language.specs.model.View.{forms, clauses_of, bindings_of, dynamics_of}
use Rattle.flat_boxes.specs.Totals.{total_of_forms, total_of_clauses, total_of_values, total_of_dynamics}
use Rattle.flat_boxes.specs.Boxes.{captures_itself, captured_variables}
use Rattle.back_lowering.proofs.Sizes.{clause_in_smaller}
use Rattle.back_build.proofs.Counted.{more_counted, of_clause, next_clause}
use Rattle.back_build.proofs.captured.+captured.Goals as goal

pub captured_in_forms-loop-at-preserved : goal.captured_in_forms-loop-at-preserved
captured_in_forms-loop-at-preserved t c =
    more_counted (λ (xs : List FlatForm). total_of_forms captures_itself (forms xs)) captured_variables (λ x xs. refl) c.args.list.now c.loop-at.at
    c.in-Some.form.now c.loop-at.count c.in_ok-captured.captured c.in_ok-count.count c.in-Some.ensures c.in_ok-captured.ensures
    c.in_ok-count.ensures c.loop-at.invariant

pub captured_in_bindings-loop-at-preserved : goal.captured_in_bindings-loop-at-preserved
captured_in_bindings-loop-at-preserved t c =
    more_counted (λ (xs : List FlatBinding). total_of_values captures_itself (bindings_of xs)) (λ (b : FlatBinding). captured_variables b.value) (λ x xs. refl)
    c.args.list.now c.loop-at.at c.in-Some.binding.now c.loop-at.count c.in_ok-captured.captured c.in_ok-count.count c.in-Some.ensures
    c.in_ok-captured.ensures c.in_ok-count.ensures c.loop-at.invariant

pub captured_in_dynamics-loop-at-preserved : goal.captured_in_dynamics-loop-at-preserved
captured_in_dynamics-loop-at-preserved t c =
    more_counted (λ (xs : List FlatDynBinding). total_of_dynamics captures_itself (dynamics_of xs)) (λ (b : FlatDynBinding). captured_variables b.value)
    (λ x xs. refl) c.args.list.now c.loop-at.at c.in-Some.binding.now c.loop-at.count c.in_ok-captured.captured c.in_ok-count.count c.in-Some.ensures
    c.in_ok-captured.ensures c.in_ok-count.ensures c.loop-at.invariant

pub captured_in_clauses-captured_in_body-requires : goal.captured_in_clauses-captured_in_body-requires
captured_in_clauses-captured_in_body-requires t c = (omega (arith, clause_in_smaller c.args.list.now c.loop-at.at c.in-Some.clause.now c.in-Some.ensures), tt)

pub captured_in_clauses-loop-at-preserved : goal.captured_in_clauses-loop-at-preserved
captured_in_clauses-loop-at-preserved t c =
    more_counted (λ (xs : List FlatClause). total_of_clauses captures_itself (clauses_of xs)) of_clause next_clause
    c.args.list.now c.loop-at.at c.in-Some.clause.now c.loop-at.count c.in_ok-clause.clause c.in_ok-count.count c.in-Some.ensures
    (omega (arith, c.in_ok-clause.ensures, c.in_ok-test.ensures, c.in_ok-body.ensures)) c.in_ok-count.ensures
    c.loop-at.invariant
