-- What is made of forms, clauses and bindings, one after another; of bodies; and of functions.
use Rattle.std.proofs.Common.{◌≡◌, ◌≤◌, ◌+◌, [], ◌∷◌, Option, refl, sym, ap, ◌∙◌, length, arith, length-append}
use Rattle.std.specs.Prelude.{option_map}
use Rattle.lang_meaning.specs.declared.core_form.Binding.{Binding}
use Rattle.lang_meaning.specs.declared.core_form.DynBinding.{DynBinding}
use Rattle.lang_meaning.specs.model.View.{forms, clauses_of, maybe_form, bindings_of, dynamics_of}
use Rattle.base.specs.declared.datum.Name.{Name}
use Rattle.flat_language.specs.declared.flat_core.FlatClause.{FlatClause}
use Rattle.flat_language.specs.declared.flat_core.FlatBinding.{FlatBinding}
use Rattle.flat_language.specs.declared.flat_core.FlatDynBinding.{FlatDynBinding}
use Rattle.flat_language.specs.declared.place.Home.{Home}
use Rattle.flat_language.specs.FlatForm.{FlatForm, FlatForms, FlatClauses, FlatBindings, FlatDynamics}
use Rattle.flat_language.specs.FlatForm as form
use Rattle.lang_meaning.specs.Form as core
use Rattle.flat_language.specs.Scope.{home_of, flat_parts}
use Rattle.flat_language.specs.Flatten.{flat, flat_dynamics, functions, functions_of_dynamics, inner_procedures, procedures_of_body, procedures_of_dynamics}
use Rattle.flat_language.specs.bridge.Counted.{all_counted, dynamics_counted}
use Rattle.flat_conversion.specs.Binders.{binders, binders_of_body, binders_of_dynamics}
use Rattle.flat_conversion.specs.declared.places.Places.{Places}
use Rattle.flat_conversion.specs.Places.{scope_of}
use Rattle.flat_conversion.specs.Shapes.{leaf_form, over_form, over_two, over_forms}
use Rattle.flat_conversion.proofs.Bodies.{enough_bound, home_found, inside_made, let_made, let_form_made, procedure_made, function_made}
use Rattle.flat_conversion.proofs.Going.{gone_on, one_clause, clause_inside, clause_count, clause_counted, clause_front, one_binding, binding_inside, binding_count, binding_front, one_dynamic, dynamic_inside, dynamic_count, dynamic_front, forms_so, clauses_so, bindings_so, dynamics_so}
use Rattle.flat_conversion.proofs.Made.{viewed, mapped, both, seen_from, alone, around, formed, at_form, at_ok}
use Rattle.flat_conversion.proofs.forms.+flat.Goals as goal

abbrev a_clause : FlatForm → Option FlatForm → FlatClause
a_clause test body = record { test = test; body = body }

abbrev a_binding : Home → FlatForm → FlatBinding
a_binding h f = record { home = h; value = f }

abbrev a_dynamic : Name → FlatForm → FlatDynBinding
a_dynamic n f = record { name = n; value = f }

-- two forms

pub both-returns : goal.both-returns
both-returns t c =
    let f = c.args.first.now in
    let g = c.args.second.now in
    both (λ s n. flat s n f) (λ s n. inner_procedures s n f) (binders f) (λ s n. flat s n g) (λ s n. inner_procedures s n g) (binders g) (functions f)
    c.args.binders.now _ _ _ _ _ _ _ _ (λ s n. all_counted s n f) c.in_ok-first.ensures c.in_ok-boxed.ensures

pub flat_forms-returns : goal.flat_forms-returns
flat_forms-returns t c =
    let xs = c.args.list.now in
    let all : length xs ≤ c.loop-at.at = omega (arith, c.loop-at-test.false, c.len-at-end.ensures) in
    record {
      same = c.loop-at.invariant.same;
      longer = c.loop-at.invariant.longer;
      so = forms_so (scope_of c.args.places.now) c.args.binders.now xs c.args.progress.now c.loop-at.at c.loop-at.made c.loop-at.progress c.loop-at.invariant.going all;
    }

pub flat_forms-loop-at-preserved : goal.flat_forms-loop-at-preserved
flat_forms-loop-at-preserved t c =
    let s = scope_of c.args.places.now in
    let f = c.in-Some.form.now in
    let made = c.in_ok-flat.ensures in
    record {
      same = made.same ∙ c.loop-at.invariant.same;
      longer = omega (arith, c.loop-at.invariant.longer, made.longer);
      going = gone_on (flat s) (inner_procedures s) functions binders c.args.binders.now (all_counted s) c.args.list.now c.args.progress.now c.loop-at.at c.loop-at.made c.loop-at.progress c.flat.new.progress f _ c.push.new.self
          c.loop-at.invariant.going c.in-Some.ensures c.in_ok-push.ensures.ok
          (seen_from (λ s n. flat s n f) (λ s n. inner_procedures s n f) (binders f) c.args.binders.now c.args.places.now _ _ _ _ _ c.loop-at.invariant.same made);
    }

pub flat_clauses-returns : goal.flat_clauses-returns
flat_clauses-returns t c =
    let xs = c.args.list.now in
    let all : length xs ≤ c.loop-at.at = omega (arith, c.loop-at-test.false, c.len-at-end.ensures) in
    record {
      same = c.loop-at.invariant.same;
      longer = c.loop-at.invariant.longer;
      so = clauses_so (scope_of c.args.places.now) c.args.binders.now xs c.args.progress.now c.loop-at.at c.loop-at.made c.loop-at.progress c.loop-at.invariant.going all;
    }

pub flat_clauses-loop-at-preserved : goal.flat_clauses-loop-at-preserved
flat_clauses-loop-at-preserved t c =
    let s = scope_of c.args.places.now in
    let x = c.in-Some.clause.now in
    let f = x.test in
    let b = x.body in
    let table = c.args.binders.now in
    let two = both (λ s n. flat s n f) (λ s n. inner_procedures s n f) (binders f) (λ s n. option_map (flat s n) b) (λ s n. procedures_of_body s n (maybe_form b)) (binders_of_body (maybe_form b)) (functions f)
    table _ _ _ _ _ _ _ _ (λ s n. all_counted s n f) c.in_ok-test.ensures c.in-Ok.ensures in
    let made = mapped (λ s (p : FlatForm × Option FlatForm). a_clause p.0 p.1) (λ s n. (flat s n f, option_map (flat s (n + functions f)) b)) (λ s n. clause_inside s n x) (clause_front x) table _ _ _ _ _ two in
    record {
      same = made.same ∙ c.loop-at.invariant.same;
      longer = omega (arith, c.loop-at.invariant.longer, made.longer);
      going = gone_on (one_clause s) (clause_inside s) clause_count clause_front table (clause_counted s) c.args.list.now c.args.progress.now c.loop-at.at c.loop-at.made c.loop-at.progress c.flat_body.new.progress x _ c.push.new.self
          c.loop-at.invariant.going c.in-Some.ensures c.in_ok-push.ensures.ok
          (seen_from (λ s n. one_clause s n x) (λ s n. clause_inside s n x) (clause_front x) table c.args.places.now _ _ _ _ _ c.loop-at.invariant.same made);
    }

pub flat_values-returns : goal.flat_values-returns
flat_values-returns t c =
    let xs = c.args.list.now in
    let all : length xs ≤ c.loop-at.at = omega (arith, c.loop-at-test.false, c.len-at-end.ensures) in
    record {
      same = c.loop-at.invariant.same;
      longer = c.loop-at.invariant.longer;
      so = λ body are. bindings_so (scope_of c.args.places.now) body c.args.binders.now xs c.args.progress.now c.loop-at.at c.loop-at.made c.loop-at.progress (c.loop-at.invariant.going body are) all;
    }

pub flat_values-loop-at-preserved : goal.flat_values-loop-at-preserved
flat_values-loop-at-preserved t c =
    let s = scope_of c.args.places.now in
    let b = c.in-Some.binding.now in
    let f = b.value in
    let table = c.args.binders.now in
    let home = c.home_of_binding.result in
    let made = mapped (λ s y. a_binding home y) (λ s n. flat s n f) (λ s n. inner_procedures s n f) (binders f) table _ _ _ _ _ c.in_ok-value.ensures in
    record {
      same = made.same ∙ c.loop-at.invariant.same;
      longer = omega (arith, c.loop-at.invariant.longer, made.longer);
      going = λ body are.
          let found : home ≡ home_of b.var body = c.home_of_binding.ensures ∙ home_found c.args.list.now body c.args.news.now are c.loop-at.at b c.in-Some.ensures in
          gone_on (one_binding s body) (binding_inside s) binding_count binding_front table (λ n (x : Binding). all_counted s n x.value) c.args.list.now c.args.progress.now c.loop-at.at c.loop-at.made c.loop-at.progress c.flat.new.progress b _ c.push.new.self
          (c.loop-at.invariant.going body are) c.in-Some.ensures c.in_ok-push.ensures.ok
          (λ rest e. viewed (λ y. y) (λ n. a_binding home (flat s n f)) (λ n. inner_procedures s n f) (λ n. one_binding s body n b) (λ n. binding_inside s n b) table _ _ _ rest (λ n. ap (λ h. a_binding h (flat s n f)) found) (λ n. refl)
          (seen_from (λ s n. a_binding home (flat s n f)) (λ s n. inner_procedures s n f) (binders f) table c.args.places.now _ _ _ _ _ c.loop-at.invariant.same made rest e));
    }

pub flat_dynamics-returns : goal.flat_dynamics-returns
flat_dynamics-returns t c =
    let xs = c.args.list.now in
    let all : length xs ≤ c.loop-at.at = omega (arith, c.loop-at-test.false, c.len-at-end.ensures) in
    record {
      same = c.loop-at.invariant.same;
      longer = c.loop-at.invariant.longer;
      so = dynamics_so (scope_of c.args.places.now) c.args.binders.now xs c.args.progress.now c.loop-at.at c.loop-at.made c.loop-at.progress c.loop-at.invariant.going all;
    }

pub flat_dynamics-loop-at-preserved : goal.flat_dynamics-loop-at-preserved
flat_dynamics-loop-at-preserved t c =
    let s = scope_of c.args.places.now in
    let b = c.in-Some.binding.now in
    let f = b.value in
    let table = c.args.binders.now in
    let made = mapped (λ s y. a_dynamic b.name y) (λ s n. flat s n f) (λ s n. inner_procedures s n f) (binders f) table _ _ _ _ _ c.in_ok-value.ensures in
    record {
      same = made.same ∙ c.loop-at.invariant.same;
      longer = omega (arith, c.loop-at.invariant.longer, made.longer);
      going = gone_on (one_dynamic s) (dynamic_inside s) dynamic_count dynamic_front table (λ n (x : DynBinding). all_counted s n x.value) c.args.list.now c.args.progress.now c.loop-at.at c.loop-at.made c.loop-at.progress c.flat.new.progress b _ c.push.new.self
          c.loop-at.invariant.going c.in-Some.ensures c.in_ok-push.ensures.ok
          (seen_from (λ s n. one_dynamic s n b) (λ s n. inner_procedures s n f) (binders f) table c.args.places.now _ _ _ _ _ c.loop-at.invariant.same made);
    }

pub flat_dynamic_let-returns-in-Ok : goal.flat_dynamic_let-returns-in-Ok
unfolding flat
flat_dynamic_let-returns-in-Ok t c =
    let ds = dynamics_of c.args.list.now in
    let g = c.args.body.now in
    formed (core.dynamic_let ds g) (λ (m : FlatDynamics × FlatForm). form.dynamic_let m.0 m.1) _ _ _ _ _ _ _ _ _ _
    (both (λ s n. flat_dynamics s n ds) (λ s n. procedures_of_dynamics s n ds) (binders_of_dynamics ds) (λ s n. flat s n g) (λ s n. inner_procedures s n g) (binders g) (functions_of_dynamics ds)
    c.args.binders.now _ _ _ _ _ _ _ _ (λ s n. dynamics_counted s n ds) c.in_ok-made.ensures c.in-Ok.ensures) refl (record { same = λ n. refl; alike = λ n. refl; ahead = λ rest. refl })

-- new variables

pub flat_inside-release-requires : goal.flat_inside-release-requires
flat_inside-release-requires t c =
    let news = c.args.news.now in
    let p = c.args.places.now in
    omega (arith, c.len.ensures, enough_bound news p, ap (λ (q : Places). length q.variables) (c.in_ok-made.ensures.same ∙ c.in_ok-bind.ensures))

pub flat_inside-returns : goal.flat_inside-returns
flat_inside-returns t c =
    inside_made c.args.news.now c.args.body.now c.args.binders.now c.args.places.now _ _ _ _ _ _ c.len.result
    c.in_ok-bind.ensures c.len.ensures c.release.ensures c.in_ok-made.ensures

pub flat_let-returns-in-Ok : goal.flat_let-returns-in-Ok
flat_let-returns-in-Ok t c =
    let_form_made (bindings_of c.args.list.now) c.args.body.now c.args.binders.now c.args.places.now _ _ _ _ _ c.bound.result c.bound.ensures
    (let_made (bindings_of c.args.list.now) c.args.body.now c.args.binders.now c.args.places.now _ _ c.args.progress.now _ _ _ _ _ _
    c.in_ok-news.ensures c.in_ok-made.ensures c.in-Ok.ensures)

-- functions

pub function-returns : goal.function-returns
unfolding flat
function-returns t c =
    formed (core.lambda c.args.required.now c.args.rest c.args.body.now c.args.parts.now) (λ m. form.make_function m (flat_parts (scope_of c.args.places.now) c.args.parts.now)) _ _ _ _ _ _ _ _ _ _
    (function_made _ c.args.required.now c.args.rest c.args.body.now c.args.parts.now c.args.binders.now c.args.places.now _ _ c.args.progress.now _ _ c.reserved.result _ _ _ _
    c.len-number.ensures c.in_ok-push.ensures.ok c.in_ok-kinds.ensures c.in_ok-inside.ensures refl c.in_ok-made.ensures c.replace.ensures.now)
    (ap (form.make_function c.len-number.result) c.in_ok-parts.ensures) (record { same = λ n. refl; alike = λ n. refl; ahead = λ rest. refl })

pub function-replace-requires : goal.function-replace-requires
function-replace-requires t c =
    omega (arith, c.len-number.ensures, c.in_ok-made.ensures.longer, ap length c.in_ok-push.ensures.ok, length-append c.args.progress.now.lambdas (c.reserved.result ∷ []))

pub procedure-returns : goal.procedure-returns
procedure-returns t c =
    procedure_made c.args.captured c.args.required.now c.args.rest c.args.body.now c.args.binders.now c.args.places.now _ c.args.progress.now _ _ _ c.len.result c.len-2.result _ _ _
    c.in_ok-own.ensures c.len.ensures c.len-2.ensures c.in_ok-homes.ensures c.home_at.ensures c.in_ok-made.ensures

-- forms

pub flat_kind-returns-in-Alone : goal.flat_kind-returns-in-Alone
flat_kind-returns-in-Alone t c =
    formed _ (λ (m : FlatForm). m) _ _ _ _ _ _ _ _ _ _
    (alone (λ s n. leaf_form c.in-Alone.leaf) c.args.binders.now c.args.places.now c.args.progress.now _ refl) c.form.ensures c.in-Alone.ensures

pub flat_kind-returns-in_ok-boxed-in-OverForm : goal.flat_kind-returns-in_ok-boxed-in-OverForm
flat_kind-returns-in_ok-boxed-in-OverForm t c =
    formed _ (λ (m : FlatForm). over_form c.in-OverForm.kind m) _ _ _ _ _ _ _ _ _ _ c.in_ok-boxed-in-OverForm.ensures c.form-in-OverForm.ensures c.in-OverForm.ensures.1

pub flat_kind-returns-in_ok-first-in-OverTwo : goal.flat_kind-returns-in_ok-first-in-OverTwo
flat_kind-returns-in_ok-first-in-OverTwo t c =
    formed _ (λ (m : FlatForm × FlatForm). over_two c.in-OverTwo.kind m.0 m.1) _ _ _ _ _ _ _ _ _ _ c.in_ok-first-in-OverTwo.ensures c.over_two.ensures c.in-OverTwo.ensures.1

pub flat_kind-returns-in_ok-flat_forms-in-OverForms : goal.flat_kind-returns-in_ok-flat_forms-in-OverForms
flat_kind-returns-in_ok-flat_forms-in-OverForms t c =
    formed _ (λ (m : FlatForms). over_forms c.in-OverForms.kind m) _ _ _ _ _ _ _ _ _ _ c.in_ok-flat_forms-in-OverForms.ensures c.form-in-OverForms.ensures c.in-OverForms.ensures.1

pub flat_kind-returns-in_ok-flat_clauses-in-Clauses : goal.flat_kind-returns-in_ok-flat_clauses-in-Clauses
unfolding flat
flat_kind-returns-in_ok-flat_clauses-in-Clauses t c =
    at_form _ _ _ _ _ _ _ _ (sym c.in-Clauses.ensures)
    (formed (core.clauses (clauses_of c.in-Clauses.list.now)) (λ (m : FlatClauses). form.clauses m) _ _ _ _ _ _ _ _ _ _ c.in_ok-flat_clauses-in-Clauses.ensures refl (record { same = λ n. refl; alike = λ n. refl; ahead = λ rest. refl }))

pub flat_kind-returns-in-Let : goal.flat_kind-returns-in-Let
flat_kind-returns-in-Let t c = at_ok _ _ _ _ _ _ _ _ (sym c.in-Let.ensures) c.flat_let.ensures

pub flat_kind-returns-in-Lambda : goal.flat_kind-returns-in-Lambda
flat_kind-returns-in-Lambda t c = at_ok _ _ _ _ _ _ _ _ (sym c.in-Lambda.ensures) c.function.ensures

pub flat_kind-returns-in-DynamicLet : goal.flat_kind-returns-in-DynamicLet
flat_kind-returns-in-DynamicLet t c = at_ok _ _ _ _ _ _ _ _ (sym c.in-DynamicLet.ensures) c.flat_dynamic_let.ensures

pub flat_kind-returns-in_ok-body-in-Block : goal.flat_kind-returns-in_ok-body-in-Block
unfolding flat
flat_kind-returns-in_ok-body-in-Block t c =
    at_form _ _ _ _ _ _ _ _ (sym c.in-Block.ensures)
    (formed (core.block c.in-Block.exit c.in-Block.body.now) (λ (m : FlatForm). form.block m) _ _ _ _ _ _ _ _ _ _
    (around _ _ _ c.in-Block.exit _ _ _ _ _ _ _ _ c.in_ok-enter-in-Block.ensures c.leave.ensures c.in_ok-body-in-Block.ensures) refl (record { same = λ n. refl; alike = λ n. refl; ahead = λ rest. refl }))

pub flat_kind-returns-in_ok-list-in-Tagbody : goal.flat_kind-returns-in_ok-list-in-Tagbody
unfolding flat
flat_kind-returns-in_ok-list-in-Tagbody t c =
    at_form _ _ _ _ _ _ _ _ (sym c.in-Tagbody.ensures)
    (formed (core.tagbody c.in-Tagbody.exit (forms c.in-Tagbody.list.now)) (λ (m : FlatForms). form.tagbody m) _ _ _ _ _ _ _ _ _ _
    (around _ _ _ c.in-Tagbody.exit _ _ _ _ _ _ _ _ c.in_ok-enter-in-Tagbody.ensures c.leave-in-Tagbody.ensures c.in_ok-list-in-Tagbody.ensures) refl (record { same = λ n. refl; alike = λ n. refl; ahead = λ rest. refl }))
