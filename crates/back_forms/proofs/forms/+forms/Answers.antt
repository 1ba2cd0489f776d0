-- The code of lists, item by item, and of forms from the code of their parts.
use Rattle.std.proofs.Common.{◌≡◌, ℕ, Option, Some, List, [], ◌∷◌, ◌≤◌, ◌<◌, ◌+◌, ◌-◌, ◌++◌, ap, sym, ◌∙◌, refl, length, arith}
use Rattle.std.proofs.lemmas.Result.{on_ok_weaker, IfOk-weaker}
use Rattle.lang_meaning.specs.declared.program.FunctionRow.{FunctionRow}
use Rattle.lang_meaning.specs.Lookup.{text}
use Rattle.lang_meaning.specs.Literals.{function_row}
use Rattle.flat_language.specs.FlatForm.{FlatForm, clauses, sequence, make_function, call_value}
use Rattle.flat_language.specs.declared.place.Home.{Home}
use Rattle.flat_language.specs.declared.flat_core.FlatBinding.{FlatBinding}
use Rattle.flat_language.specs.declared.flat_core.FlatDynBinding.{FlatDynBinding}
use Rattle.flat_language.specs.model.View.{forms, clauses_of, bindings_of, dynamics_of, maybe_form}
use Rattle.mid_code.specs.model.View.{codes_of}
use Rattle.back_lowering.specs.declared.scope.Scope.{Scope}
use Rattle.back_lowering.specs.Steps.{Steps}
use Rattle.back_lowering.specs.Calls.{call_name, call_value_code}
use Rattle.back_lowering.specs.Leaves.{boxes_made}
use Rattle.back_lowering.specs.Scope.{at_site}
use Rattle.back_forms.specs.Shapes.{leaf_form}
use Rattle.back_forms.proofs.BindingHomes.{homes_are}
use Rattle.back_forms.proofs.Equations.{leaf_is, function_is, clauses_is, sequence_is, call_value_is}
use Rattle.back_forms.specs.Lowers.{low, low_behind, low_arguments, low_bindings, low_dynamics, low_clause, truth_of}
use Rattle.back_forms.proofs.Walks.{walk_step, walk_end}
use Rattle.back_forms.proofs.Arms.{argument_next, behind_next, value_next, dynamic_next, no_argument, none_behind, no_value, no_dynamic_value, sequence_behind, clause_step, no_clauses, no_sequence, no_call_value, segment_step, segments_done, same_form, one_arm, two_arm, call_arm, prim_arm, block_arm, catch_arm, handler_arm, sited_arm, call_value_arm, let_arm, dynamic_arm, tagbody_arm, unwind_arm, while_arm, taken_alone, taken_body, left_out, alone_arm, body_arm, judged_prim_arm, judged_prim_test, judged_sited, judged_sited_test}
use Rattle.back_forms.proofs.forms.+forms.Goals as goal
use Rattle.back_forms.proofs.forms.+forms.Goals.{asked_clause-in-None+in_ok-value-in-None+in_ok-room-in-None+in_ok-test-in-None+in_ok-push-in-None, asked_clause-in-Some+in_ok-test-in-Some+in_ok-first-in-Some+in_ok-push-in-Some}

pub arguments-loop-i-preserved : goal.arguments-loop-i-preserved
arguments-loop-i-preserved t c =
    let g = c.args.given.now in
    let s = c.args.scope.now in
    let x = c.in-Some.form.now in
    record {
      same = c.in_ok-value.ensures.scope ∙ c.loop-i.invariant.same;
      so = walk_step (λ (d : ℕ) (xs : List FlatForm). low_arguments g s d (forms xs)) (λ (d : ℕ) (f : FlatForm). (low g s d f).value) (argument_next g s) _ c.loop-i.code c.value.new.code c.args.list.now c.args.d c.loop-i.i x
          c.in-Some.ensures c.loop-i.invariant.so
          (c.in_ok-value.ensures.code ∙ ap (λ (w : Scope). c.loop-i.code ++ (low g w (c.args.d + c.loop-i.i) x).value) c.loop-i.invariant.same);
    }

pub values-loop-i-preserved : goal.values-loop-i-preserved
values-loop-i-preserved t c =
    let g = c.args.given.now in
    let s = c.args.scope.now in
    let x = c.in-Some.binding.now in
    record {
      same = c.in_ok-value.ensures.scope ∙ c.loop-i.invariant.same;
      so = walk_step (λ (d : ℕ) (xs : List FlatBinding). low_bindings g s d (bindings_of xs)) (λ (d : ℕ) (b : FlatBinding). (low g s d b.value).value) (value_next g s) _ c.loop-i.code c.value.new.code c.args.list.now c.args.d c.loop-i.i x
          c.in-Some.ensures c.loop-i.invariant.so
          (c.in_ok-value.ensures.code ∙ ap (λ (w : Scope). c.loop-i.code ++ (low g w (c.args.d + c.loop-i.i) x.value).value) c.loop-i.invariant.same);
    }

pub dynamics-loop-i-preserved : goal.dynamics-loop-i-preserved
dynamics-loop-i-preserved t c =
    let g = c.args.given.now in
    let s = c.args.scope.now in
    let x = c.in-Some.binding.now in
    record {
      same = c.in_ok-value.ensures.scope ∙ c.loop-i.invariant.same;
      so = walk_step (λ (d : ℕ) (xs : List FlatDynBinding). low_dynamics g s d (dynamics_of xs)) (λ (d : ℕ) (b : FlatDynBinding). (low g s d b.value).value) (dynamic_next g s) _ c.loop-i.code c.value.new.code c.args.list.now c.args.d c.loop-i.i x
          c.in-Some.ensures c.loop-i.invariant.so
          (c.in_ok-value.ensures.code ∙ ap (λ (w : Scope). c.loop-i.code ++ (low g w (c.args.d + c.loop-i.i) x.value).value) c.loop-i.invariant.same);
    }

pub sequence-loop-i-preserved : goal.sequence-loop-i-preserved
sequence-loop-i-preserved t c =
    let g = c.args.given.now in
    let s = c.args.scope.now in
    let x = c.in-Some.form.now in
    let d = c.args.d in
    record {
      same = c.in_ok-value.ensures.scope ∙ c.loop-i.invariant.same;
      so = walk_step (λ (k : ℕ) (xs : List FlatForm). low_behind g s d (forms xs)) (λ (k : ℕ) (f : FlatForm). (low g s d f).value) (λ (k : ℕ) (y : FlatForm) (ys : List FlatForm). behind_next g s k d y ys) _ c.loop-i.code c.value.new.code c.args.list.now 0 c.loop-i.i x
          c.in-Some.ensures c.loop-i.invariant.so
          (c.in_ok-value.ensures.code ∙ ap (λ (w : Scope). c.loop-i.code ++ (low g w d x).value) c.loop-i.invariant.same);
    }

pub segments-loop-i-preserved : goal.segments-loop-i-preserved
segments-loop-i-preserved t c =
    let g = c.args.given.now in
    let s = c.args.scope.now in
    let x = c.in-Some.form.now in
    let d = c.args.d in
    record {
      same = c.in_ok-code.ensures.scope ∙ c.loop-i.invariant.same;
      so = segment_step g s d c.args.list.now c.loop-i.i x c.loop-i.cases c.push.new.self (record { code = c.in_ok-code.code }) _
          c.in-Some.ensures c.loop-i.invariant.so
          (c.in_ok-code.ensures.code ∙ ap (λ (w : Scope). (low g w d x).value) c.loop-i.invariant.same)
          c.in_ok-push.ensures.ok;
    }

pub arguments-returns-clause-code : goal.arguments-returns-clause-code
arguments-returns-clause-code t c =
    let g = c.args.given.now in
    let s = c.args.scope.now in
    let all : length c.args.list.now ≤ c.loop-i.i = omega (arith, c.loop-i-test.false, c.len-i-end.ensures) in
    walk_end (λ (d : ℕ) (xs : List FlatForm). low_arguments g s d (forms xs)) (λ (d : ℕ) (f : FlatForm). (low g s d f).value) (argument_next g s) _ c.loop-i.code c.args.list.now (c.args.d + c.loop-i.i) c.loop-i.i
    all (no_argument g s _) c.loop-i.invariant.so

pub values-returns-clause-code : goal.values-returns-clause-code
values-returns-clause-code t c =
    let g = c.args.given.now in
    let s = c.args.scope.now in
    let all : length c.args.list.now ≤ c.loop-i.i = omega (arith, c.loop-i-test.false, c.len-i-end.ensures) in
    walk_end (λ (d : ℕ) (xs : List FlatBinding). low_bindings g s d (bindings_of xs)) (λ (d : ℕ) (b : FlatBinding). (low g s d b.value).value) (value_next g s) _ c.loop-i.code c.args.list.now (c.args.d + c.loop-i.i) c.loop-i.i
    all (no_value g s _) c.loop-i.invariant.so

pub dynamics-returns-clause-code : goal.dynamics-returns-clause-code
dynamics-returns-clause-code t c =
    let g = c.args.given.now in
    let s = c.args.scope.now in
    let all : length c.args.list.now ≤ c.loop-i.i = omega (arith, c.loop-i-test.false, c.len-i-end.ensures) in
    walk_end (λ (d : ℕ) (xs : List FlatDynBinding). low_dynamics g s d (dynamics_of xs)) (λ (d : ℕ) (b : FlatDynBinding). (low g s d b.value).value) (dynamic_next g s) _ c.loop-i.code c.args.list.now (c.args.d + c.loop-i.i) c.loop-i.i
    all (no_dynamic_value g s _) c.loop-i.invariant.so

pub sequence-returns-clause-code : goal.sequence-returns-clause-code
sequence-returns-clause-code t c =
    let g = c.args.given.now in
    let s = c.args.scope.now in
    let d = c.args.d in
    let all : length c.args.list.now ≤ c.loop-i.i = omega (arith, c.loop-i-test.false, c.len-i-end.ensures) in
    let some : 0 < length c.args.list.now = omega (arith, c.if-len-eq0.false, c.len.ensures) in
    walk_end (λ (k : ℕ) (xs : List FlatForm). low_behind g s d (forms xs)) (λ (k : ℕ) (f : FlatForm). (low g s d f).value) (λ (k : ℕ) (y : FlatForm) (ys : List FlatForm). behind_next g s k d y ys) _ c.loop-i.code c.args.list.now c.loop-i.i c.loop-i.i
    all (none_behind g s d) c.loop-i.invariant.so
    ∙ ap (λ (x : Steps). c.args.code.now ++ x) (sequence_behind g s d c.args.list.now some)

pub segments-returns-clause-code : goal.segments-returns-clause-code
segments-returns-clause-code t c =
    let all : length c.args.list.now ≤ c.loop-i.i = omega (arith, c.loop-i-test.false, c.len-i-end.ensures) in
    segments_done c.args.given.now c.args.scope.now c.args.d c.args.list.now c.loop-i.i c.loop-i.cases _ all c.loop-i.invariant.so

pub sequence-returns-then-len-eq0-clause-code : goal.sequence-returns-then-len-eq0-clause-code
sequence-returns-then-len-eq0-clause-code t c =
    let none : length c.args.list.now ≡ 0 = omega (arith, c.if-len-eq0.true, c.len.ensures) in
    on_ok_weaker c.push.result
    (λ e. e ∙ ap (λ i. c.args.code.now ++ i ∷ []) c.constant.ensures
    ∙ sym (ap (λ (x : Steps). c.args.code.now ++ x) (no_sequence c.args.given.now c.args.scope.now c.args.d c.args.list.now none)))
    c.push.ensures.ok

pub call_value-returns-then-count-eq0-clause-code : goal.call_value-returns-then-count-eq0-clause-code
call_value-returns-then-count-eq0-clause-code t c =
    let none : length c.args.list.now ≡ 0 = omega (arith, c.if-count-eq0.true, c.len-count.ensures) in
    on_ok_weaker c.push.result
    (λ e. e ∙ ap (λ i. c.args.code.now ++ i ∷ []) c.constant.ensures
    ∙ sym (ap (λ (x : Steps). c.args.code.now ++ x) (no_call_value c.args.given.now c.args.scope.now c.args.d c.args.list.now none)))
    c.push.ensures.ok

pub call_value-returns-clause-code : goal.call_value-returns-clause-code
call_value-returns-clause-code t c =
    let g = c.args.given.now in
    let some : 0 < length c.args.list.now = omega (arith, c.if-count-eq0.false, c.len-count.ensures) in
    on_ok_weaker c.call_value_code.result
    (λ e. call_value_arm g c.args.scope.now c.args.d (call_value (forms c.args.list.now)) c.args.code.now c.call_value_code.new.code c.args.list.now c.arguments.new.code c.arguments.new.scope
    some c.in_ok-arguments.ensures.code c.in_ok-arguments.ensures.scope
    (e ∙ ap (λ (k : ℕ). c.arguments.new.code ++ call_value_code g.at.now g.program.now (k - 1) c.args.d c.arguments.new.scope.site) c.len-count.ensures))
    c.call_value_code.ensures

pub clauses-loop-i-init : goal.clauses-loop-i-init
clauses-loop-i-init t c =
    let all : length c.args.list.now ≤ c.len-count.result - 0 = omega (arith, c.len-count.ensures) in
    record {
      same = refl;
      so = c.in_ok-push.ensures.ok ∙ ap (λ o. o ++ c.constant.result ∷ []) c.new-otherwise.ensures ∙ ap (λ i. i ∷ []) c.constant.ensures
          ∙ sym (no_clauses c.args.given.now c.args.scope.now c.args.d c.args.list.now (c.len-count.result - 0) all);
    }

pub clauses-loop-i-preserved : goal.clauses-loop-i-preserved
clauses-loop-i-preserved t c =
    let g = c.args.given.now in
    let s = c.args.scope.now in
    let d = c.args.d in
    let x = c.in-Some.choice.now in
    let below : c.loop-i.i < c.len-count.result = omega (arith, c.loop-i-test.true, c.loop-i.auto.i-end) in
    record {
      same = c.in_ok-otherwise.ensures.scope ∙ c.loop-i.invariant.same;
      so = clause_step g s d c.args.list.now c.len-count.result c.loop-i.i x c.loop-i.otherwise c.in_ok-otherwise.otherwise c.len-count.ensures below
          c.in-Some.ensures c.loop-i.invariant.so
          (c.in_ok-otherwise.ensures.code
          ∙ ap (λ (w : Scope). low_clause g w d (truth_of g x.test) (low g w d x.test) (maybe_form x.body) c.loop-i.otherwise) c.loop-i.invariant.same);
    }

pub dynamic_let-returns-clause-code : goal.dynamic_let-returns-clause-code
dynamic_let-returns-clause-code t c =
    let g = c.args.given.now in
    on_ok_weaker c.dynamic_let_code.result
    (λ e. dynamic_arm g c.args.scope.now c.args.d c.args.code.now c.dynamic_let_code.new.code c.args.list.now c.args.body.now c.dynamics.new.code c.dynamics.new.scope c.in_ok-made.made
    c.in_ok-dynamics.ensures.code c.in_ok-dynamics.ensures.scope
    (c.in_ok-made.ensures.code ∙ ap (λ (k : ℕ). (low g c.dynamics.new.scope (c.args.d + k + 2) c.args.body.now).value) c.len-2.ensures) e)
    c.dynamic_let_code.ensures

pub judged-returns-in_ok-room-in-Primitive-clause-code : goal.judged-returns-in_ok-room-in-Primitive-clause-code
judged-returns-in_ok-room-in-Primitive-clause-code t c =
    on_ok_weaker c.judge_primitive.result
    (λ e. judged_prim_arm c.args.given.now c.args.scope.now c.args.d c.args.form.now c.args.code.now c.judge_primitive.new.code c.in-Primitive.which c.in-Primitive.list.now c.arguments.new.code c.arguments.new.scope
    (c.in-Primitive.ensures.1) c.in_ok-arguments-in-Primitive.ensures.code c.in_ok-arguments-in-Primitive.ensures.scope e)
    c.judge_primitive.ensures.ready

pub judged-returns-in_ok-room-in-Primitive-clause-test : goal.judged-returns-in_ok-room-in-Primitive-clause-test
judged-returns-in_ok-room-in-Primitive-clause-test t c =
    IfOk-weaker c.judge_primitive.result _ _
    (λ x e. judged_prim_test c.args.given.now c.args.scope.now c.args.d c.args.form.now x c.in-Primitive.which c.in-Primitive.list.now c.arguments.new.scope
    (c.in-Primitive.ensures.1) c.in_ok-arguments-in-Primitive.ensures.scope e)
    c.judge_primitive.ensures.test

pub judged-returns-in_ok-test-in-Sited-clause-code : goal.judged-returns-in_ok-test-in-Sited-clause-code
judged-returns-in_ok-test-in-Sited-clause-code t c =
    judged_sited c.args.given.now c.args.scope.now c.args.d c.args.form.now c.args.code.now c.judged.new.code c.in-Sited.site c.in_ok-word-in-Sited.field-0 c.in-Sited.inner.now
    (c.in-Sited.ensures.1) c.in_ok-word-in-Sited.ensures c.in_ok-test-in-Sited.ensures.code

pub judged-returns-in_ok-test-in-Sited-clause-test : goal.judged-returns-in_ok-test-in-Sited-clause-test
judged-returns-in_ok-test-in-Sited-clause-test t c =
    judged_sited_test c.args.given.now c.args.scope.now c.args.d c.args.form.now c.in_ok-test-in-Sited.test c.in-Sited.site c.in_ok-word-in-Sited.field-0 c.in-Sited.inner.now
    (c.in-Sited.ensures.1) c.in_ok-word-in-Sited.ensures c.in_ok-test-in-Sited.ensures.test

pub let_code-returns-clause-code : goal.let_code-returns-clause-code
let_code-returns-clause-code t c =
    let homes = c.in_ok-homes.ensures ∙ sym (homes_are c.args.list.now) in
    let d = c.args.d in
    let n = c.len-count.result in
    on_ok_weaker c.push.result
    (λ e. let_arm c.args.given.now c.args.scope.now d c.args.code.now c.push.new.self (bindings_of c.args.list.now) c.args.body.now c.values.new.code c.boxes_made.new.code c.value.new.code c.values.new.scope c.bind.new.scope n
    (c.len-count.ensures ∙ ap (λ (hs : List Home). length hs) homes)
    c.in_ok-values.ensures.code c.in_ok-values.ensures.scope
    (c.in_ok-boxes_made.ensures ∙ ap (λ (hs : List Home). c.values.new.code ++ boxes_made hs d (d + n)) homes)
    c.in_ok-bind.ensures c.in_ok-value.ensures.code
    (e ∙ ap (λ i. c.value.new.code ++ i ∷ []) c.move_word.ensures))
    c.push.ensures.ok

pub tagbody-returns-clause-code : goal.tagbody-returns-clause-code
tagbody-returns-clause-code t c =
    on_ok_weaker c.tagbody_code.result
    (λ e. tagbody_arm c.args.given.now c.args.scope.now c.args.d c.args.code.now c.tagbody_code.new.code c.args.list.now c.enter.new.scope c.in_ok-count.count (codes_of c.in_ok-bodies.bodies)
    (c.in_ok-count.ensures ∙ c.len.ensures) c.in_ok-enter.ensures c.in_ok-bodies.ensures.code e)
    c.tagbody_code.ensures

pub unwind-returns-clause-code : goal.unwind-returns-clause-code
unwind-returns-clause-code t c =
    on_ok_weaker c.unwind_code.result
    (λ e. unwind_arm c.args.given.now c.args.scope.now c.args.d c.args.code.now c.unwind_code.new.code c.args.form.now c.args.cleanup.now c.put_exits-kept.new.scope c.inside.new.scope c.put_exits.new.scope c.in_ok-behind.behind c.in_ok-searched.searched c.in_ok-first.first c.in_ok-second.second
    c.in_ok-behind.ensures c.put_exits-kept.ensures.now c.in_ok-first.ensures.code c.in_ok-first.ensures.scope
    c.in_ok-searched.ensures c.put_exits.ensures.now c.in_ok-second.ensures.code e)
    c.unwind_code.ensures

pub while_code-returns-clause-code : goal.while_code-returns-clause-code
while_code-returns-clause-code t c =
    on_ok_weaker c.push-2.result
    (λ e. while_arm c.args.given.now c.args.scope.now c.args.d c.args.code.now c.push-2.new.self c.args.test.now c.args.body.now c.new-head.result c.judged.new.code c.in_ok-body.body c.push.new.self c.in_ok-test.test c.judged.new.scope
    c.new-head.ensures c.in_ok-test.ensures.code c.in_ok-test.ensures.test c.in_ok-test.ensures.scope c.in_ok-body.ensures.code
    (c.in_ok-push.ensures.ok ∙ ap (λ i. c.args.code.now ++ i ∷ []) c.new.ensures)
    (e ∙ ap (λ i. c.push.new.self ++ i ∷ []) c.constant.ensures))
    c.push-2.ensures.ok

pub value-returns-in-Alone-clause-code : goal.value-returns-in-Alone-clause-code
value-returns-in-Alone-clause-code t c =
    on_ok_weaker c.leaf_code.result
    (λ e. same_form c.args.given.now c.args.scope.now c.args.d c.args.form.now c.args.code.now c.leaf_code.new.code (leaf_form c.in-Alone.leaf) c.in-Alone.ensures
    (e ∙ sym (ap (λ (x : Steps). c.args.code.now ++ x) (leaf_is c.args.given.now c.args.scope.now c.args.d c.in-Alone.leaf))))
    c.leaf_code.ensures

pub value-returns-in-Function-clause-code : goal.value-returns-in-Function-clause-code
value-returns-in-Function-clause-code t c =
    on_ok_weaker c.function_code.result
    (λ e. same_form c.args.given.now c.args.scope.now c.args.d c.args.form.now c.args.code.now c.function_code.new.code (make_function c.in-Function.number c.in-Function.parts.now) c.in-Function.ensures
    (e ∙ sym (ap (λ (x : Steps). c.args.code.now ++ x) (function_is c.args.given.now c.args.scope.now c.args.d c.in-Function.number c.in-Function.parts.now))))
    c.function_code.ensures

pub value-returns-in_ok-value-in-OverForm-clause-code : goal.value-returns-in_ok-value-in-OverForm-clause-code
value-returns-in_ok-value-in-OverForm-clause-code t c =
    on_ok_weaker c.behind_form.result
    (λ e. one_arm c.args.given.now c.args.scope.now c.args.d c.args.form.now c.args.code.now c.behind_form.new.code c.in-OverForm.kind c.in-OverForm.inner.now c.value.new.code c.value.new.scope
    (c.in-OverForm.ensures.1) c.in_ok-value-in-OverForm.ensures.code c.in_ok-value-in-OverForm.ensures.scope e)
    c.behind_form.ensures

pub value-returns-in_ok-value-in-OverTwo-2-clause-code : goal.value-returns-in_ok-value-in-OverTwo-2-clause-code
value-returns-in_ok-value-in-OverTwo-2-clause-code t c =
    on_ok_weaker c.with_two.result
    (λ e. two_arm c.args.given.now c.args.scope.now c.args.d c.args.form.now c.args.code.now c.with_two.new.code c.in-OverTwo.kind c.in-OverTwo.first.now c.in-OverTwo.second.now c.value-in-OverTwo.new.code c.value-in-OverTwo-2.new.code c.value-in-OverTwo.new.scope c.value-in-OverTwo-2.new.scope c.routine_of.result
    (c.in-OverTwo.ensures.1) c.in_ok-value-in-OverTwo.ensures.code c.in_ok-value-in-OverTwo.ensures.scope c.in_ok-value-in-OverTwo-2.ensures.code c.in_ok-value-in-OverTwo-2.ensures.scope
    c.routine_of.ensures.same e)
    c.with_two.ensures

pub value-returns-in_ok-clauses-in-Clauses-clause-code : goal.value-returns-in_ok-clauses-in-Clauses-clause-code
value-returns-in_ok-clauses-in-Clauses-clause-code t c =
    let g = c.args.given.now in
    let s = c.args.scope.now in
    on_ok_weaker c.append_list.result
    (λ e. same_form c.args.given.now c.args.scope.now c.args.d c.args.form.now c.args.code.now c.append_list.new.self (clauses (clauses_of c.in-Clauses.list.now)) (c.in-Clauses.ensures.1)
    (e ∙ ap (λ (x : Steps). c.args.code.now ++ x) (c.in_ok-clauses-in-Clauses.ensures.code ∙ sym (clauses_is g s c.args.d (clauses_of c.in-Clauses.list.now)))))
    c.append_list.ensures.ok

pub value-returns-in-Sequence-clause-code : goal.value-returns-in-Sequence-clause-code
value-returns-in-Sequence-clause-code t c =
    on_ok_weaker c.sequence.result
    (λ e. same_form c.args.given.now c.args.scope.now c.args.d c.args.form.now c.args.code.now c.sequence.new.code (sequence (forms c.in-Sequence.list.now)) (c.in-Sequence.ensures.1)
    (e ∙ sym (ap (λ (x : Steps). c.args.code.now ++ x) (sequence_is c.args.given.now c.args.scope.now c.args.d (forms c.in-Sequence.list.now)))))
    c.sequence.ensures.code

pub value-returns-in_ok-room-in-Call-clause-code : goal.value-returns-in_ok-room-in-Call-clause-code
value-returns-in_ok-room-in-Call-clause-code t c =
    let g = c.args.given.now in
    let d = c.args.d in
    let n = c.in-Call.name.0 in
    let site = c.arguments.new.scope.site in
    on_ok_weaker c.call_name.result
    (λ e. call_arm c.args.given.now c.args.scope.now c.args.d c.args.form.now c.args.code.now c.call_name.new.code n c.in-Call.list.now c.arguments.new.code c.arguments.new.scope
    (c.in-Call.ensures.1) c.in_ok-arguments-in-Call.ensures.code c.in_ok-arguments-in-Call.ensures.scope
    (e
    ∙ ap (λ (row : Option FunctionRow). c.arguments.new.code ++ call_name g.at.now g.program.now n row c.len-count.result d site) c.row_of-row.ensures
    ∙ ap (λ (k : ℕ). c.arguments.new.code ++ call_name g.at.now g.program.now n (function_row g.names.now g.program.now.functions (text g.names.now n)) k d site) c.len-count.ensures))
    c.call_name.ensures

pub value-returns-in-CallValue-clause-code : goal.value-returns-in-CallValue-clause-code
value-returns-in-CallValue-clause-code t c =
    on_ok_weaker c.call_value.result
    (λ e. same_form c.args.given.now c.args.scope.now c.args.d c.args.form.now c.args.code.now c.call_value.new.code (call_value (forms c.in-CallValue.list.now)) (c.in-CallValue.ensures.1)
    (e ∙ sym (ap (λ (x : Steps). c.args.code.now ++ x) (call_value_is c.args.given.now c.args.scope.now c.args.d (forms c.in-CallValue.list.now)))))
    c.call_value.ensures.code

pub value-returns-in_ok-room-in-Prim-clause-code : goal.value-returns-in_ok-room-in-Prim-clause-code
value-returns-in_ok-room-in-Prim-clause-code t c =
    on_ok_weaker c.apply_primitive.result
    (λ e. prim_arm c.args.given.now c.args.scope.now c.args.d c.args.form.now c.args.code.now c.apply_primitive.new.code c.in-Prim.which c.in-Prim.list.now c.arguments-in-Prim.new.code c.arguments-in-Prim.new.scope
    (c.in-Prim.ensures.1) c.in_ok-arguments-in-Prim.ensures.code c.in_ok-arguments-in-Prim.ensures.scope e)
    c.apply_primitive.ensures

pub value-returns-in_ok-inside-in-Block-clause-code : goal.value-returns-in_ok-inside-in-Block-clause-code
value-returns-in_ok-inside-in-Block-clause-code t c =
    on_ok_weaker c.block_code.result
    (λ e. block_arm c.args.given.now c.args.scope.now c.args.d c.args.form.now c.args.code.now c.block_code.new.code c.in-Block.body.now c.enter.new.scope c.in_ok-inside-in-Block.inside
    (c.in-Block.ensures.1) c.in_ok-enter-in-Block.ensures c.in_ok-inside-in-Block.ensures.code e)
    c.block_code.ensures

pub value-returns-in_ok-inside-in-Catch-clause-code : goal.value-returns-in_ok-inside-in-Catch-clause-code
value-returns-in_ok-inside-in-Catch-clause-code t c =
    on_ok_weaker c.catch_code.result
    (λ e. catch_arm c.args.given.now c.args.scope.now c.args.d c.args.form.now c.args.code.now c.catch_code.new.code c.in-Catch.tag.now c.in-Catch.body.now c.value-in-Catch.new.code c.value-in-Catch.new.scope c.in_ok-inside-in-Catch.inside
    (c.in-Catch.ensures.1) c.in_ok-value-in-Catch.ensures.code c.in_ok-value-in-Catch.ensures.scope c.in_ok-inside-in-Catch.ensures.code e)
    c.catch_code.ensures

pub value-returns-in_ok-inside-in-WithHandler-clause-code : goal.value-returns-in_ok-inside-in-WithHandler-clause-code
value-returns-in_ok-inside-in-WithHandler-clause-code t c =
    on_ok_weaker c.with_handler_code.result
    (λ e. handler_arm c.args.given.now c.args.scope.now c.args.d c.args.form.now c.args.code.now c.with_handler_code.new.code c.in-WithHandler.handler.now c.in-WithHandler.body.now c.value-in-WithHandler.new.code c.value-in-WithHandler.new.scope c.inside-in-WithHandler.new.scope c.in_ok-inside-in-WithHandler.inside
    (c.in-WithHandler.ensures.1) c.in_ok-value-in-WithHandler.ensures.code c.in_ok-value-in-WithHandler.ensures.scope c.in_ok-inside-in-WithHandler.ensures.code c.in_ok-inside-in-WithHandler.ensures.scope e)
    c.with_handler_code.ensures

pub value-returns-in_ok-value-in-Sited-clause-code : goal.value-returns-in_ok-value-in-Sited-clause-code
value-returns-in_ok-value-in-Sited-clause-code t c =
    let s = c.args.scope.now in
    sited_arm c.args.given.now c.args.scope.now c.args.d c.args.form.now c.args.code.now c.value-in-Sited.new.code c.in-Sited.site c.in-Sited.inner.now (at_site c.in_ok-word-in-Sited.field-0 s)
    (c.in-Sited.ensures.1) (ap (λ (n : ℕ). at_site n s) c.in_ok-word-in-Sited.ensures) c.in_ok-value-in-Sited.ensures.code

pub asked_clause-returns-clause-code : goal.asked_clause-returns-clause-code
asked_clause-returns-clause-code t c =
    let g = c.args.given.now in
    let s = c.args.scope.now in
    let d = c.args.d in
    let x = c.args.choice.now.test in
    let body = c.args.choice.now.body in
    elim c.match-choice.branch [
      | asked_clause-in-None+in_ok-value-in-None+in_ok-room-in-None+in_ok-test-in-None+in_ok-push-in-None w ↦
          alone_arm g s d x (maybe_form body) c.new-code.result c.match-choice.code c.args.otherwise w.value.new.code w.value_judged.new.code w.new.result w.in_ok-test-in-None.test
          (ap maybe_form w.in-None.is) c.new-code.ensures w.in_ok-value-in-None.ensures.code w.in_ok-test-in-None.ensures.ready w.in_ok-test-in-None.ensures.test w.new.ensures
          (w.code-is ∙ w.in_ok-push-in-None.ensures.ok ∙ ap (λ i. w.value_judged.new.code ++ i ∷ []) w.either.ensures)
      | asked_clause-in-Some+in_ok-test-in-Some+in_ok-first-in-Some+in_ok-push-in-Some w ↦
          body_arm g s d x (maybe_form body) c.new-code.result c.match-choice.code c.args.otherwise w.in-Some.body w.judged.new.code w.in_ok-first-in-Some.first w.in_ok-test-in-Some.test w.judged.new.scope
          (ap maybe_form w.in-Some.is) c.new-code.ensures w.in_ok-test-in-Some.ensures.code w.in_ok-test-in-Some.ensures.test w.in_ok-test-in-Some.ensures.scope w.in_ok-first-in-Some.ensures.code
          (w.code-is ∙ w.in_ok-push-in-Some.ensures.ok ∙ ap (λ i. w.judged.new.code ++ i ∷ []) w.either-in-Some.ensures)
    ]

pub clause-returns-in-None-body-clause-code : goal.clause-returns-in-None-body-clause-code
clause-returns-in-None-body-clause-code t c =
    let g = c.args.given.now in
    let x = c.args.choice.now.test in
    IfOk-weaker c.inside.result _ _
    (λ y e. taken_alone g c.args.scope.now c.args.d x (truth_of g x) c.args.otherwise y (maybe_form c.args.choice.now.body)
    (sym c.known_truth.ensures ∙ c.in-Some-true.is ∙ ap Some c.in-Some-true.field-0-test) (ap maybe_form c.in-None-body.is) e)
    c.inside.ensures.code

pub clause-returns-in-Some-true-clause-code : goal.clause-returns-in-Some-true-clause-code
clause-returns-in-Some-true-clause-code t c =
    let g = c.args.given.now in
    let x = c.args.choice.now.test in
    IfOk-weaker c.inside-in-Some.result _ _
    (λ y e. taken_body g c.args.scope.now c.args.d x (truth_of g x) c.args.otherwise y (maybe_form c.args.choice.now.body) _
    (sym c.known_truth.ensures ∙ c.in-Some-true.is ∙ ap Some c.in-Some-true.field-0-test) (ap maybe_form c.in-Some.is) e)
    c.inside-in-Some.ensures.code

pub clause-returns-in-Some-false-clause-code : goal.clause-returns-in-Some-false-clause-code
clause-returns-in-Some-false-clause-code t c =
    let g = c.args.given.now in
    let x = c.args.choice.now.test in
    left_out g c.args.scope.now c.args.d x (truth_of g x) c.args.otherwise c.args.otherwise (maybe_form c.args.choice.now.body)
    (sym c.known_truth.ensures ∙ c.in-Some-false.is ∙ ap Some c.in-Some-false.field-0-test) refl
