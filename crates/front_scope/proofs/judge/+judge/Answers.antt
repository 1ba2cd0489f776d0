-- Each part in its turn.
use Rattle.std.proofs.Common.{◌≡◌, ◌<◌, List, ◌++◌, [], length, refl, ap, subst, sym, ◌∙◌, rules}
use Rattle.std.proofs.lemmas.Result.{err_from_is_err_and}
use Rattle.base.specs.Names.{Extends-same, Extends-then}
use Rattle.base.specs.WellFormedData.{WellFormed, good_stays}
use Rattle.front_profile.specs.declared.bound.Bound.{Bound}
use Rattle.front_profile.specs.FunctionNodes.{function_node}
use Rattle.front_profile.specs.Rows.{plain_node}
use Rattle.front_profile.specs.Promises.{FormStops, settled_datum}
use Rattle.front_profile.specs.Sound.{weight, AllSound}
use Rattle.front_profile.specs.Walks.{PartTaken, PartStops, Through}
use Rattle.front_profile.specs.bridge.Growing.{tables_grow_transitive}
use Rattle.front_profile.specs.Known.{KnownTables, MakesSuited}
use Rattle.front_drafts.specs.Views.{at, shown, view_part, view_parts, view_inner, view_function}
use Rattle.front_programs.specs.Calls.{Begun}
use Rattle.front_scope.specs.Calls.{Settled}
use Rattle.front_scope.specs.Walk.{FormGives, node_of}
use Rattle.front_scope.proofs.Judging.{settled_comes, settled_stops, whole_comes, whole_stop, offends_there, row_sound, row_suited, function_weight, work_sound, work_comes, work_stops, bound_there}
use Rattle.front_scope.proofs.Calling.{begun_grows}
use Rattle.front_scope.proofs.Walked.{walked_then, cut_back, value_walked, function_walked, wrong_walked, form_walked, below_walked, binding_walked, parameter_walked, whole_walked}
use Rattle.front_scope.proofs.Walking.{sound_stays, sound_first, sound_rest, next_part, next_inner, no_parts, no_inner, inner_sound, so_far_none, so_far_turn, so_far_stops, inside_none, inside_turn, inside_stops}
use Rattle.front_scope.proofs.judge.+judge.Goals as goal

-- a form, with its steps

pub judge-returns-in_err-settled : goal.judge-returns-in_err-settled
judge-returns-in_err-settled g c c' =
    let p = err_from_is_err_and c'.from_residual.result c'.from_residual.ensures.1 in
    rw (p.1, p.2) (
    record {
      names = c'.in_err-settled.ensures.names;
      grows = c'.in_err-settled.ensures.grows;
      bound = tt;
      stands = tt;
      stops = c'.in_err-settled.ensures.stops;
    }
    )

pub judge-returns-in-None : goal.judge-returns-in-None
judge-returns-in-None g c c' =
    let d = c'.args.datum.now in
    let b = at c'.args.bound.now c'.in_ok-settled.settled.spot in
    let settled : Settled c'.settle_calls.new.names (at c'.args.bound.now c'.args.spot) c'.args.tables.now d b c'.settle_calls.new.tables d =
    subst (λ o. Settled c'.settle_calls.new.names (at c'.args.bound.now c'.args.spot) c'.args.tables.now d b c'.settle_calls.new.tables (settled_datum o d)) c'.in-None.is c'.in_ok-settled.ensures.settled in
    walked_then _ _ _ _ _ _ _ _ _ _ _ _ _ c'.in_ok-settled.ensures.names c'.in_ok-settled.ensures.grows c'.judge_plain.ensures
    (λ f p. settled_comes _ _ _ _ _ _ _ _ _ c'.judge_plain.ensures.names settled p)
    (λ stop p. settled_stops _ _ _ _ _ _ _ _ stop c'.judge_plain.ensures.names settled p)

pub judge-returns-in-Some : goal.judge-returns-in-Some
judge-returns-in-Some g c c' =
    let d = c'.args.datum.now in
    let b = at c'.args.bound.now c'.in_ok-settled.settled.spot in
    let settled : Settled c'.settle_calls.new.names (at c'.args.bound.now c'.args.spot) c'.args.tables.now d b c'.settle_calls.new.tables c'.in-Some.last =
    subst (λ o. Settled c'.settle_calls.new.names (at c'.args.bound.now c'.args.spot) c'.args.tables.now d b c'.settle_calls.new.tables (settled_datum o d)) c'.in-Some.is c'.in_ok-settled.ensures.settled in
    walked_then _ _ _ _ _ _ _ _ _ _ _ _ _ c'.in_ok-settled.ensures.names c'.in_ok-settled.ensures.grows c'.judge_plain-form.ensures
    (λ f p. settled_comes _ _ _ _ _ _ _ _ _ c'.judge_plain-form.ensures.names settled p)
    (λ stop p. settled_stops _ _ _ _ _ _ _ _ stop c'.judge_plain-form.ensures.names settled p)

-- what is judged in its place: known tables, a datum in form, and as deep

pub judge-judge_plain-requires : goal.judge-judge_plain-requires
judge-judge_plain-requires g c c' =
    let known : KnownTables c'.settle_calls.new.tables = c'.in_ok-settled.ensures.settled.known c'.requires.known in
    let begun : Begun c'.settle_calls.new.tables = c'.in_ok-settled.ensures.begun in
    let same : weight c'.in_ok-settled.settled.spot ≡ weight c'.args.spot = c'.in_ok-settled.ensures.weight in
    let good : WellFormed (length c'.settle_calls.new.names) c'.args.datum.now =
    subst (λ o. WellFormed (length c'.settle_calls.new.names) (settled_datum o c'.args.datum.now)) c'.in-None.is c'.in_ok-settled.ensures.settled.good in
    search rules

pub judge-judge_plain-form-requires : goal.judge-judge_plain-form-requires
judge-judge_plain-form-requires g c c' =
    let known : KnownTables c'.settle_calls.new.tables = c'.in_ok-settled.ensures.settled.known c'.requires.known in
    let begun : Begun c'.settle_calls.new.tables = c'.in_ok-settled.ensures.begun in
    let same : weight c'.in_ok-settled.settled.spot ≡ weight c'.args.spot = c'.in_ok-settled.ensures.weight in
    let good : WellFormed (length c'.settle_calls.new.names) c'.in-Some.last =
    subst (λ o. WellFormed (length c'.settle_calls.new.names) (settled_datum o c'.args.datum.now)) c'.in-Some.is c'.in_ok-settled.ensures.settled.good in
    search rules

-- a form that is no derived one

pub judge_plain-carry_out-requires : goal.judge_plain-carry_out-requires
judge_plain-carry_out-requires g c c' =
    let row = sym (ap (λ q. shown c'.args.bound.now c'.plain_plan.new.tables q) c'.in-Whole.is) ∙ c'.in-Ok.ensures.plan in
    let good : WellFormed (length c'.plain_plan.new.names) c'.args.datum.now = good_stays _ _ _ c'.in-Ok.ensures.names c'.requires.good in
    let sound : AllSound (length c'.plain_plan.new.names) (weight c'.args.spot) (at c'.args.bound.now c'.in-Whole.work.outside)
    (at (c'.args.bound.now ++ c'.in-Whole.work.binds) c'.in-Whole.work.inside) (view_parts c'.in-Whole.work.parts ++ view_inner c'.in-Whole.work.inner) =
    row_sound c'.plain_plan.new.names (at c'.args.bound.now c'.args.spot) c'.args.tables.now c'.args.datum.now
    (at c'.args.bound.now c'.in-Whole.work.outside) (at (c'.args.bound.now ++ c'.in-Whole.work.binds) c'.in-Whole.work.inside) c'.plain_plan.new.tables
    (view_parts c'.in-Whole.work.parts ++ view_inner c'.in-Whole.work.inner) c'.in-Whole.work.made good row in
    let suited : MakesSuited (at c'.args.bound.now c'.in-Whole.work.outside) (at (c'.args.bound.now ++ c'.in-Whole.work.binds) c'.in-Whole.work.inside)
    c'.plain_plan.new.tables (view_parts c'.in-Whole.work.parts ++ view_inner c'.in-Whole.work.inner) c'.in-Whole.work.made =
    row_suited (plain_node c'.plain_plan.new.names (at c'.args.bound.now c'.args.spot) c'.args.tables.now c'.args.datum.now)
    (at c'.args.bound.now c'.in-Whole.work.outside) (at (c'.args.bound.now ++ c'.in-Whole.work.binds) c'.in-Whole.work.inside) c'.plain_plan.new.tables
    (view_parts c'.in-Whole.work.parts ++ view_inner c'.in-Whole.work.inner) c'.in-Whole.work.made row
    (c'.law_suits.ensures.plain_forms c'.plain_plan.new.names (at c'.args.bound.now c'.args.spot) c'.args.tables.now c'.args.datum.now c'.requires.known) in
    let begun : Begun c'.plain_plan.new.tables = begun_grows _ _ c'.in-Ok.ensures.grows c'.requires.begun in
    search rules

pub judge_plain-returns-in-Offends : goal.judge_plain-returns-in-Offends
judge_plain-returns-in-Offends g c c' = record {
  names = c'.in-Ok.ensures.names;
  grows = c'.in-Ok.ensures.grows;
  bound = tt;
  stands = tt;
  stops = offends_there _ _ _ _ _ _ (good_stays _ _ _ c'.in-Ok.ensures.names c'.requires.good)
      (sym (ap (λ q. shown c'.args.bound.now c'.plain_plan.new.tables q) c'.in-Offends.is) ∙ c'.in-Ok.ensures.plan) (Extends-same _);
}

pub judge_plain-returns-in-Whole : goal.judge_plain-returns-in-Whole
judge_plain-returns-in-Whole g c c' =
    let row = sym (ap (λ q. shown c'.args.bound.now c'.plain_plan.new.tables q) c'.in-Whole.is) ∙ c'.in-Ok.ensures.plan in
    let good = good_stays _ _ _ c'.in-Ok.ensures.names c'.requires.good in
    walked_then _ _ _ _ _ _ _ _ _ _ _ _ _ c'.in-Ok.ensures.names c'.in-Ok.ensures.grows c'.carry_out.ensures
    (λ f p. whole_comes _ _ _ _ _ _ _ _ _ _ _ good row c'.carry_out.ensures.names p)
    (λ stop p. whole_stop _ _ _ _ _ _ _ _ _ _ stop good row c'.carry_out.ensures.names p)

-- its parts, and the core form

pub carry_out-returns : goal.carry_out-returns
carry_out-returns g c c' = whole_walked _ _ _ _ _ _ _ _ _ _ _ _ _ _ c'.judge_all-walked.ensures c'.complete_found.ensures

-- the parts outside, and the forms inside

pub judge_all-judge_parts-requires : goal.judge_all-judge_parts-requires
judge_all-judge_parts-requires g c c' =
    let sound : AllSound (length c'.args.names.now) (weight c'.args.spot) (at c'.args.bound.now c'.args.spots.outside)
    (at (c'.args.bound.now ++ c'.args.binds) c'.args.spots.inside) (view_parts c'.args.parts.now) =
    sound_first (length c'.args.names.now) (weight c'.args.spot) (at c'.args.bound.now c'.args.spots.outside) (at (c'.args.bound.now ++ c'.args.binds) c'.args.spots.inside)
    (view_parts c'.args.parts.now) (view_inner c'.args.inner.now) c'.requires.sound in
    search rules

pub judge_all-returns-in_err-judge_parts : goal.judge_all-returns-in_err-judge_parts
judge_all-returns-in_err-judge_parts g c c' =
    let p = err_from_is_err_and c'.from_residual.result c'.from_residual.ensures.1 in
    rw (p.1, p.2) (
    record {
      names = c'.in_err-judge_parts.ensures.names;
      grows = c'.in_err-judge_parts.ensures.grows;
      bound = tt;
      stands = tt;
      stops = c'.in_err-judge_parts.ensures.stops (view_inner c'.args.inner.now);
    }
    )

pub judge_all-judge_inner-requires : goal.judge_all-judge_inner-requires
judge_all-judge_inner-requires g c c' =
    let sound : AllSound (length c'.judge_parts.new.names) (weight c'.args.spot) (at c'.append_list.new.self c'.args.spots.outside)
    (at c'.append_list.new.self c'.args.spots.inside) (view_inner c'.args.inner.now) =
    sound_stays c'.args.names.now c'.judge_parts.new.names (weight c'.args.spot) (at c'.args.bound.now c'.args.spots.outside)
    (at (c'.args.bound.now ++ c'.args.binds) c'.args.spots.inside) (at c'.append_list.new.self c'.args.spots.outside) (at c'.append_list.new.self c'.args.spots.inside)
    (view_inner c'.args.inner.now) c'.in_ok-judge_parts.ensures.names refl refl
    (sound_rest (length c'.args.names.now) (weight c'.args.spot) (at c'.args.bound.now c'.args.spots.outside) (at (c'.args.bound.now ++ c'.args.binds) c'.args.spots.inside)
    (view_parts c'.args.parts.now) (view_inner c'.args.inner.now) c'.requires.sound) in
    let known : KnownTables c'.judge_parts.new.tables =
    c'.law_known.ensures.walks c'.judge_parts.new.names (at c'.args.bound.now c'.args.spots.outside) (at (c'.args.bound.now ++ c'.args.binds) c'.args.spots.inside)
    c'.args.tables.now (view_parts c'.args.parts.now ++ []) c'.judge_parts.new.found _ c'.judge_parts.new.tables c'.requires.known (c'.in_ok-judge_parts.ensures.stands []) in
    let begun : Begun c'.judge_parts.new.tables = begun_grows _ _ c'.in_ok-judge_parts.ensures.grows c'.requires.begun in
    search rules

pub judge_all-returns-in_err-judge_inner : goal.judge_all-returns-in_err-judge_inner
judge_all-returns-in_err-judge_inner g c c' =
    let p = err_from_is_err_and c'.from_residual-in_err-judge_inner.result c'.from_residual-in_err-judge_inner.ensures.1 in
    let through = bound_there _ _ _ _ _ _ _ _ _ c'.append_list.new.self _ _ _ c'.in_ok-judge_parts.ensures.bound c'.in-Ok.ensures.ok
    (c'.in_ok-judge_parts.ensures.stands (view_inner c'.args.inner.now)) in
    rw (p.1, p.2) (
    record {
      names = Extends-then _ _ _ c'.in_ok-judge_parts.ensures.names c'.in_err-judge_inner.ensures.names;
      grows = tables_grow_transitive _ _ _ c'.in_ok-judge_parts.ensures.grows c'.in_err-judge_inner.ensures.grows;
      bound = tt;
      stands = tt;
      stops = c'.in_err-judge_inner.ensures.stops _ _ _ _ through;
    }
    )

pub judge_all-returns : goal.judge_all-returns
judge_all-returns g c c' =
    let through = bound_there _ _ _ _ _ _ _ _ _ c'.append_list.new.self _ _ _ c'.in_ok-judge_parts.ensures.bound c'.in-Ok.ensures.ok
    (c'.in_ok-judge_parts.ensures.stands (view_inner c'.args.inner.now)) in
    record {
      names = Extends-then _ _ _ c'.in_ok-judge_parts.ensures.names c'.in_ok-judge_inner.ensures.names;
      grows = tables_grow_transitive _ _ _ c'.in_ok-judge_parts.ensures.grows c'.in_ok-judge_inner.ensures.grows;
      bound = cut_back _ _ _ _ _ _ _ c'.in_ok-judge_parts.ensures.bound c'.len-base.ensures c'.in-Ok.ensures.ok c'.in_ok-judge_inner.ensures.bound c'.cut.ensures;
      stands = record { behind = _; through = c'.in_ok-judge_inner.ensures.stands _ _ _ _ through };
      stops = tt;
    }

-- a part

pub judge_part-returns-in-Form : goal.judge_part-returns-in-Form
judge_part-returns-in-Form g c c' = rw c'.in-Form.is (form_walked _ _ _ _ _ _ _ _ _ _ _ _ c'.judge_value.ensures)

pub judge_part-returns-in-Below : goal.judge_part-returns-in-Below
judge_part-returns-in-Below g c c' =
    let value = rw c'.deeper-below.ensures at c'.judge_value-in-Below.ensures in
    rw c'.in-Below.is (below_walked _ _ _ _ _ _ _ _ _ _ _ _ value)

pub judge_part-returns-in-Ok : goal.judge_part-returns-in-Ok
judge_part-returns-in-Ok g c c' =
    rw c'.in-Bind.is (binding_walked _ _ _ _ _ _ _ _ _ _ _ _ _ _ _ _ _ _ c'.in-Ok.ensures.ok c'.in-Ok.ensures.variable c'.in-Ok.ensures.grows c'.judge-form.ensures c'.keep_binding.ensures)

pub judge_part-returns-in-Wrong : goal.judge_part-returns-in-Wrong
judge_part-returns-in-Wrong g c c' = rw c'.in-Wrong.is (wrong_walked _ _ _ _ _ _ _ _ _ _ refl)

pub judge_part-returns-in-Function : goal.judge_part-returns-in-Function
judge_part-returns-in-Function g c c' =
    rw c'.in-Function.is (function_walked _ _ _ _ _ _ _ _ _ _ _ _ _ c'.judge_function-form.ensures c'.keep_value.ensures)

pub judge_part-returns-in-Parameter : goal.judge_part-returns-in-Parameter
judge_part-returns-in-Parameter g c c' =
    rw c'.in-Parameter.is (parameter_walked _ _ _ _ _ _ _ _ _ _ _ _ c'.take_parameter.ensures.grows c'.take_parameter.ensures.taken)

-- a function of a definition

pub judge_function-carry_out-requires : goal.judge_function-carry_out-requires
judge_function-carry_out-requires g c c' =
    let f = view_function c'.args.written.now in
    let a = at c'.args.bound.now c'.args.outside in
    let w = c'.in-Ok.work in
    let row : node_of c'.args.bound.now c'.function_work.new.tables w ≡ function_node a c'.args.tables.now f = c'.in-Ok.ensures.work.node c'.args.bound.now in
    let deep : 1001 < weight c'.args.spot = function_weight (length c'.args.names.now) (weight c'.args.spot) f c'.requires.sound in
    let sound : AllSound (length c'.args.names.now) 1001 (at c'.args.bound.now w.outside) (at (c'.args.bound.now ++ w.binds) w.inside)
    (view_parts w.parts ++ view_inner w.inner) =
    work_sound (length c'.args.names.now) (weight c'.args.spot) a c'.args.tables.now f (at c'.args.bound.now w.outside) (at (c'.args.bound.now ++ w.binds) w.inside)
    c'.function_work.new.tables (view_parts w.parts ++ view_inner w.inner) w.made c'.requires.sound row in
    let suited : MakesSuited (at c'.args.bound.now w.outside) (at (c'.args.bound.now ++ w.binds) w.inside) c'.function_work.new.tables
    (view_parts w.parts ++ view_inner w.inner) w.made =
    row_suited (function_node a c'.args.tables.now f) (at c'.args.bound.now w.outside) (at (c'.args.bound.now ++ w.binds) w.inside) c'.function_work.new.tables
    (view_parts w.parts ++ view_inner w.inner) w.made row (c'.law_suits.ensures.functions a c'.args.tables.now f c'.requires.known) in
    let begun : Begun c'.function_work.new.tables = begun_grows _ _ c'.in-Ok.ensures.grows c'.requires.begun in
    rw c'.above_body.ensures (search rules)

pub judge_function-returns : goal.judge_function-returns
judge_function-returns g c c' =
    let row : node_of c'.args.bound.now c'.function_work.new.tables c'.in-Ok.work
    ≡ function_node (at c'.args.bound.now c'.args.outside) c'.args.tables.now (view_function c'.args.written.now) = c'.in-Ok.ensures.work.node c'.args.bound.now in
    walked_then _ _ _ _ _ _ _ _ _ _ _ _ _ (Extends-same _) c'.in-Ok.ensures.grows c'.carry_out.ensures
    (λ f p. work_comes c'.carry_out.new.names
    (function_node (at c'.args.bound.now c'.args.outside) c'.args.tables.now (view_function c'.args.written.now))
    (at c'.args.bound.now c'.in-Ok.work.outside) (at (c'.args.bound.now ++ c'.in-Ok.work.binds) c'.in-Ok.work.inside) c'.function_work.new.tables
    (view_parts c'.in-Ok.work.parts ++ view_inner c'.in-Ok.work.inner) c'.in-Ok.work.made _ row p)
    (λ stop p. work_stops c'.carry_out.new.names
    (function_node (at c'.args.bound.now c'.args.outside) c'.args.tables.now (view_function c'.args.written.now))
    (at c'.args.bound.now c'.in-Ok.work.outside) (at (c'.args.bound.now ++ c'.in-Ok.work.binds) c'.in-Ok.work.inside) c'.function_work.new.tables
    (view_parts c'.in-Ok.work.parts ++ view_inner c'.in-Ok.work.inner) c'.in-Ok.work.made stop row p)

-- parts one after another

pub judge_parts-loop-part-init : goal.judge_parts-loop-part-init
judge_parts-loop-part-init g c c' = rw c'.requires.none (refl, so_far_none _ _ _ _ _ _ c'.requires.sound, c'.requires.known, c'.requires.begun)

pub judge_parts-loop-part-preserved : goal.judge_parts-loop-part-preserved
judge_parts-loop-part-preserved g c c' =
    let P : List Bound → Type 0 = λ b. PartTaken c'.judge_part.new.names (at b c'.args.spots.outside) (at (b ++ c'.loop-part.binds) c'.args.spots.inside) c'.loop-part.tables
    (view_part c'.part-item.result) c'.loop-part.found (at (b ++ c'.judge_part.new.binds) c'.args.spots.inside) c'.judge_part.new.tables c'.judge_part.new.found in
    let taken = subst P c'.loop-part.invariant.0 c'.in_ok-judge_part.ensures.stands in (
      c'.in_ok-judge_part.ensures.bound ∙ c'.loop-part.invariant.0,
      so_far_turn _ _ _ _ _ _ _ _ _ _ _ _ _ _ _ _ _ c'.loop-part.invariant.1 (next_part c'.args.parts.now c'.loop-part.part-index c'.part-item.result (search rules) (search rules))
          c'.in_ok-judge_part.ensures.names c'.in_ok-judge_part.ensures.grows refl taken,
      c'.law_known.ensures.parts _ _ _ _ _ _ _ _ _ c'.loop-part.invariant.2 taken,
      begun_grows _ _ c'.in_ok-judge_part.ensures.grows c'.loop-part.invariant.3,
    )

pub judge_parts-returns-in_err-judge_part : goal.judge_parts-returns-in_err-judge_part
judge_parts-returns-in_err-judge_part g c c' =
    let p = err_from_is_err_and c'.from_residual.result c'.from_residual.ensures.1 in
    let P : List Bound → Type 0 = λ b. PartStops c'.judge_part.new.names (at b c'.args.spots.outside) (at (b ++ c'.loop-part.binds) c'.args.spots.inside) c'.loop-part.tables
    (view_part c'.part-item.result) c'.in_err-judge_part.field-0.0 in
    rw (p.1, p.2) (
    record {
      names = Extends-then _ _ _ c'.loop-part.invariant.1.later c'.in_err-judge_part.ensures.names;
      grows = tables_grow_transitive _ _ _ c'.loop-part.invariant.1.grows c'.in_err-judge_part.ensures.grows;
      bound = tt;
      stands = tt;
      stops = so_far_stops _ _ _ _ _ _ _ _ _ _ _ _ _ _ _ c'.loop-part.invariant.1 (next_part c'.args.parts.now c'.loop-part.part-index c'.part-item.result (search rules) (search rules))
          c'.in_err-judge_part.ensures.names (subst P c'.loop-part.invariant.0 c'.in_err-judge_part.ensures.stops);
    }
    )

pub judge_parts-returns : goal.judge_parts-returns
judge_parts-returns g c c' = record {
  names = c'.loop-part.invariant.1.later;
  grows = c'.loop-part.invariant.1.grows;
  bound = c'.loop-part.invariant.0;
  stands = λ zs.
      subst (λ us. Through c'.loop-part.names (at c'.args.bound.now c'.args.spots.outside) (at (c'.args.bound.now ++ c'.args.binds.now) c'.args.spots.inside) c'.args.tables.now
      (view_parts c'.args.parts.now ++ zs) c'.loop-part.found (at (c'.args.bound.now ++ c'.loop-part.binds) c'.args.spots.inside) c'.loop-part.tables (us ++ zs))
      (no_parts c'.args.parts.now c'.loop-part.part-index (search rules)) (c'.loop-part.invariant.1.through zs);
  stops = tt;
}

-- forms inside one after another

pub judge_inner-loop-datum-init : goal.judge_inner-loop-datum-init
judge_inner-loop-datum-init g c c' = (refl, inside_none _ _ _ _ _ _ _ c'.requires.sound, c'.requires.known, c'.requires.begun)

pub judge_inner-judge_value-requires : goal.judge_inner-judge_value-requires
judge_inner-judge_value-requires g c c' =
    let part : WellFormed (length c'.loop-datum.names) c'.datum-item.result.now × (weight c'.args.spots.inside < weight c'.args.spot) =
    inner_sound c'.loop-datum.names (weight c'.args.spot) (at c'.args.bound.now c'.args.spots.outside) (at c'.args.bound.now c'.args.spots.inside) _ c'.datum-item.result.now _
    c'.loop-datum.invariant.1.sound (next_inner c'.args.inner.now c'.loop-datum.datum-index c'.datum-item.result (search rules) (search rules)) in
    search rules

pub judge_inner-loop-datum-preserved : goal.judge_inner-loop-datum-preserved
judge_inner-loop-datum-preserved g c c' =
    let value = c'.in_ok-judge_value.ensures.stands in
    let P : List Bound → Type 0 = λ b. FormGives c'.judge_value.new.names (at b c'.args.spots.inside) c'.loop-datum.tables c'.datum-item.result.now
    c'.judge_value.new.tables value.form in
    let turned = inside_turn _ _ _ _ _ _ _ _ _ _ _ _ _ _ _ _ c'.loop-datum.invariant.1 (next_inner c'.args.inner.now c'.loop-datum.datum-index c'.datum-item.result (search rules) (search rules))
    c'.in_ok-judge_value.ensures.names c'.in_ok-judge_value.ensures.grows (subst P c'.loop-datum.invariant.0 value.comes) in (
      c'.in_ok-judge_value.ensures.bound ∙ c'.loop-datum.invariant.0,
      rw value.found turned,
      c'.law_known.ensures.forms _ _ _ _ (record { form = value.form; tables = c'.judge_value.new.tables }) c'.loop-datum.invariant.2 (value.comes.under _ (Extends-same _)),
      begun_grows _ _ c'.in_ok-judge_value.ensures.grows c'.loop-datum.invariant.3,
    )

pub judge_inner-returns-in_err-judge_value : goal.judge_inner-returns-in_err-judge_value
judge_inner-returns-in_err-judge_value g c c' =
    let p = err_from_is_err_and c'.from_residual.result c'.from_residual.ensures.1 in
    let P : List Bound → Type 0 = λ b. FormStops c'.judge_value.new.names (at b c'.args.spots.inside) c'.loop-datum.tables c'.datum-item.result.now c'.in_err-judge_value.field-0.0 in
    rw (p.1, p.2) (
    record {
      names = Extends-then _ _ _ c'.loop-datum.invariant.1.later c'.in_err-judge_value.ensures.names;
      grows = tables_grow_transitive _ _ _ c'.loop-datum.invariant.1.grows c'.in_err-judge_value.ensures.grows;
      bound = tt;
      stands = tt;
      stops = inside_stops _ _ _ _ _ _ _ _ _ _ _ _ _ _ _ c'.loop-datum.invariant.1 (next_inner c'.args.inner.now c'.loop-datum.datum-index c'.datum-item.result (search rules) (search rules))
          c'.in_err-judge_value.ensures.names (subst P c'.loop-datum.invariant.0 c'.in_err-judge_value.ensures.stops);
    }
    )

pub judge_inner-returns : goal.judge_inner-returns
judge_inner-returns g c c' = record {
  names = c'.loop-datum.invariant.1.later;
  grows = c'.loop-datum.invariant.1.grows;
  bound = c'.loop-datum.invariant.0;
  stands = λ o s xs i h.
      subst (λ us. Through c'.loop-datum.names o i s xs c'.loop-datum.found (at c'.args.bound.now c'.args.spots.inside) c'.loop-datum.tables us)
      (no_inner c'.args.inner.now c'.loop-datum.datum-index (search rules)) (c'.loop-datum.invariant.1.through o s xs i h);
  stops = tt;
}

-- a form behind the others

pub judge_value-returns : goal.judge_value-returns
judge_value-returns g c c' = value_walked _ _ _ _ _ _ _ _ _ _ _ _ c'.judge-form.ensures c'.keep_value.ensures
