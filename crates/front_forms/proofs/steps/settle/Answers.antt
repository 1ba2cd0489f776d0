-- Each step leads on, and the last datum is no derived form.
use Rattle.std.proofs.lemmas.Result.{err_from_is_err_and}
use Rattle.front_profile.specs.Promises.{settled_datum}
use Rattle.front_forms.specs.Settled.{with_symbols}
use Rattle.front_forms.proofs.Settling.{no_refusal, led_refused, led_same, led_step, StepsEnded, led_ends, Stopped, led_stops}
use Rattle.front_forms.proofs.steps.settle.Goals as goal

pub loop-refusal-init : goal.loop-refusal-init
loop-refusal-init c = led_same c.args.names.now c.args.tables.now c.args.datum.now c.requires.good

pub derive-requires-clause-formed : goal.derive-requires-clause-formed
derive-requires-clause-formed c = rw c.last_datum-last.ensures c.loop-refusal.invariant.good.formed

pub derive-requires-clause-named : goal.derive-requires-clause-named
derive-requires-clause-named c = rw c.last_datum-last.ensures c.loop-refusal.invariant.good.named

pub loop-refusal-preserved : goal.loop-refusal-preserved
loop-refusal-preserved c =
    let h = c.in_ok-derive.ensures in
    led_step _ _ _ _ _ c.loop-refusal.tables _ _ _ _ c.derive.new.fresh c.loop-refusal.invariant c.last_datum-last.ensures (no_refusal c.class_in_front.result _ c.class_in_front.ensures c.in_default.not-Some) c.in-Derived.is
    h.names h.step_stays h.whole

ended : (c : goal.In-Plain) → StepsEnded c.args.names.now c.derive.new.names c.args.tables.now c.args.datum.now
    (with_symbols c.derive.new.fresh c.loop-refusal.tables) (settled_datum c.loop-refusal.found c.args.datum.now)
ended c =
    let h = c.in_ok-derive.ensures in
    led_ends _ _ _ _ _ c.loop-refusal.tables _ _ _ c.derive.new.fresh c.loop-refusal.invariant c.last_datum-last.ensures (no_refusal c.class_in_front.result _ c.class_in_front.ensures c.in_default.not-Some) c.in-Plain.is
    h.names h.step_stays

pub returns-in-Plain-clause-settles : goal.returns-in-Plain-clause-settles
returns-in-Plain-clause-settles c = (ended c).settles

pub returns-in-Plain-clause-good : goal.returns-in-Plain-clause-good
returns-in-Plain-clause-good c = (ended c).good

pub returns-in-Plain-clause-names : goal.returns-in-Plain-clause-names
returns-in-Plain-clause-names c = (ended c).later

pub returns-in-Plain-clause-kept : goal.returns-in-Plain-clause-kept
returns-in-Plain-clause-kept c = (ended c).kept

pub returns-in-Plain-clause-grows : goal.returns-in-Plain-clause-grows
returns-in-Plain-clause-grows c = (ended c).grows

stopped : (c : goal.Joined-found-3) → Stopped c.args.names.now c.derive.new.names c.args.tables.now c.args.datum.now
    (with_symbols c.derive.new.fresh c.loop-refusal.tables) c.in_err-derive.field-0.0
stopped c =
    let h = c.in_err-derive.ensures in
    led_stops _ _ _ _ _ c.loop-refusal.tables _ _ _ c.derive.new.fresh c.loop-refusal.invariant c.last_datum-last.ensures (no_refusal c.class_in_front.result _ c.class_in_front.ensures c.in_default.not-Some)
    h.names h.stop_stays h.fresh

pub returns-in_err-derive-clause-stops : goal.returns-in_err-derive-clause-stops
returns-in_err-derive-clause-stops c =
    let p = err_from_is_err_and c.from_residual.result c.from_residual.ensures.1 in rw (p.1, p.2) (stopped c).stops

pub returns-in_err-derive-clause-names : goal.returns-in_err-derive-clause-names
returns-in_err-derive-clause-names c = (stopped c).later

pub returns-in_err-derive-clause-kept : goal.returns-in_err-derive-clause-kept
returns-in_err-derive-clause-kept c = (stopped c).kept

pub returns-in_err-derive-clause-grows : goal.returns-in_err-derive-clause-grows
returns-in_err-derive-clause-grows c = (stopped c).grows

pub returns-in-Some-clause-stops : goal.returns-in-Some-clause-stops
returns-in-Some-clause-stops c =
    led_refused _ _ _ _ c.loop-refusal.tables _ _ _ c.in-Some.refusal c.loop-refusal.invariant c.last_datum-last.ensures c.class_in_front.ensures c.in-Some.is

pub returns-in-Some-clause-kept : goal.returns-in-Some-clause-kept
returns-in-Some-clause-kept c = c.loop-refusal.invariant.kept
