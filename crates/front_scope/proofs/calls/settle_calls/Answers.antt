-- Each turn leads on, and the last one ends where the form is settled.
use Rattle.std.proofs.Common.{◌∙◌, ◌+◌, Option, Some, None, refl, ap, subst}
use Rattle.std.proofs.lemmas.Result.{err_from_is_err_and}
use Rattle.base.specs.Data.{Item}
use Rattle.base.specs.Names.{Extends-then}
use Rattle.front_profile.specs.declared.spot.Spot.{Spot}
use Rattle.front_profile.specs.Promises.{FormStops, settled_datum}
use Rattle.front_profile.specs.bridge.Growing.{tables_grow_transitive}
use Rattle.front_drafts.specs.Views.{at}
use Rattle.front_scope.specs.declared.calls.Turn.{Turn}
use Rattle.front_scope.specs.declared.calls.Turn.TheVariants.{Stands, Expanded}
use Rattle.front_scope.specs.Calls.{Settled, Expansion, TurnGives}
use Rattle.front_scope.proofs.Calling.{begun_grows, going_none, going_more, going_ends, going_stops}
use Rattle.front_scope.proofs.calls.settle_calls.Goals as goal

pub turns-init : goal.turns-init
turns-init g c = (going_none c.args.names.now (at c.args.bound.now c.args.spot) c.args.tables.now c.args.datum.now c.requires.good c.requires.begun, refl)

pub returns-in_err-take_turn-clause-begun : goal.returns-in_err-take_turn-clause-begun
returns-in_err-take_turn-clause-begun g c = begun_grows _ _ c.in_err-take_turn.ensures.grows c.turns.invariant.0.begun

pub returns-in_err-take_turn-clause-stops : goal.returns-in_err-take_turn-clause-stops
returns-in_err-take_turn-clause-stops g c =
    let p = err_from_is_err_and c.from_residual.result c.from_residual.ensures.1 in
    let stops = subst (λ (d : Item). FormStops c.take_turn.new.names (at c.args.bound.now c.turns.here) c.turns.tables d c.in_err-take_turn.field-0.0)
    c.last_datum-last.ensures c.in_err-take_turn.ensures.stops in
    rw (p.1, p.2) (going_stops _ _ _ _ _ _ _ _ _ _ c.turns.invariant.0 c.in_err-take_turn.ensures.names stops)

pub returns-in_err-take_turn-clause-names : goal.returns-in_err-take_turn-clause-names
returns-in_err-take_turn-clause-names g c = Extends-then _ _ _ c.turns.invariant.0.later c.in_err-take_turn.ensures.names

pub returns-in_err-take_turn-clause-grows : goal.returns-in_err-take_turn-clause-grows
returns-in_err-take_turn-clause-grows g c = tables_grow_transitive _ _ _ c.turns.invariant.0.grown c.in_err-take_turn.ensures.grows

pub returns-in-Stands-None-clause-begun : goal.returns-in-Stands-None-clause-begun
returns-in-Stands-None-clause-begun g c = begun_grows _ _ c.in_ok-take_turn.ensures.grows c.turns.invariant.0.begun

pub returns-in-Stands-None-clause-names : goal.returns-in-Stands-None-clause-names
returns-in-Stands-None-clause-names g c = Extends-then _ _ _ c.turns.invariant.0.later c.in_ok-take_turn.ensures.names

pub returns-in-Stands-None-clause-grows : goal.returns-in-Stands-None-clause-grows
returns-in-Stands-None-clause-grows g c = tables_grow_transitive _ _ _ c.turns.invariant.0.grown c.in_ok-take_turn.ensures.grows

pub returns-in-Stands-Some-clause-begun : goal.returns-in-Stands-Some-clause-begun
returns-in-Stands-Some-clause-begun g c = begun_grows _ _ c.in_ok-take_turn.ensures.grows c.turns.invariant.0.begun

pub returns-in-Stands-Some-clause-names : goal.returns-in-Stands-Some-clause-names
returns-in-Stands-Some-clause-names g c = Extends-then _ _ _ c.turns.invariant.0.later c.in_ok-take_turn.ensures.names

pub returns-in-Stands-Some-clause-grows : goal.returns-in-Stands-Some-clause-grows
returns-in-Stands-Some-clause-grows g c = tables_grow_transitive _ _ _ c.turns.invariant.0.grown c.in_ok-take_turn.ensures.grows

pub returns-in-Stands-None-clause-settled : goal.returns-in-Stands-None-clause-settled
returns-in-Stands-None-clause-settled g c =
    let names = c.take_turn.new.names in
    let b = at c.args.bound.now c.turns.here in
    let d : Item = settled_datum c.turns.found c.args.datum.now in
    let P : Turn → Type 0 = λ w. TurnGives names b c.turns.tables c.last_datum-last.result.now c.take_turn.new.tables w in
    let stands : P (Stands None) =
    subst P (c.in-Stands-None.is ∙ ap (λ (o : Option Item). Stands o) c.in-Stands-None.field-0-is) c.in_ok-take_turn.ensures.gives in
    let there : Settled names b c.turns.tables d b c.take_turn.new.tables d =
    subst (λ (e : Item). Settled names b c.turns.tables e b c.take_turn.new.tables e) c.last_datum-last.ensures stands in
    going_ends _ _ _ _ _ _ _ _ _ _ _ c.turns.invariant.0 c.in_ok-take_turn.ensures.names there

pub returns-in-Stands-Some-clause-settled : goal.returns-in-Stands-Some-clause-settled
returns-in-Stands-Some-clause-settled g c =
    let names = c.take_turn.new.names in
    let b = at c.args.bound.now c.turns.here in
    let d : Item = settled_datum c.turns.found c.args.datum.now in
    let P : Turn → Type 0 = λ w. TurnGives names b c.turns.tables c.last_datum-last.result.now c.take_turn.new.tables w in
    let stands : P (Stands (Some c.in-Stands-Some.step)) =
    subst P (c.in-Stands-Some.is ∙ ap (λ (o : Option Item). Stands o) c.in-Stands-Some.field-0-is) c.in_ok-take_turn.ensures.gives in
    let there : Settled names b c.turns.tables d b c.take_turn.new.tables c.in-Stands-Some.step =
    subst (λ (e : Item). Settled names b c.turns.tables e b c.take_turn.new.tables c.in-Stands-Some.step) c.last_datum-last.ensures stands in
    rw c.in-Stands-Some.field-0-is (going_ends _ _ _ _ _ _ _ _ _ _ _ c.turns.invariant.0 c.in_ok-take_turn.ensures.names there)

pub turns-preserved : goal.turns-preserved
turns-preserved g c =
    let names = c.take_turn.new.names in
    let b = at c.args.bound.now c.turns.here in
    let d : Item = settled_datum c.turns.found c.args.datum.now in
    let P : Turn → Type 0 = λ w. TurnGives names b c.turns.tables c.last_datum-last.result.now c.take_turn.new.tables w in
    let more : P (Expanded c.in-Expanded.expansion) = subst P c.in-Expanded.is c.in_ok-take_turn.ensures.gives in
    let there : Expansion names b c.turns.tables d c.take_turn.new.tables c.in-Expanded.expansion =
    subst (λ (e : Item). Expansion names b c.turns.tables e c.take_turn.new.tables c.in-Expanded.expansion) c.last_datum-last.ensures more in (
      going_more _ _ _ _ _ _ _ _ _ _ _ c.turns.invariant.0 c.in_ok-take_turn.ensures.names c.in_ok-take_turn.ensures.grows there,
      ap (λ (x : Spot). record x { in_row = c.turns.here.in_row + 1 }) c.turns.invariant.1,
    )
