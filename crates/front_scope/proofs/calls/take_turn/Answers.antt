-- Steps lead to a datum that is no derived form, and that is no call of a macro, or expands, or is refused.
use Rattle.std.proofs.Common.{◌≡◌, Option, None, Some, subst}
use Rattle.std.proofs.lemmas.Result.{err_from_is_err_and}
use Rattle.base.specs.Data.{Item}
use Rattle.front_profile.specs.Promises.{settled_datum}
use Rattle.front_profile.specs.Rows.{macro_called, settled_node}
use Rattle.front_profile.specs.bridge.Growing.{tables_grow_transitive}
use Rattle.front_drafts.specs.Views.{at}
use Rattle.front_scope.specs.Calls.{CallGives, Calls, NodeEnds}
use Rattle.front_scope.proofs.Calling.{begun_grows, settled_same, expanded_then, stops_then}
use Rattle.front_scope.proofs.calls.take_turn.Goals as goal

pub expand_once-requires-clause-begun : goal.expand_once-requires-clause-begun
expand_once-requires-clause-begun g c = begun_grows _ _ c.settle.ensures.grows c.requires.begun

pub expand_once-requires-clause-good : goal.expand_once-requires-clause-good
expand_once-requires-clause-good g c = rw c.last_datum-last.ensures c.in_ok-found.ensures.good

pub returns-in_err-found-clause-stops : goal.returns-in_err-found-clause-stops
returns-in_err-found-clause-stops g c =
    let p = err_from_is_err_and c.from_residual.result c.from_residual.ensures.1 in
    rw (p.1, p.2) (c.in_err-found.ensures.stops (at c.args.bound.now c.args.spot))

pub returns-in-Ok-None-clause-gives : goal.returns-in-Ok-None-clause-gives
returns-in-Ok-None-clause-gives g c =
    let names = c.settle.new.names in
    let a = at c.args.bound.now c.args.spot in
    let last = settled_datum c.in_ok-found.found c.args.datum.now in
    let P : Option Item → Type 0 = λ o. CallGives names a c.settle.new.tables c.last_datum-last.result.now c.expand_once.new.tables o in
    let there : P None = subst P c.in-Ok-None.field-0-is c.in-Ok-None.ensures.gives in
    let none : macro_called names a c.settle.new.tables last ≡ None =
    subst (λ (d : Item). macro_called names a c.settle.new.tables d ≡ None) c.last_datum-last.ensures there.0 in
    settled_same names a c.args.tables.now c.args.datum.now c.settle.new.tables c.expand_once.new.tables last c.in_ok-found.ensures.settles c.in_ok-found.ensures.good
    c.in_ok-found.ensures.kept none there.1

pub returns-in-Ok-None-clause-grows : goal.returns-in-Ok-None-clause-grows
returns-in-Ok-None-clause-grows g c = tables_grow_transitive _ _ _ c.settle.ensures.grows c.expand_once.ensures.grows

pub returns-in-Ok-Some-clause-gives : goal.returns-in-Ok-Some-clause-gives
returns-in-Ok-Some-clause-gives g c =
    let names = c.settle.new.names in
    let a = at c.args.bound.now c.args.spot in
    let last = settled_datum c.in_ok-found.found c.args.datum.now in
    let e = c.in-Ok-Some.expansion in
    let P : Option Item → Type 0 = λ o. CallGives names a c.settle.new.tables c.last_datum-last.result.now c.expand_once.new.tables o in
    let there : P (Some e) = subst P c.in-Ok-Some.field-0-is c.in-Ok-Some.ensures.gives in
    let call : Calls names a c.settle.new.tables last c.expand_once.new.tables e =
    subst (λ (d : Item). Calls names a c.settle.new.tables d c.expand_once.new.tables e) c.last_datum-last.ensures there in
    expanded_then names a c.args.tables.now c.args.datum.now c.settle.new.tables last c.expand_once.new.tables e c.in_ok-found.ensures.settles
    c.in_ok-found.ensures.kept call

pub returns-in-Ok-Some-clause-grows : goal.returns-in-Ok-Some-clause-grows
returns-in-Ok-Some-clause-grows g c = tables_grow_transitive _ _ _ c.settle.ensures.grows c.expand_once.ensures.grows

pub returns-in-Err-clause-stops : goal.returns-in-Err-clause-stops
returns-in-Err-clause-stops g c =
    let names = c.settle.new.names in
    let a = at c.args.bound.now c.args.spot in
    let last = settled_datum c.in_ok-found.found c.args.datum.now in
    let ends = subst (λ (d : Item). NodeEnds names (λ later. settled_node later a c.settle.new.tables d) c.in-Err.stop) c.last_datum-last.ensures c.in-Err.ensures.stops in
    stops_then names a c.args.tables.now c.args.datum.now c.settle.new.tables last c.in-Err.stop c.in_ok-found.ensures.settles ends

pub returns-in-Err-clause-grows : goal.returns-in-Err-clause-grows
returns-in-Err-clause-grows g c = tables_grow_transitive _ _ _ c.settle.ensures.grows c.expand_once.ensures.grows
