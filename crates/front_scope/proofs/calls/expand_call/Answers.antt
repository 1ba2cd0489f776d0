-- Past the limits a call is refused; within them it is what its expansion comes to, or is refused with it.
use Rattle.std.proofs.Common.{◌+◌, refl}
use Rattle.std.proofs.lemmas.Bool.{le-leb, lt-leb}
use Rattle.std.proofs.lemmas.Result.{err_from_is_err_and}
use Rattle.front_profile.specs.Rows.{most_expansions, most_in_row}
use Rattle.front_profile.specs.bridge.Growing.{tables_grow_reflexive}
use Rattle.front_drafts.specs.Views.{at}
use Rattle.front_scope.proofs.Calling.{expansion_grows, call_gives, call_stops, too_many_ends, too_deep_ends}
use Rattle.front_scope.proofs.MacroNames.{called_below}
use Rattle.front_scope.proofs.calls.expand_call.Goals as goal

pub returns-then-tables-ge-MOST_EXPANSIONS-clause-stops : goal.returns-then-tables-ge-MOST_EXPANSIONS-clause-stops
returns-then-tables-ge-MOST_EXPANSIONS-clause-stops g c =
    rw c.refused.ensures
    (too_many_ends c.args.names.now (at c.args.bound.now c.args.spot) c.args.tables.now c.args.datum.now c.args.macro_number c.requires.good c.requires.called
    (le-leb most_expansions c.args.tables.now.expansions c.if-tables-ge-MOST_EXPANSIONS.true))

pub returns-then-tables-ge-MOST_EXPANSIONS-clause-grows : goal.returns-then-tables-ge-MOST_EXPANSIONS-clause-grows
returns-then-tables-ge-MOST_EXPANSIONS-clause-grows g c = tables_grow_reflexive c.args.tables.now

pub returns-then-spot-ge-MOST_IN_ROW-clause-stops : goal.returns-then-spot-ge-MOST_IN_ROW-clause-stops
returns-then-spot-ge-MOST_IN_ROW-clause-stops g c =
    rw c.refused-then-spot-ge-MOST_IN_ROW.ensures
    (too_deep_ends c.args.names.now (at c.args.bound.now c.args.spot) c.args.tables.now c.args.datum.now c.args.macro_number c.requires.good c.requires.called
    (lt-leb most_expansions c.args.tables.now.expansions c.if-tables-ge-MOST_EXPANSIONS.false)
    (le-leb most_in_row c.args.spot.in_row c.if-spot-ge-MOST_IN_ROW.true))

pub returns-then-spot-ge-MOST_IN_ROW-clause-grows : goal.returns-then-spot-ge-MOST_IN_ROW-clause-grows
returns-then-spot-ge-MOST_IN_ROW-clause-grows g c = tables_grow_reflexive c.args.tables.now

pub expand-requires : goal.expand-requires
expand-requires g c = record {
  ready = record {
    begun = c.requires.begun;
    there = called_below c.args.names.now (at c.args.bound.now c.args.spot) c.args.tables.now c.args.datum.now c.args.macro_number c.requires.called;
    good = c.requires.good;
  };
}

pub returns-in_err-expansion-clause-stops : goal.returns-in_err-expansion-clause-stops
returns-in_err-expansion-clause-stops g c =
    let p = err_from_is_err_and c.from_residual.result c.from_residual.ensures.1 in
    rw (p.1, p.2) (
    call_stops c.args.names.now (at c.args.bound.now c.args.spot) c.args.tables.now c.args.datum.now c.args.macro_number (c.args.tables.now.expansions + 1)
    c.in_err-expansion.field-0.0 c.requires.good c.requires.called c.if-tables-ge-MOST_EXPANSIONS.false c.if-spot-ge-MOST_IN_ROW.false refl
    c.in_err-expansion.ensures.stops
    )

pub returns-in_err-expansion-clause-grows : goal.returns-in_err-expansion-clause-grows
returns-in_err-expansion-clause-grows g c = tables_grow_reflexive c.args.tables.now

pub returns-clause-gives : goal.returns-clause-gives
returns-clause-gives g c =
    call_gives c.law_form.ensures c.args.names.now (at c.args.bound.now c.args.spot) c.args.tables.now c.args.datum.now c.args.macro_number
    (c.args.tables.now.expansions + 1) c.in_ok-expansion.expansion c.requires.good c.requires.called c.if-tables-ge-MOST_EXPANSIONS.false
    c.if-spot-ge-MOST_IN_ROW.false refl c.in_ok-expansion.ensures.expands

pub returns-clause-grows : goal.returns-clause-grows
returns-clause-grows g c = expansion_grows c.args.tables.now (c.args.tables.now.expansions + 1) refl
