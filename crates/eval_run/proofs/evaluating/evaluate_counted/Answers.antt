-- The run of the flat program is the evaluation of the program.
use Rattle.std.proofs.lemmas.Result.{err_from_is_err_and}
use Rattle.lang_meaning.specs.Evaluation.{Evaluation}
use Rattle.eval_run.proofs.Before.{broken_before}
use Rattle.eval_run.proofs.Cells.{few_flat_cells}
use Rattle.eval_run.proofs.Meant.{Known}
use Rattle.eval_run.proofs.Told.{known_of, runs_told, ends_told, units_told, tells_told, faults_told, breaks_told}
use Rattle.eval_run.proofs.evaluating.evaluate_counted.Goals as goal

pub returns-in_err-flat-clause-breaks_off : goal.returns-in_err-flat-clause-breaks_off
returns-in_err-flat-clause-breaks_off g c =
    let p = err_from_is_err_and c.from_residual.result c.from_residual.ensures.1 in
    rw p.1 (broken_before (record { names = c.args.names.now; program = c.args.program.now; levels = c.args.levels; words = c.args.words }) _ _)

pub run_flat-ended-requires : goal.run_flat-ended-requires
run_flat-ended-requires g c =
    record { cells = few_flat_cells c.in_ok-flat.flat c.args.program.now c.in_ok-flat.ensures.made c.rows-rows.ensures.whole }

pub returns-clause-ends : goal.returns-clause-ends
returns-clause-ends g c =
    let e : Evaluation = record { names = c.args.names.now; program = c.args.program.now; levels = c.args.levels; words = c.args.words } in
    let flat = c.in_ok-flat.ensures in
    let known : Known e = known_of e c.in_ok-flat.flat c.law_machine.ensures c.law_printing.ensures c.law_reading.ensures c.law_units.ensures c.law_words.ensures c.law_stores.ensures c.law_alike_tellings.ensures c.rows-rows.ensures.whole flat.made flat.same_runs in
    ends_told e known c.in_ok-flat.flat flat.made _ _ _ _ c.end_of.result (
    runs_told e known c.in_ok-flat.flat flat.made _ _ _ _ c.run_flat-ended.result c.end_of.result c.run_flat-ended.ensures.ends c.run_flat-ended.ensures.stops
    c.end_of.ensures)

pub returns-clause-runs : goal.returns-clause-runs
returns-clause-runs g c =
    let e : Evaluation = record { names = c.args.names.now; program = c.args.program.now; levels = c.args.levels; words = c.args.words } in
    let flat = c.in_ok-flat.ensures in
    let known : Known e = known_of e c.in_ok-flat.flat c.law_machine.ensures c.law_printing.ensures c.law_reading.ensures c.law_units.ensures c.law_words.ensures c.law_stores.ensures c.law_alike_tellings.ensures c.rows-rows.ensures.whole flat.made flat.same_runs in
    runs_told e known c.in_ok-flat.flat flat.made _ _ _ _ c.run_flat-ended.result c.end_of.result c.run_flat-ended.ensures.ends c.run_flat-ended.ensures.stops
    c.end_of.ensures

pub returns-clause-units : goal.returns-clause-units
returns-clause-units g c =
    let e : Evaluation = record { names = c.args.names.now; program = c.args.program.now; levels = c.args.levels; words = c.args.words } in
    let flat = c.in_ok-flat.ensures in
    let known : Known e = known_of e c.in_ok-flat.flat c.law_machine.ensures c.law_printing.ensures c.law_reading.ensures c.law_units.ensures c.law_words.ensures c.law_stores.ensures c.law_alike_tellings.ensures c.rows-rows.ensures.whole flat.made flat.same_runs in
    units_told e known c.in_ok-flat.flat flat.made _ _ _ _ c.end_of.result (
    runs_told e known c.in_ok-flat.flat flat.made _ _ _ _ c.run_flat-ended.result c.end_of.result c.run_flat-ended.ensures.ends c.run_flat-ended.ensures.stops
    c.end_of.ensures)

pub returns-clause-tells : goal.returns-clause-tells
returns-clause-tells g c =
    let e : Evaluation = record { names = c.args.names.now; program = c.args.program.now; levels = c.args.levels; words = c.args.words } in
    let flat = c.in_ok-flat.ensures in
    let known : Known e = known_of e c.in_ok-flat.flat c.law_machine.ensures c.law_printing.ensures c.law_reading.ensures c.law_units.ensures c.law_words.ensures c.law_stores.ensures c.law_alike_tellings.ensures c.rows-rows.ensures.whole flat.made flat.same_runs in
    tells_told e known c.in_ok-flat.flat flat.made _ _ _ _ c.end_of.result (
    runs_told e known c.in_ok-flat.flat flat.made _ _ _ _ c.run_flat-ended.result c.end_of.result c.run_flat-ended.ensures.ends c.run_flat-ended.ensures.stops
    c.end_of.ensures)

pub returns-clause-fault : goal.returns-clause-fault
returns-clause-fault g c =
    faults_told c.run_flat-ended.result c.end_of.result _ _ c.run_flat-ended.ensures.own c.run_flat-ended.ensures.fault c.end_of.ensures

pub returns-clause-breaks_off : goal.returns-clause-breaks_off
returns-clause-breaks_off g c =
    let e : Evaluation = record { names = c.args.names.now; program = c.args.program.now; levels = c.args.levels; words = c.args.words } in
    let flat = c.in_ok-flat.ensures in
    let known : Known e = known_of e c.in_ok-flat.flat c.law_machine.ensures c.law_printing.ensures c.law_reading.ensures c.law_units.ensures c.law_words.ensures c.law_stores.ensures c.law_alike_tellings.ensures c.rows-rows.ensures.whole flat.made flat.same_runs in
    breaks_told e known c.in_ok-flat.flat flat.made _ _ _ _ c.run_flat-ended.result c.end_of.result c.run_flat-ended.ensures.stops c.end_of.ensures
