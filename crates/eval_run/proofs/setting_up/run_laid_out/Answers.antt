-- The store of the run is laid out as the initial heap says.
use Rattle.std.proofs.lemmas.Result.{err_from_is_err_and}
use Rattle.eval_run.specs.FlatRun.{IsReady}
use Rattle.eval_run.proofs.Before.{stopped_before}
use Rattle.eval_run.proofs.Outset.{ends_with, stops_with}
use Rattle.eval_run.proofs.setting_up.run_laid_out.Goals as goal

pub returns-in_err-primitives-clause-stops : goal.returns-in_err-primitives-clause-stops
returns-in_err-primitives-clause-stops g c =
    let p = err_from_is_err_and c.from_residual.result c.from_residual.ensures.1 in
    rw (p.1, p.2) (λ rows made. stopped_before _ _ _)

pub returns-in_err-lay_initial_heap-clause-stops : goal.returns-in_err-lay_initial_heap-clause-stops
returns-in_err-lay_initial_heap-clause-stops g c =
    let p = err_from_is_err_and c.from_residual-in_err-lay_initial_heap.result c.from_residual-in_err-lay_initial_heap.ensures.1 in
    rw (p.1, p.2) (λ rows made. stopped_before _ _ _)

pub returns-in_err-sizes-clause-stops : goal.returns-in_err-sizes-clause-stops
returns-in_err-sizes-clause-stops g c =
    let p = err_from_is_err_and c.from_residual-in_err-sizes.result c.from_residual-in_err-sizes.ensures.1 in
    rw (p.1, p.2) (λ rows made. stopped_before _ _ _)

pub returns-in_err-tables-clause-stops : goal.returns-in_err-tables-clause-stops
returns-in_err-tables-clause-stops g c =
    let p = err_from_is_err_and c.from_residual-in_err-tables.result c.from_residual-in_err-tables.ensures.1 in
    rw (p.1, p.2) (λ rows made. stopped_before _ _ _)

pub returns-clause-ends : goal.returns-clause-ends
returns-clause-ends g c =
    let ready : IsReady c.args.names.now c.args.program.now c.args.spellings c.args.layout.now c.in_ok-primitives.primitives c.lay_initial_heap.new.store = record {
      spelling = c.requires.spelling;
      laid_out = record { objects = c.in_ok-lay_initial_heap.ensures.objects; stands = c.requires.layout };
      fitted = c.in_ok-primitives.ensures c.requires.spelling c.requires.layout;
    } in
    ends_with c.args.names.now c.args.program.now c.args.spellings c.args.layout.now c.in_ok-primitives.primitives c.lay_initial_heap.new.store ready c.args.levels c.args.words _ _ _ _ c.run_fitted.result
    c.run_fitted.ensures.ends

pub returns-clause-stops : goal.returns-clause-stops
returns-clause-stops g c =
    let ready : IsReady c.args.names.now c.args.program.now c.args.spellings c.args.layout.now c.in_ok-primitives.primitives c.lay_initial_heap.new.store = record {
      spelling = c.requires.spelling;
      laid_out = record { objects = c.in_ok-lay_initial_heap.ensures.objects; stands = c.requires.layout };
      fitted = c.in_ok-primitives.ensures c.requires.spelling c.requires.layout;
    } in
    stops_with c.args.names.now c.args.program.now c.args.spellings c.args.layout.now c.in_ok-primitives.primitives c.lay_initial_heap.new.store ready c.args.levels c.args.words _ _ _ _ c.run_fitted.result
    c.run_fitted.ensures.stops
