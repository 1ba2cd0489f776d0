-- The end is that of the machine, and all is written.
use Rattle.std.proofs.Common.{false}
use Rattle.std.proofs.lemmas.Result.{err_from_is_err_and}
use Rattle.eval_run.proofs.Stopping.{ended, own_end, broken}
use Rattle.eval_run.proofs.Standing.{machine_same, stopped_still}
use Rattle.eval_run.proofs.running.finish.Goals as goal

pub returns-in_err-counted-clause-stops : goal.returns-in_err-counted-clause-stops
returns-in_err-counted-clause-stops g c =
    let p = err_from_is_err_and c.from_residual-in_err-counted.result c.from_residual-in_err-counted.ensures.1 in rw (p.1, p.2) (λ e left left' given forms u.
    broken e left left' given (g.K.Sink.given c.write_printed.new.sink) forms c.write_printed.new.evaluator (c.in_ok-write_printed.ensures.under_way e left left' given forms u))

pub returns-clause-ends : goal.returns-clause-ends
returns-clause-ends g c = λ e left left' given forms same few u.
    let old = c.args.evaluator.now in let new = c.write_printed.new.evaluator in
    ended e left left' given (g.K.Sink.given c.write_printed.new.sink) forms new c.args.names.now c.in_ok-counted.counted same few c.in_ok-write_printed.ensures.all
    (stopped_still old new false (machine_same old new c.in_ok-write_printed.ensures.same) c.requires.ended) c.in_ok-counted.ensures.end c.in_ok-counted.ensures.units
    c.in_ok-counted.ensures.told (c.in_ok-write_printed.ensures.under_way e left left' given forms u)

pub returns-clause-own : goal.returns-clause-own
returns-clause-own g c = own_end c.write_printed.new.evaluator c.in_ok-counted.counted.end c.in_ok-counted.ensures.end
