-- Forms begin, one after another, up to the end, or up to the one that is too many.
use Rattle.std.proofs.Common.{◌+◌, sym, subst, arith}
use Rattle.eval_run.specs.declared.answer.Counted.{Counted}
use Rattle.eval_run.specs.UnderWay.{HasCounted}
use Rattle.std.proofs.lemmas.Result.{err_from_is_err_and}
use Rattle.eval_run.proofs.Stopping.{spent}
use Rattle.eval_run.proofs.Turning.{run_ends, run_stops}
use Rattle.eval_run.proofs.Standing.{machine_same, begins_still}
use Rattle.eval_run.proofs.running.run.Goals as goal

pub returns-in_err-more-clause-stops : goal.returns-in_err-more-clause-stops
returns-in_err-more-clause-stops g c =
    let p = err_from_is_err_and c.from_residual.result c.from_residual.ensures.1 in rw (p.1, p.2) (λ e u.
    c.in_err-more.ensures.stops e (g.S.Source.left c.args.source.now) (g.S.Source.left c.loop.source) (g.K.Sink.given c.args.sink.now) (g.K.Sink.given c.loop.sink) c.loop.counter (c.loop.invariant.under_way e u))

pub returns-then-not-more-clause-ends : goal.returns-then-not-more-clause-ends
returns-then-not-more-clause-ends g c =
    run_ends c.args.names.now c.finish.result (g.S.Source.left c.args.source.now) (g.S.Source.left c.loop.source) (g.K.Sink.given c.args.sink.now) (g.K.Sink.given c.loop.sink) (g.K.Sink.given c.finish.new.sink) c.loop.counter c.args.evaluator.now c.to_form.new.evaluator (omega arith)
    (λ e u. c.in_ok-more.ensures.under_way e (g.S.Source.left c.args.source.now) (g.S.Source.left c.loop.source) (g.K.Sink.given c.args.sink.now) (g.K.Sink.given c.loop.sink) c.loop.counter (c.loop.invariant.under_way e u)) c.finish.ensures.ends

pub returns-then-not-more-clause-stops : goal.returns-then-not-more-clause-stops
returns-then-not-more-clause-stops g c =
    run_stops c.finish.result (g.S.Source.left c.args.source.now) (g.S.Source.left c.loop.source) (g.K.Sink.given c.args.sink.now) (g.K.Sink.given c.loop.sink) (g.K.Sink.given c.finish.new.sink) c.loop.counter c.args.evaluator.now c.to_form.new.evaluator
    (λ e u. c.in_ok-more.ensures.under_way e (g.S.Source.left c.args.source.now) (g.S.Source.left c.loop.source) (g.K.Sink.given c.args.sink.now) (g.K.Sink.given c.loop.sink) c.loop.counter (c.loop.invariant.under_way e u)) c.finish.ensures.stops

pub returns-in_err-feed-clause-stops : goal.returns-in_err-feed-clause-stops
returns-in_err-feed-clause-stops g c =
    let p = err_from_is_err_and c.from_residual-in_err-feed.result c.from_residual-in_err-feed.ensures.1 in rw (p.1, p.2) (λ e u.
    c.in_err-feed.ensures.stops e (g.S.Source.left c.args.source.now) (g.K.Sink.given c.args.sink.now) c.loop.counter (c.in_ok-more.ensures.under_way e (g.S.Source.left c.args.source.now) (g.S.Source.left c.loop.source) (g.K.Sink.given c.args.sink.now) (g.K.Sink.given c.loop.sink) c.loop.counter (c.loop.invariant.under_way e u)))

pub begin-requires-clause-begins : goal.begin-requires-clause-begins
begin-requires-clause-begins g c =
    begins_still c.to_form.new.evaluator c.feed.new.evaluator c.in_ok-more.more c.if-not-more.false c.in_ok-feed.ensures.same c.in_ok-more.ensures.stopped

pub returns-in_err-begin-clause-stops : goal.returns-in_err-begin-clause-stops
returns-in_err-begin-clause-stops g c =
    let p = err_from_is_err_and c.from_residual-in_err-begin.result c.from_residual-in_err-begin.ensures.1 in rw (p.1, p.2) (λ e u.
    c.in_err-begin.ensures.stops e (g.S.Source.left c.args.source.now) (g.S.Source.left c.feed.new.source) (g.K.Sink.given c.args.sink.now) (g.K.Sink.given c.feed.new.sink) c.loop.counter (c.in_ok-feed.ensures.under_way e (g.S.Source.left c.args.source.now) (g.K.Sink.given c.args.sink.now) c.loop.counter (c.in_ok-more.ensures.under_way e (g.S.Source.left c.args.source.now) (g.S.Source.left c.loop.source) (g.K.Sink.given c.args.sink.now) (g.K.Sink.given c.loop.sink) c.loop.counter (c.loop.invariant.under_way e u))))

pub returns-in_err-write_much-clause-stops : goal.returns-in_err-write_much-clause-stops
returns-in_err-write_much-clause-stops g c =
    let p = err_from_is_err_and c.from_residual-in_err-write_much.result c.from_residual-in_err-write_much.ensures.1 in rw (p.1, p.2) (λ e u.
    c.in_err-write_much.ensures.stops e (g.S.Source.left c.args.source.now) (g.S.Source.left c.feed.new.source) (g.K.Sink.given c.args.sink.now) (c.loop.counter + 1) (c.in_ok-begin.ensures.under_way e (g.S.Source.left c.args.source.now) (g.S.Source.left c.feed.new.source) (g.K.Sink.given c.args.sink.now) (g.K.Sink.given c.feed.new.sink) c.loop.counter (c.in_ok-feed.ensures.under_way e (g.S.Source.left c.args.source.now) (g.K.Sink.given c.args.sink.now) c.loop.counter (c.in_ok-more.ensures.under_way e (g.S.Source.left c.args.source.now) (g.S.Source.left c.loop.source) (g.K.Sink.given c.args.sink.now) (g.K.Sink.given c.loop.sink) c.loop.counter (c.loop.invariant.under_way e u)))))

pub loop-preserved : goal.loop-preserved
loop-preserved g c =
    record {
      under_way = λ e u. c.in_ok-write_much.ensures.under_way e (g.S.Source.left c.args.source.now) (g.S.Source.left c.feed.new.source) (g.K.Sink.given c.args.sink.now) (c.loop.counter + 1) (c.in_ok-begin.ensures.under_way e (g.S.Source.left c.args.source.now) (g.S.Source.left c.feed.new.source) (g.K.Sink.given c.args.sink.now) (g.K.Sink.given c.feed.new.sink) c.loop.counter (c.in_ok-feed.ensures.under_way e (g.S.Source.left c.args.source.now) (g.K.Sink.given c.args.sink.now) c.loop.counter (c.in_ok-more.ensures.under_way e (g.S.Source.left c.args.source.now) (g.S.Source.left c.loop.source) (g.K.Sink.given c.args.sink.now) (g.K.Sink.given c.loop.sink) c.loop.counter (c.loop.invariant.under_way e u))));
      count = omega arith;
      sink_count = omega arith;
    }

pub returns-in_err-more-2-clause-stops : goal.returns-in_err-more-2-clause-stops
returns-in_err-more-2-clause-stops g c =
    let p = err_from_is_err_and c.from_residual-in_err-more-2.result c.from_residual-in_err-more-2.ensures.1 in rw (p.1, p.2) (λ e u.
    c.in_err-more-2.ensures.stops e (g.S.Source.left c.args.source.now) (g.S.Source.left c.loop.source) (g.K.Sink.given c.args.sink.now) (g.K.Sink.given c.loop.sink) c.loop.counter (c.loop.invariant.under_way e u))

pub returns-then-not-more-2-clause-ends : goal.returns-then-not-more-2-clause-ends
returns-then-not-more-2-clause-ends g c =
    run_ends c.args.names.now c.finish-then-not-more-2.result (g.S.Source.left c.args.source.now) (g.S.Source.left c.loop.source) (g.K.Sink.given c.args.sink.now) (g.K.Sink.given c.loop.sink) (g.K.Sink.given c.finish-then-not-more-2.new.sink) c.loop.counter c.args.evaluator.now c.to_form-2.new.evaluator (omega arith)
    (λ e u. c.in_ok-more-2.ensures.under_way e (g.S.Source.left c.args.source.now) (g.S.Source.left c.loop.source) (g.K.Sink.given c.args.sink.now) (g.K.Sink.given c.loop.sink) c.loop.counter (c.loop.invariant.under_way e u)) c.finish-then-not-more-2.ensures.ends

pub returns-then-not-more-2-clause-stops : goal.returns-then-not-more-2-clause-stops
returns-then-not-more-2-clause-stops g c =
    run_stops c.finish-then-not-more-2.result (g.S.Source.left c.args.source.now) (g.S.Source.left c.loop.source) (g.K.Sink.given c.args.sink.now) (g.K.Sink.given c.loop.sink) (g.K.Sink.given c.finish-then-not-more-2.new.sink) c.loop.counter c.args.evaluator.now c.to_form-2.new.evaluator
    (λ e u. c.in_ok-more-2.ensures.under_way e (g.S.Source.left c.args.source.now) (g.S.Source.left c.loop.source) (g.K.Sink.given c.args.sink.now) (g.K.Sink.given c.loop.sink) c.loop.counter (c.loop.invariant.under_way e u)) c.finish-then-not-more-2.ensures.stops

pub returns-in_err-write_printed-clause-stops : goal.returns-in_err-write_printed-clause-stops
returns-in_err-write_printed-clause-stops g c =
    let p = err_from_is_err_and c.from_residual-in_err-write_printed.result c.from_residual-in_err-write_printed.ensures.1 in rw (p.1, p.2) (λ e u.
    c.in_err-write_printed.ensures.stops e (g.S.Source.left c.args.source.now) (g.S.Source.left c.loop.source) (g.K.Sink.given c.args.sink.now) c.loop.counter (c.in_ok-more-2.ensures.under_way e (g.S.Source.left c.args.source.now) (g.S.Source.left c.loop.source) (g.K.Sink.given c.args.sink.now) (g.K.Sink.given c.loop.sink) c.loop.counter (c.loop.invariant.under_way e u)))

pub returns-clause-ends : goal.returns-clause-ends
returns-clause-ends g c =
    λ e same u.
    let P : Counted → Type 0 = HasCounted e (g.S.Source.left c.args.source.now) (g.S.Source.left c.loop.source) (g.K.Sink.given c.args.sink.now) (g.K.Sink.given c.write_printed.new.sink) in
    subst P (sym c.untold.ensures)
    (spent e (g.S.Source.left c.args.source.now) (g.S.Source.left c.loop.source) (g.K.Sink.given c.args.sink.now) (g.K.Sink.given c.write_printed.new.sink) c.loop.counter c.write_printed.new.evaluator (omega arith) c.in_ok-write_printed.ensures.all
    (begins_still c.to_form-2.new.evaluator c.write_printed.new.evaluator c.in_ok-more-2.more c.if-not-more-2.false
    (machine_same c.to_form-2.new.evaluator c.write_printed.new.evaluator c.in_ok-write_printed.ensures.same) c.in_ok-more-2.ensures.stopped)
    (c.in_ok-write_printed.ensures.under_way e (g.S.Source.left c.args.source.now) (g.S.Source.left c.loop.source) (g.K.Sink.given c.args.sink.now) c.loop.counter (c.in_ok-more-2.ensures.under_way e (g.S.Source.left c.args.source.now) (g.S.Source.left c.loop.source) (g.K.Sink.given c.args.sink.now) (g.K.Sink.given c.loop.sink) c.loop.counter (c.loop.invariant.under_way e u))))
