-- A byte is there where one is wanted, or the run stops.
use Rattle.std.proofs.lemmas.Result.{err_from_is_err_and}
use Rattle.eval_run.proofs.Standing.{stops_behind}
use Rattle.eval_run.proofs.feeding.feed.Goals as goal

pub returns-in_err-write_printed-clause-stops : goal.returns-in_err-write_printed-clause-stops
returns-in_err-write_printed-clause-stops g c =
    let p = err_from_is_err_and c.from_residual.result c.from_residual.ensures.1 in rw (p.1, p.2) (λ e left given forms u.
    c.in_err-write_printed.ensures.stops e left (g.S.Source.left c.args.source.now) given forms u)

pub returns-clause-stops : goal.returns-clause-stops
returns-clause-stops g c =
    stops_behind c.read_more.result (g.S.Source.left c.args.source.now) (g.S.Source.left c.read_more.new.source) (g.K.Sink.given c.write_printed.new.sink) (g.K.Sink.given c.args.sink.now)
    c.args.evaluator.now c.write_printed.new.evaluator
    (λ e left given forms u. c.in_ok-write_printed.ensures.under_way e left (g.S.Source.left c.args.source.now) given forms u) c.read_more.ensures.stops
