-- All that was printed was written, or a front of it.
use Rattle.std.proofs.Common.{subst}
use Rattle.base.specs.Given.{WasGiven, WasGivenFront}
use Rattle.eval_run.proofs.Stopping.{wrote, cut}
use Rattle.eval_run.proofs.writing.write_printed.Goals as goal

pub returns-in-Ok-clause-under_way : goal.returns-in-Ok-clause-under_way
returns-in-Ok-clause-under_way g c = λ e left left' given forms u.
    let w : WasGiven (g.K.Sink.given c.args.sink.now) c.args.evaluator.now.printed.items (g.K.Sink.given c.write_all.new.sink) =
    subst (λ xs. WasGiven (g.K.Sink.given c.args.sink.now) xs (g.K.Sink.given c.write_all.new.sink)) c.printed.ensures c.in-Ok.ensures.given in
    wrote e left left' given (g.K.Sink.given c.args.sink.now) (g.K.Sink.given c.write_all.new.sink) forms c.args.evaluator.now c.written.new.self w c.written.ensures u

pub returns-in-Err-clause-stops : goal.returns-in-Err-clause-stops
returns-in-Err-clause-stops g c = λ e left left' given forms u.
    let w : WasGivenFront (g.K.Sink.given c.args.sink.now) c.args.evaluator.now.printed.items (g.K.Sink.given c.write_all.new.sink) =
    subst (λ xs. WasGivenFront (g.K.Sink.given c.args.sink.now) xs (g.K.Sink.given c.write_all.new.sink)) c.printed.ensures c.in-Err.ensures.front in
    cut e left left' given (g.K.Sink.given c.args.sink.now) (g.K.Sink.given c.write_all.new.sink) forms c.args.evaluator.now w u
