-- A piece is read.
use Rattle.std.proofs.Common.{arith}
use Rattle.eval_run.proofs.Putting.{none_ahead, not_ended, read_behind, more_read, read_stops}
use Rattle.eval_run.proofs.Stopping.{wants}
use Rattle.eval_run.proofs.feeding.read_more.Goals as goal

pub returns-in-Ok-clause-under_way : goal.returns-in-Ok-clause-under_way
returns-in-Ok-clause-under_way g c =
    more_read c.take_piece.result (g.S.Source.left c.args.source.now) (g.S.Source.left c.read.new.self) _ c.args.evaluator.now c.take_piece.new.evaluator
    (read_behind (g.S.Source.left c.args.source.now) (g.S.Source.left c.read.new.self) c.in-Ok.count _ c.read.new.buf (omega arith) c.in-Ok.ensures.told) c.take_piece.ensures.under_way

pub returns-in-Ok-clause-stops : goal.returns-in-Ok-clause-stops
returns-in-Ok-clause-stops g c =
    read_stops c.take_piece.result (g.S.Source.left c.args.source.now) (g.S.Source.left c.read.new.self) _ c.args.evaluator.now
    (read_behind (g.S.Source.left c.args.source.now) (g.S.Source.left c.read.new.self) c.in-Ok.count _ c.read.new.buf (omega arith) c.in-Ok.ensures.told) c.take_piece.ensures.stops

pub returns-in-Err-clause-stops : goal.returns-in-Err-clause-stops
returns-in-Err-clause-stops g c = λ e left given given' forms u.
    wants e left (g.S.Source.left c.args.source.now) (g.S.Source.left c.read.new.self) given given' forms c.args.evaluator.now
    c.in-Err.ensures.told c.requires.written c.requires.wants (none_ahead c.args.evaluator.now c.requires.hungry) (not_ended c.args.evaluator.now c.requires.hungry) u
