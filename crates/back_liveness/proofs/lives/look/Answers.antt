-- One line more is marked, and crossings in its loop are told.
use Rattle.std.proofs.Common.{arith}
use Rattle.back_liveness.proofs.Marking.{one_more, one_more_told}
use Rattle.back_liveness.proofs.Tight.{alive_more}
use Rattle.back_liveness.proofs.lives.look.Goals as goal

pub returns-clause-settled : goal.returns-clause-settled
returns-clause-settled c =
    one_more c.args.steps.now c.args.earliest.now c.args.latest.now c.args.register c.args.marks.now c.args.high c.args.line
    c.is_alive-is_alive.result c.args.life c.with_line.result c.requires.settled (omega arith)
    (record {
      reads = c.is_alive-is_alive.ensures.reads;
      behind = c.is_alive-is_alive.ensures.behind;
      aside = c.is_alive-is_alive.ensures.aside;
    })
    (record {
      need = c.with_line.ensures.need;
      from = c.with_line.ensures.from;
      to = c.with_line.ensures.to;
      marked = c.with_line.ensures.marked;
    })

pub returns-clause-crossings : goal.returns-clause-crossings
returns-clause-crossings c =
    one_more_told c.args.barriers.now c.args.latest.now c.args.register c.args.marks.now c.args.high c.args.line c.is_alive-is_alive.result
    c.args.life.crossed c.with_line.result.crossed (omega arith) c.requires.crossings c.with_line.ensures.known
    c.with_line.ensures.crossed

pub returns-clause-alive : goal.returns-clause-alive
returns-clause-alive c known =
    alive_more c.args.steps.now c.args.register c.args.marks.now c.args.high c.args.line c.is_alive-is_alive.result (omega arith) known
    c.is_alive-is_alive.ensures.only
