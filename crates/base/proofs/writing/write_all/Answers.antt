use Rattle.std.proofs.Common.{sym, subst}
use Rattle.base.proofs.Written.{FrontGiven, written_more, rest_whole}
use Rattle.base.proofs.writing.write_all.Goals as goal

pub loop-rest-preserved : goal.loop-rest-preserved
loop-rest-preserved g c =
    let w = written_more _ _ _ _ _ _ _ c.in_ok-taken.taken _ _ _ c.loop-rest.invariant c.in_ok-taken.ensures.told c.write.ensures.count in
    subst (λ x. FrontGiven (g.E.Sink.given c.args.sink.now) (g.E.Sink.given c.write.new.self) (g.E.Sink.faults c.args.sink.now) (g.E.Sink.faults c.write.new.self) c.args.bytes.now x) (sym (rest_whole c.in_ok-taken.taken c.loop-rest.rest.now)) w
