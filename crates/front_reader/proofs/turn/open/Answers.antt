use Rattle.std.proofs.Common.{rules}
use Rattle.front_reader.specs.Meanings.{number_in}
use Rattle.front_reader.proofs.Putting.{opens-more}
use Rattle.front_reader.proofs.turn.open.Goals as goal

pub returns-clause-turns : goal.returns-clause-turns
returns-clause-turns c = λ T l.
    opens-more (number_in T) c.args.pending.now.items c.push.new.pending.items c.args.place c.args.opening
    c.in_ok-begun.begun (search rules) (search rules) c.in_ok-push.ensures (c.in_ok-begun.ensures.opened T l)
