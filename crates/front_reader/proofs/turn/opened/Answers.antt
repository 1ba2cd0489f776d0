use Rattle.front_reader.proofs.Numbering.{begins-prefix}
use Rattle.front_reader.proofs.turn.opened.Goals as goal

pub returns-in_ok-name-in-Before-clause-opened : goal.returns-in_ok-name-in-Before-clause-opened
returns-in_ok-name-in-Before-clause-opened c = λ T l s.
    begins-prefix c.intern.new.self T s c.args.place c.args.opening c.in-Before.prefix c.prefix_text.result.now
    c.in_ok-name-in-Before.name l c.in-Before.is c.prefix_text.ensures c.in_ok-name-in-Before.ensures.name
