use Rattle.std.proofs.Common.{rules}
use Rattle.front_reader.proofs.Numbering.{symbol-later}
use Rattle.front_reader.proofs.turn.symbol.Goals as goal

pub returns-clause-content : goal.returns-clause-content
returns-clause-content c = λ T l.
    symbol-later c.intern.new.self T c.in_ok-intern.field-0.0 c.args.name.now l c.in_ok-intern.ensures.name (search rules)
