-- All that was there stays, with the further words behind it.
use Rattle.mid_start.proofs.FurtherWords.{with_further}
use Rattle.mid_start.proofs.further.lay_further.Goals as goal

pub returns-in-Ok-clause-start : goal.returns-in-Ok-clause-start
returns-in-Ok-clause-start c names program low old =
    with_further names program low c.args.further c.args.laid c.in-Ok.arena old
    (record { first = c.in-Ok.ensures.first; symbols = c.in-Ok.ensures.symbols; words = c.in-Ok.ensures.words })
