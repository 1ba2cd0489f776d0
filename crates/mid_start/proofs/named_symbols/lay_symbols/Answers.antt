-- All that was there stays, with the symbols behind it.
use Rattle.mid_start.proofs.NamedSymbols.{with_symbols, symbols_there}
use Rattle.mid_start.proofs.named_symbols.lay_symbols.Goals as goal

pub returns-in-Ok-clause-start : goal.returns-in-Ok-clause-start
returns-in-Ok-clause-start c program low old =
    with_symbols c.args.names.now program low c.args.wanted.now c.args.laid c.lay_names.new.words c.requires.named.no_nil old c.in-Ok.ensures.lays

pub returns-in-Ok-clause-symbols : goal.returns-in-Ok-clause-symbols
returns-in-Ok-clause-symbols c program low old =
    symbols_there c.args.names.now program low c.args.wanted.now c.args.laid c.lay_names.new.words c.requires.named.no_nil old c.in-Ok.ensures.lays
