-- A symbol that is there has its word.
use Rattle.std.proofs.Common.{sym, ◌∙◌}
use Rattle.mid_start.proofs.MadeSymbols.{symbol_found}
use Rattle.mid_start.proofs.laying.lay_symbol.Goals as goal

pub returns-in-Some-clause-lays : goal.returns-in-Some-clause-lays
returns-in-Some-clause-lays c =
    symbol_found c.args.names.now c.args.symbol c.args.words.now c.in-Some.word c.len.ensures.table c.requires.named (sym c.find.ensures ∙ c.in-Some.is)
