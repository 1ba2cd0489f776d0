-- The symbols that were passed are others.
use Rattle.std.proofs.Common.{◌≡◌, drop}
use Rattle.base.specs.declared.datum.Symbol.TheVariants.{Fresh}
use Rattle.mid_start.specs.Symbols.{word_of_symbol}
use Rattle.mid_start.proofs.symbol_words.find_fresh.Given as goal

abbrev pub invariant-loop-entry : goal.invariant-loop-entry
invariant-loop-entry l = word_of_symbol (Fresh l.wanted l.number) (drop l.entry-index l.list) ≡ word_of_symbol (Fresh l.wanted l.number) l.list
