-- The symbol's words and its word stand behind the others.
use Rattle.std.proofs.Common.{length, refl, ap, length-append, arith}
use Rattle.mid_start.specs.Contents.{symbol_words}
use Rattle.mid_start.proofs.MadeSymbols.{symbol_count, new_symbol_laid}
use Rattle.mid_start.proofs.laying.lay_new_symbol.Goals as goal

pub returns-clause-count : goal.returns-clause-count
returns-clause-count c =
    omega (
      arith,
      symbol_count c.args.names.now c.args.symbol c.requires.table c.requires.named,
      ap (λ vs. length vs) c.in_ok-push_symbol.ensures.ok,
      length-append c.args.words.now.words (symbol_words c.args.names.now c.args.symbol),
    )

pub returns-clause-lays : goal.returns-clause-lays
returns-clause-lays c =
    new_symbol_laid c.args.names.now c.args.symbol c.args.words.now _ _ c.requires.table c.requires.named c.requires.new c.push_symbol.ensures.bytes
    (record { first = refl; words = c.in_ok-push_symbol.ensures.ok; symbols = c.in_ok-push.ensures.ok; word = omega (arith, c.end_address-word.ensures) })
