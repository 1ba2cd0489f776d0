-- The words so far.
use Rattle.std.proofs.Common.{◌≡◌, map}
use Rattle.std.specs.List.{range_with_len}
use Rattle.std.specs.Option.{unwrap_or}
use Rattle.base.specs.declared.datum.Symbol.TheVariants.{Named}
use Rattle.mid_arena.specs.Tags.{nil_word}
use Rattle.mid_start.specs.Symbols.{word_of_symbol}
use Rattle.back_lowered.proofs.symbols.symbol_words.Given as goal

abbrev pub invariant-loop-number : goal.invariant-loop-number
invariant-loop-number l =
    l.words ≡ map (λ n. unwrap_or (word_of_symbol (Named (record { 0 = n })) l.symbols) nil_word) (range_with_len 0 l.number)
