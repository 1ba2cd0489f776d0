-- One word more.
use Rattle.std.proofs.Common.{◌++◌, ◌∷◌, [], ap, sym, ◌∙◌, map, arith, ℕ}
use Rattle.std.specs.List.{range_with_len}
use Rattle.std.specs.Option.{unwrap_or}
use Rattle.std.proofs.lemmas.List.FromFn.{map-range_with_len_more}
use Rattle.base.specs.declared.datum.Symbol.TheVariants.{Named}
use Rattle.mid_arena.specs.Tags.{nil_word}
use Rattle.mid_start.specs.Symbols.{word_of_symbol}
use Rattle.back_lowered.proofs.symbols.symbol_words.Goals as goal

pub loop-number-preserved : goal.loop-number-preserved
loop-number-preserved c =
    let f : ℕ → ℕ = λ n. unwrap_or (word_of_symbol (Named (record { 0 = n })) c.args.symbols.now) nil_word in
    c.in_ok-push.ensures.ok
    ∙ ap (λ ws. ws ++ c.symbol_word.result ∷ []) c.loop-number.invariant
    ∙ ap (λ w. map f (range_with_len 0 c.loop-number.number) ++ w ∷ []) c.symbol_word.ensures
    ∙ sym (map-range_with_len_more f 0 c.loop-number.number c.loop-number.number (omega arith))
