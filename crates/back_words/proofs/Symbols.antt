-- Symbols that were laid have words, which are not nil's.
use Rattle.std.proofs.Common.{◌≡◌, ℕ, zero, suc, ◌+◌, ◌<◌, ◌%◌, List, [], ◌∷◌, length, map, Option, Some, None, refl, sym, ◌∙◌, ap, arith}
use Rattle.std.specs.Prelude.{◌≢◌, slice_get}
use Rattle.std.specs.Option.{unwrap_or, option_map}
use Rattle.std.proofs.lemmas.List.FromFn.{get_or-map-range_with_len}
use Rattle.std.proofs.lemmas.Option.{slice_get-map}
use Rattle.base.specs.AllOf.{AllOf, all_at}
use Rattle.base.specs.Names.{IsTable}
use Rattle.base.specs.declared.datum.Name.{Name}
use Rattle.base.specs.declared.datum.Symbol.TheVariants.{Named}
use Rattle.lang_meaning.specs.Lookup.{text}
use Rattle.lang_meaning.specs.Values.{named}
use Rattle.flat_language.specs.declared.program.FlatProgram.{FlatProgram}
use Rattle.flat_language.specs.FlatNodes.{tables}
use Rattle.mid_arena.specs.Places.{Spot, of_symbol, spot_of, pointer_in}
use Rattle.mid_arena.specs.Tags.{nil_word}
use Rattle.mid_start.specs.declared.static_data.StaticData.{StaticData}
use Rattle.mid_start.specs.LaidArena.{arena_of}
use Rattle.mid_start.specs.StaticData.{IsStaticData}
use Rattle.mid_start.specs.Symbols.{word_of_symbol}
use Rattle.mid_start.proofs.MadeSymbols.{found_word}
use Rattle.back_words.specs.Uses.{symbols_among, program_uses}
use Rattle.back_words.specs.Words.{symbol_among}
use Rattle.back_words.specs.Start.{wanted_names, laid_symbols}
use Rattle.back_words.specs.Laws.{LawOfGivenSymbols}
use Rattle.back_words.proofs.Uses.{all_places}

module _
    (names : List (List ℕ)) (program : FlatProgram) (low further : List ℕ) (laid : StaticData) (table : IsTable names)
    (start : IsStaticData names (tables program) low further laid)
  where
    -- a symbol's word is the address of an object
    spot_word : (n w : ℕ) (o : Option Spot) → spot_of start.places (of_symbol (named (text names n))) ≡ o → pointer_in o ≡ Some w → w ≢ nil_word
    spot_word n w None e word same = absurd (cc word)
    spot_word n w (Some s) e word same =
        let stands = start.stands.spots (of_symbol (named (text names n))) s e in
        let tag : s.tag ≡ 2 = (start.stands.symbols (named (text names n)) s e).size.tag in
        let pointer : s.address + s.tag ≡ w = cc word in
        absurd (omega (arith, stands.aligned, tag, pointer, same))

    word_not_nil : (n w : ℕ) → n < length names → word_of_symbol (Named (record { 0 = n })) laid.arena.symbols ≡ Some w
        → symbol_among (laid_symbols names laid.arena.symbols) n ≢ nil_word
    word_not_nil n w below found same =
        let there : symbol_among (laid_symbols names laid.arena.symbols) n ≡ unwrap_or (word_of_symbol (Named (record { 0 = n })) laid.arena.symbols) nil_word =
        get_or-map-range_with_len (λ m. unwrap_or (word_of_symbol (Named (record { 0 = m })) laid.arena.symbols) nil_word) 0 (length names) n n nil_word below (omega arith) in
        let word : symbol_among (laid_symbols names laid.arena.symbols) n ≡ w = there ∙ ap (λ o. unwrap_or o nil_word) found in
        spot_word n w (spot_of start.places (of_symbol (named (text names n)))) refl
        (found_word names table (Named (record { 0 = n })) below laid.arena.symbols start.places.symbols start.stands.listed ∙ found) (sym word ∙ same)

pub given_symbols : LawOfGivenSymbols
given_symbols names program low further laid table asked start have =
    all_places (λ n. symbol_among (laid_symbols names laid.arena.symbols) n ≢ nil_word) (symbols_among (program_uses names program))
    (λ i n e.
    let name : Name = record { 0 = n } in
    let there : slice_get (wanted_names names program) i ≡ Some name =
    slice_get-map (λ (m : ℕ). record { 0 = m }) (symbols_among (program_uses names program)) i ∙ ap (option_map (λ (m : ℕ). record { 0 = m })) e in
    let found = have.each i name there in
    word_not_nil names program low further laid table start n found.0
    (all_at (λ n. n < length names) (symbols_among (program_uses names program)) i n asked.symbols e) found.1)
