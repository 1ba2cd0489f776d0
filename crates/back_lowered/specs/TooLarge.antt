-- When a program has more words than an arena, or a word that is too large.
use Rattle.std.specs.Prelude.{◌⊎◌, ℕ, ◌+◌, ◌*◌, ◌^◌, ◌<◌, List, [], length}
use Rattle.base.specs.declared.datum.Name.{Name}
use Rattle.flat_language.specs.declared.program.FlatProgram.{FlatProgram}
use Rattle.flat_language.specs.FlatNodes.{tables}
use Rattle.mid_start.specs.declared.static_data.StaticData.{StaticData}
use Rattle.mid_start.specs.Rows.{static_size}
use Rattle.mid_start.specs.StaticData.{IsStaticData}
use Rattle.back_words.specs.Start.{wanted_names, laid_symbols}
use Rattle.back_words.specs.Variables.{low_words, variable_count}
use Rattle.back_words.specs.Words.{further_words}
use Rattle.back_laying.specs.TooLarge.{DoNotFit}

-- the objects, by a bound; or the symbols behind them, by 160 words each
abbrev pub ObjectsTooLarge : List (List ℕ) → FlatProgram → (low : List ℕ) → (wanted : List Name) → Type 0
ObjectsTooLarge names program low wanted =
    (2 ^ 24 < 46 + length low + 160 * static_size program.classes program.functions program.literals)
    ⊎ ((laid : StaticData) × IsStaticData names (tables program) low [] laid × (2 ^ 24 < length laid.arena.words + 160 * length wanted))

-- the words behind all objects
abbrev pub FurtherTooLarge : List (List ℕ) → FlatProgram → StaticData → Type 0
FurtherTooLarge names program laid =
    DoNotFit (4 * length laid.arena.words) (further_words program (laid_symbols names laid.arena.symbols) (4 * length laid.arena.words))
    ⊎ (2 ^ 24 < length laid.arena.words + length (further_words program (laid_symbols names laid.arena.symbols) (4 * length laid.arena.words)))

abbrev pub IsTooLarge : List (List ℕ) → FlatProgram → Type 0
IsTooLarge names program =
    (2 ^ 24 < variable_count names program)
    ⊎ ObjectsTooLarge names program (low_words names program) (wanted_names names program)
    ⊎ ((laid : StaticData) × IsStaticData names (tables program) (low_words names program) [] laid × FurtherTooLarge names program laid)
