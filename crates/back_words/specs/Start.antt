-- **The start**: the words that `mid_start` lays before the first form, with the low and the further words of the program, and what words stand
-- for there.
use Rattle.std.specs.Prelude.{◌≡◌, ℕ, ◌+◌, List, [], ◌∷◌, Option, Some, None, length, map, slice_index_or}
use Rattle.std.specs.List.{range_with_len}
use Rattle.std.specs.Option.{unwrap_or}
use Rattle.base.specs.declared.datum.Name.{Name}
use Rattle.base.specs.declared.datum.Symbol.TheVariants.{Named}
use Rattle.lang_meaning.specs.declared.program.FunctionRow.{FunctionRow}
use Rattle.lang_meaning.specs.declared.program.LiteralRow.{LiteralRow}
use Rattle.lang_meaning.specs.declared.program.LiteralRow.TheVariants as row
use Rattle.lang_meaning.specs.Lookup.{text}
use Rattle.flat_language.specs.declared.program.FlatProgram.{FlatProgram}
use Rattle.flat_language.specs.FlatNodes.{tables}
use Rattle.mid_arena.specs.Places.{Places}
use Rattle.mid_arena.specs.Tags.{nil_word}
use Rattle.mid_start.specs.declared.symbol_words.SymbolWord.{SymbolWord}
use Rattle.mid_start.specs.declared.static_data.StaticData.{StaticData}
use Rattle.mid_start.specs.Symbols.{word_of_symbol}
use Rattle.mid_start.specs.StaticData.{word_of_text, IsStaticData}
use Rattle.back_relation.specs.Setting.{Setting}
use Rattle.back_relation.specs.Worlds.{World}
use Rattle.back_words.specs.Uses.{symbols_among, program_uses}
use Rattle.back_words.specs.Variables.{low_words}
use Rattle.back_words.specs.Words.{HasWords}

-- the names whose symbols are wanted: those that conditions may have
abbrev pub wanted_names : List (List ℕ) → FlatProgram → List Name
wanted_names names program = map (λ n. record { 0 = n }) (symbols_among (program_uses names program))

-- the word of the symbol of each name that has one
abbrev pub laid_symbols : List (List ℕ) → List SymbolWord → List ℕ
laid_symbols names symbols = map (λ n. unwrap_or (word_of_symbol (Named (record { 0 = n })) symbols) nil_word) (range_with_len 0 (length names))

-- the word of a literal, by its number: a datum's, a class's, or that of the function that a name calls
module _ (names : List (List ℕ)) (functions : List FunctionRow) (laid : StaticData) where
  abbrev pub laid_literal : ℕ → LiteralRow → ℕ
  laid_literal i (row.Datum d) = slice_index_or laid.literals i nil_word
  laid_literal i (row.Class c) = slice_index_or laid.classes c nil_word
  laid_literal i (row.Function name) = unwrap_or (word_of_text names functions laid.functions (text names name.0)) nil_word

  abbrev pub literals_from : List LiteralRow → ℕ → List ℕ
  literals_from [] i = []
  literals_from (l ∷ ls) i = laid_literal i l ∷ literals_from ls (i + 1)

-- a setting with the words that were laid
pub record StartsWith (setting : Setting) (laid : StaticData) : Type 0 where
  pub words :
      HasWords setting (literals_from setting.names setting.program.functions laid setting.program.literals 0)
      (laid_symbols setting.names laid.arena.symbols)
  pub start : IsStaticData setting.names (tables setting.program) (low_words setting.names setting.program) setting.further laid
  pub at : setting.further_at ≡ start.further_at
  pub symbols : setting.symbols ≡ start.places.symbols

-- no variable has a box yet, no call is kept, and exit 0 is that of no form
abbrev pub world_at_start : Places → World
world_at_start places = record { places = places; boxes = []; methods = []; exit_forms = None ∷ [] }
