-- A setting with the words of its program is placed, and a state of middle code that begins with them is one where the program begins.
use Rattle.std.specs.Prelude.{◌≡◌, ℕ, ◌*◌, ◌^◌, ◌<◌, true, List, Some, slice_get}
use Rattle.base.specs.Names.{IsTable}
use Rattle.lang_meaning.specs.declared.program.ProgramRows.{ProgramRows}
use Rattle.lang_meaning.specs.Facts.{is_whole}
use Rattle.flat_language.specs.declared.program.FlatProgram.{FlatProgram}
use Rattle.flat_language.specs.FlatFits.{ProgramFits}
use Rattle.flat_language.specs.FlatNodes.{tables}
use Rattle.flat_language.specs.Flatten.{flat_program}
use Rattle.mid_arena.specs.Layouts.{AreBytes}
use Rattle.mid_code.specs.State.{MidState}
use Rattle.mid_start.specs.declared.static_data.StaticData.{StaticData}
use Rattle.mid_start.specs.NamedSymbols.{HaveSymbols}
use Rattle.mid_start.specs.StaticData.{IsStaticData, BeginsWithData}
use Rattle.back_relation.specs.Setting.{Setting}
use Rattle.back_relation.specs.Around.{RoomFor}
use Rattle.back_relation.specs.Placed.{IsPlaced, ProgramPlaced}
use Rattle.back_claims.specs.Program.{start_words, at_start, ProgramBegins}
use Rattle.back_words.specs.Words.{HasWords}
use Rattle.back_words.specs.Start.{wanted_names, laid_symbols, StartsWith, world_at_start}
use Rattle.back_words.specs.Asked.{RowsAsked, NamesAsked, SymbolsGiven, FormsAsked}

-- The words behind all objects begin where a word stands, and each fits into one.
pub record FurtherStand (setting : Setting) : Type 0 where
  pub aligned : (n : ℕ) × (setting.further_at ≡ 4 * n)
  pub words : (i word : ℕ) → slice_get setting.further i ≡ Some word → word < 2 ^ 32

abbrev pub LawOfPlacedWords : Type 0
LawOfPlacedWords =
    (setting : Setting) (literals symbols : List ℕ) → HasWords setting literals symbols → FurtherStand setting → RowsAsked setting.program
    → SymbolsGiven setting.names setting.program symbols → IsPlaced setting

abbrev pub LawOfPlacedPrograms : Type 0
LawOfPlacedPrograms =
    (setting : Setting) (literals symbols : List ℕ) → HasWords setting literals symbols → FurtherStand setting → ProgramFits setting.program
    → RowsAsked setting.program → NamesAsked setting.names setting.program → SymbolsGiven setting.names setting.program symbols
    → FormsAsked setting.program → ProgramPlaced setting

-- where as many words are left as the meaning has, and nothing was paid
abbrev pub LawOfBeginnings : Type 0
LawOfBeginnings =
    (setting : Setting) (laid : StaticData) (s : StartsWith setting laid) → IsTable setting.names → RowsAsked setting.program → (input : List ℕ) (y : MidState)
    → AreBytes input → BeginsWithData laid.arena input y → y.cost ≡ 0 → RoomFor setting.limit start_words (at_start setting input).state y
    → ProgramBegins setting input (world_at_start s.start.places) y

-- a whole program that was made flat has the rows and the forms that are asked
abbrev pub LawOfWholePrograms : Type 0
LawOfWholePrograms = (program : ProgramRows) → is_whole program ≡ true → RowsAsked (flat_program program) × FormsAsked (flat_program program)

-- where the symbol of each name that a condition may have was laid, its word is not nil's
abbrev pub LawOfGivenSymbols : Type 0
LawOfGivenSymbols =
    (names : List (List ℕ)) (program : FlatProgram) (low further : List ℕ) (laid : StaticData) → IsTable names → NamesAsked names program
    → IsStaticData names (tables program) low further laid → HaveSymbols (wanted_names names program) laid.arena.symbols
    → SymbolsGiven names program (laid_symbols names laid.arena.symbols)
