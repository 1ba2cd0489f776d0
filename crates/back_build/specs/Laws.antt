-- The law that leads from what flat programs mean to what whole ones do.
use Rattle.std.specs.Prelude.{◌≡◌, ℕ, ◌*◌, true, List}
use Rattle.lang_meaning.specs.declared.program.ProgramRows.{ProgramRows}
use Rattle.lang_meaning.specs.Facts.{is_whole}
use Rattle.lang_meaning.specs.State.{words}
use Rattle.flat_language.specs.Flatten.{flat_program}
use Rattle.mid_code.specs.State.{MidState}
use Rattle.mid_start.specs.declared.symbol_words.SymbolWord.{SymbolWord}
use Rattle.mid_start.specs.LaidWell.{AreSymbolsThere, AreDistinct}
use Rattle.back_relation.specs.Setting.{Setting}
use Rattle.back_relation.specs.Worlds.{World}
use Rattle.back_claims.specs.Program.{ProgramBegins}
use Rattle.back_meant.specs.Laws.{with_limits, MeantRuns}
use Rattle.back_build.specs.Means.{Holds, ImageMeans}

-- **From flat programs to whole ones**: what an image does in words of a flat program's meaning, it does in words of the
-- whole program that was made flat. The symbols that are laid before a run are listed with their words, each once.
abbrev pub LawOfWholeMeaning : Type 0
LawOfWholeMeaning =
    (program : ProgramRows) (base : Setting) (symbols : List SymbolWord) → is_whole program ≡ true → base.program ≡ flat_program program
    → AreSymbolsThere base.names symbols base.symbols → AreDistinct base.symbols
    → (at : ℕ) (image : List ℕ) (arena : ℕ) (input : List ℕ) (w : World) (y : MidState)
    → ((charge turns : ℕ) → Holds arena image charge → ProgramBegins (with_limits base (words charge) turns) input w y)
    → MeantRuns base image at arena input w y → ImageMeans base.names program symbols image (4 * at) arena input
