-- **Whole programs that are made flat and laid**: what is asked of a program of core forms and of its words, so that its code does what it means.
use Rattle.std.specs.Prelude.{◌≡◌, ℕ, ◌+◌, ◌*◌, ◌<◌, true, List, length}
use Rattle.base.specs.Names.{IsTable}
use Rattle.lang_meaning.specs.declared.program.ProgramRows.{ProgramRows}
use Rattle.lang_meaning.specs.Facts.{is_whole}
use Rattle.flat_language.specs.Flatten.{flat_program}
use Rattle.flat_boxes.specs.Boxes.{ProgramBoxes}
use Rattle.mid_code.specs.State.{MidState}
use Rattle.mid_arena.specs.Layouts.{AreBytes}
use Rattle.mid_start.specs.declared.static_data.StaticData.{StaticData}
use Rattle.mid_start.specs.NamedSymbols.{HaveSymbols}
use Rattle.mid_start.specs.StaticData.{BeginsWithData}
use Rattle.back_relation.specs.Setting.{Setting}
use Rattle.back_relation.specs.Around.{RoomFor}
use Rattle.back_relation.specs.Right.{ProgramIsRight}
use Rattle.back_claims.specs.Program.{start_words, at_start, the_meaning, RunDoes}
use Rattle.back_words.specs.Asked.{NamesAsked}
use Rattle.back_words.specs.Laws.{FurtherStand}
use Rattle.back_words.specs.Start.{StartsWith, wanted_names}

-- A whole program is made flat, where no more variables have boxes than functions capture; the names that its forms use are in the table; its words are
-- laid, with the symbols of the names that a condition may have.
pub record IsLaid (program : ProgramRows) (setting : Setting) (laid : StaticData) : Type 0 where
  pub whole : is_whole program ≡ true
  pub flat : setting.program ≡ flat_program program
  pub boxes : ProgramBoxes setting.program
  pub table : IsTable setting.names
  pub names : NamesAsked setting.names setting.program
  pub starts : StartsWith setting laid
  pub further : FurtherStand setting
  pub symbols : HaveSymbols (wanted_names setting.names setting.program) laid.arena.symbols

-- it is laid well
abbrev pub LawOfRightPrograms : Type 0
LawOfRightPrograms = (program : ProgramRows) (setting : Setting) (laid : StaticData) → IsLaid program setting laid → ProgramIsRight setting

-- **its code does what it means**: at every level, for every input of bytes, from each state that begins with its words, where nothing was paid and as many
-- words are left as the meaning has, with turns enough
abbrev pub LawOfLaidRuns : Type 0
LawOfLaidRuns =
    (program : ProgramRows) (setting : Setting) (laid : StaticData) → IsLaid program setting laid → (input : List ℕ) (k : ℕ) (y : MidState) → AreBytes input
    → BeginsWithData laid.arena input y → y.cost ≡ 0 → RoomFor setting.limit start_words (at_start setting input).state y
    → 16 * (the_meaning setting input k y).units + length y.arena.memory < setting.turns_each → RunDoes setting input k y
