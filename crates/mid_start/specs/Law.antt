-- The law of the start: a state of middle code that begins with the words before the first form represents the state of the meaning there, and
-- the program's own words stand in it. And what `lay_static_data` asks of rows holds of whole programs.
use Rattle.std.specs.Prelude.{◌≡◌, ℕ, true, List}
use Rattle.base.specs.declared.datum.Name.{Name}
use Rattle.lang_meaning.specs.declared.program.ProgramRows.{ProgramRows}
use Rattle.lang_meaning.specs.BuiltIn.{built_in_precedence, built_in_slots}
use Rattle.lang_meaning.specs.Facts.{begins_with_built_in, is_whole}
use Rattle.lang_meaning.specs.State.{first_state}
use Rattle.lang_meaning.specs.InitialHeap.{objects_at_start}
use Rattle.mid_code.specs.State.{MidState}
use Rattle.mid_arena.specs.Layouts.{AreBytes}
use Rattle.mid_arena.specs.Represents.{Represents}
use Rattle.mid_start.specs.declared.static_data.StaticData.{StaticData}
use Rattle.mid_start.specs.Rows.{RowsFit, NamesThere}
use Rattle.mid_start.specs.StaticData.{OwnWordsAt, IsStaticData, BeginsWithData}

abbrev pub LawOfStaticData : Type 0
LawOfStaticData =
    (names : List (List ℕ)) (program : ProgramRows) (low further : List ℕ) (words : StaticData) (input : List ℕ) (y : MidState)
    → begins_with_built_in program.classes built_in_precedence built_in_slots ≡ true → (start : IsStaticData names program low further words)
    → AreBytes input → BeginsWithData words.arena input y
    → Represents names program start.places (first_state (objects_at_start names program) input) y × OwnWordsAt low further start.further_at y.arena

abbrev pub LawOfWholeRows : Type 0
LawOfWholeRows =
    (names : List (List ℕ)) (true_name : Name) (program : ProgramRows) → is_whole program ≡ true → NamesThere names true_name program
    → RowsFit names true_name program.classes program.functions program.literals
