-- The words before the first form of a program, laid at the front of an image.
use Rattle.std.specs.Prelude.{◌≡◌, ◌≤◌, ℕ, ◌*◌, ◌^◌, List, ◌++◌, length}
use Rattle.mid_code.specs.State.{MidState}
use Rattle.mid_arena.specs.Layouts.{AreBytes}
use Rattle.mid_lines.specs.declared.line.LineProgram.{LineProgram}
use Rattle.mid_start.specs.declared.words.ArenaWords.{ArenaWords}
use Rattle.mid_start.specs.StaticData.{BeginsWithData}
use Rattle.back_places.specs.Places.{Located}
use Rattle.back_runs.specs.Images.{HasStart, IsFirst, first_state}

-- words from address 0 on are the front of an image, in front of those of arguments
pub record AreInFront (l : Located) (words : ArenaWords) (image : List ℕ) : Type 0 where
  pub first : words.first ≡ 0
  pub rest : List ℕ
  pub front : image ≡ words.words ++ rest
  pub before : length words.words ≤ l.arguments_at

-- A state that begins with such words, and whose heap is behind the image, is one with which a run of the image begins, in its arena.
abbrev pub LawOfStartsFromData : Type 0
LawOfStartsFromData =
    (program : LineProgram) (l : Located) (at entry : ℕ) (image : List ℕ) (words : ArenaWords) (input : List ℕ) (y : MidState)
    → HasStart program l at entry image → AreInFront l words image → BeginsWithData words input y → y.arena.heap_to ≡ 4 * length image → AreBytes input
    → IsFirst l image (length y.arena.memory) input y

-- and there is one in each arena that has room for the image
abbrev pub LawOfBeginningsWithData : Type 0
LawOfBeginningsWithData =
    (l : Located) (image : List ℕ) (words : ArenaWords) (arena : ℕ) (input : List ℕ)
    → AreInFront l words image → length image ≤ arena → arena ≤ 2 ^ 24 → BeginsWithData words input (first_state words.words (length image) arena input)
