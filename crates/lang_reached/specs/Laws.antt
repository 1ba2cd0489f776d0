-- The laws of what is left out: the program means the same, and it stays whole.
use Rattle.std.specs.Prelude.{◌≡◌, ℕ, true, List}
use Rattle.lang_meaning.specs.declared.program.ProgramRows.{ProgramRows}
use Rattle.lang_meaning.specs.Facts.{is_whole}
use Rattle.lang_meaning.specs.Meaning.{meaning}
use Rattle.lang_meaning.specs.State.{Limit}
use Rattle.lang_reached.specs.declared.kept.Kept.{Kept}
use Rattle.lang_reached.specs.LeftOut.{IsClosed, without_others}

-- with every input, at every level and with any number of words the program means the same: its end, its bytes, its units and all its objects
abbrev pub LawOfReached : Type 0
LawOfReached =
    (names : List (List ℕ)) (program : ProgramRows) (kept : Kept) → IsClosed names program kept → (input : List ℕ) (levels : ℕ) (limit : Limit)
    → meaning names (without_others kept program) input levels limit ≡ meaning names program input levels limit

-- a whole program stays whole
abbrev pub LawOfWhole : Type 0
LawOfWhole = (program : ProgramRows) (kept : Kept) → is_whole program ≡ true → is_whole (without_others kept program) ≡ true
