-- **How many words an image has at most**, by what the main forms of its program reach: its nodes, main forms, rows and tables.
use Rattle.std.specs.Prelude.{◌≤◌, ℕ, List, length}
use Rattle.lang_meaning.specs.declared.program.ProgramRows.{ProgramRows}
use Rattle.lang_reached.specs.Remaining.{KeepsReached}
use Rattle.lang_reached.specs.Sizes.{most_words}
use Rattle.rv_machine.specs.declared.image.Image.{Image}

-- an image has no more words than that by the program that keeps what is reached, and so by the whole program
pub record IsSmall (names : List (List ℕ)) (program : ProgramRows) (image : Image) : Type 0 where
  pub left : ProgramRows
  pub keeps : KeepsReached names program left
  pub by_reached : length image.words ≤ most_words left
  pub by_whole : length image.words ≤ most_words program
