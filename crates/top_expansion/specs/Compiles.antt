-- **What is said of the image of a call's program**, and of the symbols that stand in it.
use Rattle.std.specs.Prelude.{◌≤◌, ◌+◌, List, ℕ, length}
use Rattle.lang_meaning.specs.declared.program.ProgramRows.{ProgramRows}
use Rattle.lang_reached.specs.Remaining.{KeepsReached}
use Rattle.front_profile.specs.Expansions.{most_image_words}
use Rattle.front_profile.specs.ProgramNames.{NamesIn}
use Rattle.rv_machine.specs.declared.image.Image.{Image}
use Rattle.back_claims.specs.Program.{start_words}
use Rattle.back_build.specs.declared.building.Built.{Built}
use Rattle.back_build.specs.Means.{IsBuilt}

-- with the start's own words it has no more than those of the program that keeps what is reached
pub record HasFewWords (names : List (List ℕ)) (program : ProgramRows) (image : Image) : Type 0 where
  pub left : ProgramRows
  pub keeps : KeepsReached names program left
  pub few : length image.words + start_words ≤ most_image_words left

pub record IsCompiled (names : List (List ℕ)) (program : ProgramRows) (built : Built) : Type 0 where
  -- it does what the program means
  pub is_built : IsBuilt names program built.symbols built.image
  pub few : HasFewWords names program built.image
  -- the names of the program are in the table, also those in forms that are not reached
  pub named : NamesIn (length names) program
