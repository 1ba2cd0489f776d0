-- What is said of a file that is written out: that it is this program, which does that; or that it is refused.
use Rattle.std.specs.Prelude.{◌≡◌, ℕ, List, []}
use Rattle.lang_meaning.specs.declared.program.ProgramRows.{ProgramRows}
use Rattle.lang_meaning.specs.State.{unlimited}
use Rattle.lang_meaning.specs.Meaning.{Ending, ending_of, meaning}
use Rattle.front_files.specs.declared.mode.Mode.TheVariants.{Run}
use Rattle.front_files.specs.Verdicts.{Accepts}

-- the file behind the library is that program, which with an empty input, at k levels, ends so and prints that
pub record IsProgram (library text : List ℕ) (names : List (List ℕ)) (program : ProgramRows) (k : ℕ) (ending : Ending) (printed : List ℕ) : Type 0 where
  pub accepted : Accepts library text Run names program
  pub ends : ending_of (meaning names program [] k unlimited).end (meaning names program [] k unlimited).store ≡ ending
  pub prints : (meaning names program [] k unlimited).printed ≡ printed
