-- **What is told of the condition by which the run of an image ended**: what the program means that is told.
use Rattle.std.specs.Prelude.{◌≡◌, ◌<◌, ◌≤◌, ℕ, ◌^◌, List, length, slice_index}
use Rattle.lang_meaning.specs.declared.program.ProgramRows.{ProgramRows}
use Rattle.lang_meaning.specs.Meaning.{meaning}
use Rattle.lang_meaning.specs.State.{unlimited}
use Rattle.lang_told.specs.Ends.{TellsEnd}
use Rattle.mid_arena.specs.Layouts.{AreBytes}
use Rattle.mid_start.specs.declared.symbol_words.SymbolWord.{SymbolWord}
use Rattle.mid_told.specs.StandsFor.{IsTold}
use Rattle.rv_machine.specs.declared.ending.Ending.TheVariants.{Unhandled}
use Rattle.rv_machine.specs.declared.image.Image.{Image}
use Rattle.rv_machine.specs.Run.{run_of}
use Rattle.back_build.specs.Means.{IsBuilt}
use Rattle.back_build.specs.WordsLeft.{AreWordsOf}

-- the register that has the word of the condition
abbrev pub condition_register : ℕ
condition_register = 12

-- wherever a run of the image has ended unhandled, what is told of the word in that register, by the words of the memory, is told of the condition by
-- which the program ends
abbrev pub TellsConditions : (names : List (List ℕ)) (program : ProgramRows) → Image → Type 0
TellsConditions names program image =
    (arena : ℕ) (input : List ℕ) → length image.words ≤ arena → arena ≤ 2 ^ 24 → AreBytes input
    → (n : ℕ) → n < 2 ^ 32 → (class : ℕ) → (run_of image.words image.entry arena input n).ending ≡ Unhandled class
    → (words told : List ℕ) → AreWordsOf (run_of image.words image.entry arena input n).at.state words
    → IsTold names program.classes words (slice_index (run_of image.words image.entry arena input n).at.state.registers condition_register) told
    → TellsEnd names program (meaning names program input n unlimited) told

-- the law of the conditions told: so it is of each image that was built of a program
abbrev pub LawOfConditionsTold : Type 0
LawOfConditionsTold =
    (names : List (List ℕ)) (program : ProgramRows) (symbols : List SymbolWord) (image : Image)
    → IsBuilt names program symbols image → TellsConditions names program image
