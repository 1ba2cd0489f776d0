-- **What the word with which a run halts is taken for**: the value of the program.
use Rattle.std.specs.Prelude.{◌≡◌, ◌<◌, ◌≤◌, ℕ, ◌^◌, List, length}
use Rattle.lang_meaning.specs.declared.program.ProgramRows.{ProgramRows}
use Rattle.lang_meaning.specs.Meaning.{Meant, meaning, ended_value}
use Rattle.lang_meaning.specs.State.{State, unlimited}
use Rattle.lang_meaning.specs.Values.{Value}
use Rattle.lang_alike.specs.Alike.{StoresAlike}
use Rattle.rv_machine.specs.declared.ending.Ending.TheVariants.{Halt}
use Rattle.rv_machine.specs.declared.image.Image.{Image}
use Rattle.rv_machine.specs.Run.{run_of}
use Rattle.rv_machine.specs.State as machine
use Rattle.mid_arena.specs.Layouts.{AreBytes}
use Rattle.mid_start.specs.declared.symbol_words.SymbolWord.{SymbolWord}
use Rattle.mid_taken.specs.TakenFrom.{TakenFrom}
use Rattle.back_build.specs.Means.{IsBuilt}
use Rattle.back_build.specs.WordsLeft.{AreWordsOf}

-- The program ends with a value for which this word stands in the memory: of a state whose objects are those that the
-- program leaves, but for functions, and whose symbols that were there before the run are these with their words.
pub record LeavesValue
    (names : List (List ℕ)) (symbols : List SymbolWord) (m : Meant) (s : machine.State) (word : ℕ) : Type 0 where
  pub result : Value
  pub end : m.end ≡ ended_value result
  pub state : State
  pub alike : StoresAlike m.store state.store
  pub taken : (words : List ℕ) → AreWordsOf s words → TakenFrom names state result words word symbols

-- wherever a run of the image has halted, its word stands for the value of the program
abbrev pub LeavesValues : (names : List (List ℕ)) (program : ProgramRows) → List SymbolWord → Image → Type 0
LeavesValues names program symbols image =
    (arena : ℕ) (input : List ℕ) → length image.words ≤ arena → arena ≤ 2 ^ 24 → AreBytes input
    → (n : ℕ) → n < 2 ^ 32 → (word : ℕ) → (run_of image.words image.entry arena input n).ending ≡ Halt word
    → LeavesValue names symbols (meaning names program input n unlimited)
    (run_of image.words image.entry arena input n).at.state word

-- the law of the values left: so it is of each image that was built of a program
abbrev pub LawOfValuesLeft : Type 0
LawOfValuesLeft =
    (names : List (List ℕ)) (program : ProgramRows) (symbols : List SymbolWord) (image : Image)
    → IsBuilt names program symbols image → LeavesValues names program symbols image
