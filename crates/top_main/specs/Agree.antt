-- **The law of agreement**: how the image of a program ends, beside what the program means.
use Rattle.std.specs.Prelude.{◌⊎◌, ⊤, ◌<◌, ◌≤◌, ◌^◌, ℕ, List, length}
use Rattle.lang_meaning.specs.declared.program.ProgramRows.{ProgramRows}
use Rattle.lang_meaning.specs.Meaning.{End, ended_value, ended_unhandled, ended_full, ended_more, meaning}
use Rattle.lang_meaning.specs.State.{unlimited}
use Rattle.rv_machine.specs.declared.image.Image.{Image}
use Rattle.rv_machine.specs.declared.ending.Ending.{Ending}
use Rattle.rv_machine.specs.declared.ending.Ending.TheVariants.{Halt, Unhandled, Full, Budget, Trap, ReadFault, WriteFault}
use Rattle.top_exec.specs.Runs.{the_run}
use Rattle.top_main.specs.Images.{AreBytes, Halts, Signals, IsImageOf}

-- a program ended with a value, or by a condition that it did not handle
abbrev pub HasEnded : End → Type 0
HasEnded (ended_value v) = ⊤
HasEnded (ended_unhandled c place) = ⊤
HasEnded (ended_full asked left) = ⊥
HasEnded ended_more = ⊥

-- a run halted, or ended by a condition that was not handled
abbrev pub HasStopped : Ending → Type 0
HasStopped (Halt word) = ⊤
HasStopped (Unhandled class) = ⊤
HasStopped (Full asked left) = ⊥
HasStopped Budget = ⊥
HasStopped (Trap kind address) = ⊥
HasStopped ReadFault = ⊥
HasStopped WriteFault = ⊥

-- Where the program has ended so within some levels, without a limit of words, and a run of its image, in an arena that has room for it, has stopped so:
-- the run halted with the word of the program's value, or ended with the class and the site of its condition, and printed just what the program prints.
abbrev pub LawOfAgreement : Type 0
LawOfAgreement =
    (names : List (List ℕ)) (program : ProgramRows) (image : Image) (arena levels steps : ℕ) (input : List ℕ)
    → IsImageOf names program image → length image.words ≤ arena → arena ≤ 2 ^ 24 → steps < 2 ^ 32 → AreBytes input
    → HasEnded (meaning names program input levels unlimited).end → HasStopped (the_run image arena steps input).ending
    → Halts (meaning names program input levels unlimited) (the_run image arena steps input)
    ⊎ Signals program (meaning names program input levels unlimited) (the_run image arena steps input)
