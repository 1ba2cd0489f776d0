-- **What is compiled of a program**: the program that keeps what its main forms reach. What is said here of that program.
use Rattle.std.specs.Prelude.{◌≤◌, ℕ, List, length}
use Rattle.lang_meaning.specs.declared.program.ProgramRows.{ProgramRows}
use Rattle.lang_reached.specs.Remaining.{KeepsReached}
use Rattle.rv_machine.specs.declared.image.Image.{Image}
use Rattle.back_image_sizes.specs.Sizes.{program_image_words}

-- the program that keeps what is reached is so
abbrev pub OfReached : (names : List (List ℕ)) (program : ProgramRows) → (ProgramRows → Type 0) → Type 0
OfReached names program Is = (left : ProgramRows) × KeepsReached names program left × Is left

-- an image has at most so many words by the nodes of a program
abbrev pub IsSized : Image → ProgramRows → Type 0
IsSized image program = length image.words ≤ program_image_words program
