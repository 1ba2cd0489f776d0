-- How many words the image of a flat program has at most.
use Rattle.std.specs.Prelude.{◌≡◌, ◌≤◌, ℕ, ◌+◌, ◌*◌, List, length}
use Rattle.lang_meaning.specs.declared.program.ProgramRows.{ProgramRows}
use Rattle.flat_language.specs.Flatten.{flat_program}
use Rattle.flat_language.specs.declared.program.FlatProgram.{FlatProgram}
use Rattle.flat_language.specs.FlatForm.{FlatForm}
use Rattle.flat_language.specs.FlatFits.{Fits, ProgramFits}
use Rattle.flat_language.specs.FlatNodes.{nodes}
use Rattle.mid_code.specs.declared.program.MidProgram.{MidProgram}
use Rattle.back_allocation.specs.declared.placing.RegisterPlaces.{RegisterPlaces}
use Rattle.back_allocation.specs.ProgramPlaces.{PlacesFit}
use Rattle.back_layout.specs.ChosenPlaces.{placed_laid_out}
use Rattle.back_lowering.specs.declared.placement.Placement.{Placement}
use Rattle.back_lowering.specs.Program.{lowered}
use Rattle.back_code_sizes.specs.Sizes.{form_words, words_of_node}
use Rattle.back_words.specs.Uses.{uses}
use Rattle.back_words.specs.Words.{further_words}
use Rattle.back_image_sizes.specs.Sizes.{uses_words, most_further_words, most_laid_words, image_words, program_image_words}

-- the code of a lowered program, with words beside it
abbrev pub code_beside : List (List ℕ) → Placement → FlatProgram → (laid : List ℕ) → MidProgram
code_beside names at program laid = record { procedures = lowered names at program; laid = laid }

-- a form pays by its nodes for its code and for the words of the names that it uses
abbrev pub LawOfUseSizes : Type 0
LawOfUseSizes =
    (names : List (List ℕ)) (program : FlatProgram) (f : FlatForm) → Fits program f
    → form_words f + uses_words (uses names program f) ≤ words_of_node * nodes f

-- the words behind all objects, wherever they stand
abbrev pub LawOfFurtherSizes : Type 0
LawOfFurtherSizes =
    (program : FlatProgram) (symbols : List ℕ) (address : ℕ) → length (further_words program symbols address) ≤ most_further_words program

-- **the image of a lowered program**, with the words that are laid beside its code, and whatever places are chosen for registers
abbrev pub LawOfImageSizes : Type 0
LawOfImageSizes =
    (names : List (List ℕ)) (at : Placement) (program : FlatProgram) (symbols : List ℕ) (address : ℕ) (laid : List ℕ) (chosen : List RegisterPlaces)
    → ProgramFits program → length laid ≤ most_laid_words names program symbols address → PlacesFit (code_beside names at program laid) chosen
    → (placed_laid_out (code_beside names at program laid) chosen).code_to ≤ image_words program

-- and so it is by the nodes of the program that was made flat
abbrev pub LawOfProgramImageSizes : Type 0
LawOfProgramImageSizes = (program : ProgramRows) → image_words (flat_program program) ≡ program_image_words program
