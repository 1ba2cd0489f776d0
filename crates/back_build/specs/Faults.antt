-- What the faults of the crates below are called here, and **why there is no image** of a program: what fails is the program that keeps what is reached.
use Rattle.std.specs.Prelude.{◌≡◌, ◌⊎◌, ⊤, ℕ, List, false}
use Rattle.base.specs.declared.datum.Name.{Name}
use Rattle.lang_meaning.specs.declared.program.ProgramRows.{ProgramRows}
use Rattle.flat_language.specs.declared.program.FlatProgram.{FlatProgram}
use Rattle.flat_language.specs.Flatten.{flat_program}
use Rattle.flat_boxes.specs.Boxes.{ProgramBoxes}
use Rattle.mid_code.specs.Checked.{is_checked_program}
use Rattle.mid_start.specs.Rows.{NamesThere}
use Rattle.back_trivial.specs.FrameFound.{finds_frames}
use Rattle.back_words.specs.Asked.{NamesAsked}
use Rattle.back_lowered.specs.TooLarge as lowering_too_large
use Rattle.back_lowered.specs.declared.lowering.LoweredProgram.{LoweredProgram}
use Rattle.back_lowered.specs.Lowered.{IsLoweredProgram}
use Rattle.back_program_code.specs.TooLarge as image_too_large
use Rattle.back_lowered.specs.declared.faults.LoweringFault.{LoweringFault}
use Rattle.back_lowered.specs.declared.faults.LoweringFault.TheVariants as lowering_fault
use Rattle.back_program_code.specs.declared.errors.ImageError.{ImageError}
use Rattle.back_program_code.specs.declared.errors.ImageError.TheVariants as image_error
use Rattle.back_build.specs.declared.faults.BuildFault.{BuildFault}
use Rattle.back_build.specs.declared.faults.BuildFault.TheVariants as fault
use Rattle.back_build.specs.Built.{code_with}
use Rattle.back_build.specs.Reached.{OfReached}

abbrev pub IsFaultOfLowering : LoweringFault → BuildFault → Type 0
IsFaultOfLowering lowering_fault.NoMemory e = e ≡ fault.NoMemory
IsFaultOfLowering lowering_fault.TooLarge e = e ≡ fault.TooLarge

abbrev pub IsFaultOfImage : ImageError → BuildFault → Type 0
IsFaultOfImage image_error.NoMemory e = e ≡ fault.NoMemory
IsFaultOfImage image_error.TooLarge e = e ≡ fault.TooLarge
IsFaultOfImage image_error.FrameNotFound e = e ≡ fault.FrameTooSmall

-- of a program that was lowered: the image would have too many words, the frames have not a word for each register, or the code is not in form
abbrev pub FailsLowered : LoweredProgram → BuildFault → Type 0
FailsLowered l fault.NoMemory = ⊤
FailsLowered l fault.TooLarge = image_too_large.IsTooLarge (code_with l l.procedures)
FailsLowered l fault.FrameTooSmall = finds_frames (code_with l l.procedures) ≡ false
FailsLowered l fault.NotInForm = is_checked_program (code_with l l.procedures) ≡ false

-- some lowering of a program that was made flat fails so
abbrev pub FailsWhenLowered : (names : List (List ℕ)) → FlatProgram → BuildFault → Type 0
FailsWhenLowered names program e = (l : LoweredProgram) × IsLoweredProgram names program l × FailsLowered l e

-- Of a program that was made flat: a name that a form uses is not in the table, or a variable with a box is not captured; or a part of the words
-- laid beside the code is too large; or a lowering of it fails.
abbrev pub FailsFlat : (names : List (List ℕ)) → FlatProgram → BuildFault → Type 0
FailsFlat names program fault.NoMemory = ⊤
FailsFlat names program fault.TooLarge = lowering_too_large.IsTooLarge names program ⊎ FailsWhenLowered names program fault.TooLarge
FailsFlat names program fault.FrameTooSmall = FailsWhenLowered names program fault.FrameTooSmall
FailsFlat names program fault.NotInForm =
    (NamesAsked names program → ⊥) ⊎ ((ProgramBoxes program → ⊥) ⊎ FailsWhenLowered names program fault.NotInForm)

-- Of a program: the names of its rows are not all in the table, or one has the text of nil, or none that of t; or it fails when it is made flat.
abbrev pub Fails : (names : List (List ℕ)) → ProgramRows → BuildFault → Type 0
Fails names program fault.NoMemory = ⊤
Fails names program fault.TooLarge = FailsFlat names (flat_program program) fault.TooLarge
Fails names program fault.FrameTooSmall = FailsFlat names (flat_program program) fault.FrameTooSmall
Fails names program fault.NotInForm =
    ((true_name : Name) → NamesThere names true_name program → ⊥) ⊎ FailsFlat names (flat_program program) fault.NotInForm

-- **Why there is no image**: the program that keeps what is reached fails so, where memory is not wanting.
abbrev pub FailsReached : (names : List (List ℕ)) → ProgramRows → BuildFault → Type 0
FailsReached names program fault.NoMemory = ⊤
FailsReached names program e = OfReached names program (λ left. Fails names left e)
