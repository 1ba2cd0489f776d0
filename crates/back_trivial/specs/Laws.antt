-- The laws of own slots for the lines of a tree.
use Rattle.std.specs.Prelude.{◌≡◌, true}
use Rattle.mid_code.specs.declared.program.MidProgram.{MidProgram}
use Rattle.mid_code.specs.Checked.{is_checked_program}
use Rattle.mid_lines.specs.Flattened.{program_lines}
use Rattle.back_places.specs.Places.{Located}
use Rattle.back_places.specs.Good.{IsGood}
use Rattle.back_places.specs.StepLaw.{Known}
use Rattle.back_trivial.specs.FrameFound.{finds_frames}
use Rattle.back_trivial.specs.OwnSlots.{with_own_slots, PassesArguments, is_in_own_slot, IsPlacedWell, IsLaidWell}

-- The lines of a program in form, whose frames are found: with each register in a slot of its own, all is good but for positions.
abbrev pub LawOfTrivialLines : Type 0
LawOfTrivialLines =
    (program : MidProgram) (l : Located) → is_checked_program program ≡ true → finds_frames program ≡ true
    → PassesArguments (program_lines program) l
    → IsPlacedWell (program_lines program) (with_own_slots program l) (Known (is_in_own_slot (program_lines program)))

-- and where positions are good, all is
abbrev pub LawOfGoodLines : Type 0
LawOfGoodLines =
    (program : MidProgram) (l : Located) → is_checked_program program ≡ true → finds_frames program ≡ true
    → PassesArguments (program_lines program) l → IsLaidWell (program_lines program) (with_own_slots program l)
    → IsGood (program_lines program) (with_own_slots program l) (Known (is_in_own_slot (program_lines program)))
