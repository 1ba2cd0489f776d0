-- When a program is too large for an image.
use Rattle.std.specs.Prelude.{◌≡◌, ◌≤◌, ◌⊎◌, ℕ, ◌^◌, Bool, true, List}
use Rattle.std.specs.List.{list_any}
use Rattle.mid_code.specs.declared.program.MidProcedure.{MidProcedure}
use Rattle.mid_code.specs.declared.program.MidProgram.{MidProgram}
use Rattle.mid_code.specs.MidCode.{code_of}
use Rattle.mid_lines.specs.Flattened.{program_lines}
use Rattle.back_allocation.specs.declared.placing.RegisterPlaces.{RegisterPlaces}
use Rattle.back_allocation.specs.ProgramPlaces.{PlacesFit}
use Rattle.back_layout.specs.Layout.{far_placed}
use Rattle.back_layout.specs.ChosenPlaces.{placed_decided}
use Rattle.back_emit.specs.declared.ways.FrameWay.TheVariants.{FromStack}
use Rattle.back_emit.specs.TreeWays.{code_ways, has_deep}

-- records of a procedure have 2^29 words or more, one inside the other
abbrev pub is_deep_procedure : MidProcedure → Bool
is_deep_procedure p = has_deep (code_ways (FromStack 0) (code_of p.body))

-- so it is with those of some procedure
abbrev pub has_deep_records : MidProgram → Bool
has_deep_records program = list_any is_deep_procedure program.procedures

-- where the image would end with these places, and with all jumps far
abbrev pub far_end : MidProgram → (chosen : List RegisterPlaces) → ℕ
far_end program chosen = (far_placed (program_lines program) (placed_decided program chosen)).code_to

-- with some places that fit the program, that is 2^24 or more
pub record IsLong (program : MidProgram) : Type 0 where
  pub chosen : List RegisterPlaces
  pub fit : PlacesFit program chosen
  pub long : 2 ^ 24 ≤ far_end program chosen

-- either of these
abbrev pub IsTooLarge : MidProgram → Type 0
IsTooLarge program = IsLong program ⊎ (has_deep_records program ≡ true)
