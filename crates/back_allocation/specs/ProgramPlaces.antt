-- The places that are chosen for a whole program, procedure by procedure: when they fit it, what is decided by them, and that this is good.
use Rattle.std.specs.Prelude.{◌≡◌, ◌≤◌, ℕ, Bool, true, false, List, [], length, slice_get, slice_index_or, Some}
use Rattle.mid_code.specs.declared.program.MidProcedure.{MidProcedure}
use Rattle.mid_code.specs.declared.program.MidProgram.{MidProgram}
use Rattle.mid_lines.specs.declared.line.LineProgram.{LineProgram}
use Rattle.mid_lines.specs.Lines.{line_of}
use Rattle.mid_lines.specs.Flattened.{procedure_lines, program_lines}
use Rattle.back_places.specs.declared.place.Place.{Place}
use Rattle.back_places.specs.Places.{Located}
use Rattle.back_places.specs.StepLaw.{Known}
use Rattle.back_trivial.specs.KnownRecords.{tree_records}
use Rattle.back_trivial.specs.FrameFound.{procedure_finds}
use Rattle.back_trivial.specs.OwnSlots.{is_there, PassesArguments, IsPlacedWell}
use Rattle.back_allocation.specs.declared.placing.RegisterPlaces.{RegisterPlaces}
use Rattle.back_allocation.specs.Allocated.{source_in, target_in}
use Rattle.back_allocation.specs.Places.{place_at}
use Rattle.back_allocation.specs.RegistersPlaced.{StandInPlaces}

-- where nothing is chosen, registers are nowhere, and no parameter is brought to a place
abbrev pub no_places : RegisterPlaces
no_places = record { lines = []; places = []; parameters = []; slots = 0 }

-- what is chosen for the procedure with a number
abbrev pub places_for : List RegisterPlaces → (number : ℕ) → RegisterPlaces
places_for chosen number = slice_index_or chosen number no_places

-- the frame of a procedure is found past the records around each step, with a word for each slot that is chosen and one for the return address
abbrev pub finds_slots : MidProcedure → RegisterPlaces → Bool
finds_slots p a = procedure_finds (record p { registers = a.slots })

-- where that is so with a word for each register, it is so with no more slots than there are registers
abbrev pub LawOfFewerSlots : Type 0
LawOfFewerSlots = (p : MidProcedure) (a : RegisterPlaces) → a.slots ≤ p.registers → procedure_finds p ≡ true → finds_slots p a ≡ true

-- The places of a procedure fit it: the registers of its lines stand well in them, and its frame is found.
pub record FitsProcedure (p : MidProcedure) (a : RegisterPlaces) : Type 0 where
  pub stand : StandInPlaces (procedure_lines p) a
  pub finds : finds_slots p a ≡ true

-- Those of a program fit it, which are as many as there are procedures.
pub record PlacesFit (program : MidProgram) (chosen : List RegisterPlaces) : Type 0 where
  pub count : length chosen ≡ length program.procedures
  pub each : (number : ℕ) (p : MidProcedure) → slice_get program.procedures number ≡ Some p → FitsProcedure p (places_for chosen number)

-- The decisions by these places: registers are read from their places and given to them, the entry brings parameters where it was chosen, the records
-- are those of the tree, and each procedure keeps its return address in its frame, and takes it from there. Positions are as in other decisions.
abbrev pub with_chosen_places : MidProgram → List RegisterPlaces → Located → Located
with_chosen_places program chosen l = record l {
  source = λ number line v.
      source_in (place_at (places_for chosen number).places) (line_of (program_lines program) number line) (slice_get (places_for chosen number).lines line) v;
  target = λ number line.
      target_in (place_at (places_for chosen number).places) (line_of (program_lines program) number line) (slice_get (places_for chosen number).lines line);
  parameters = λ number. (places_for chosen number).parameters;
  records = tree_records program;
  linked = λ number line. false;
  saves = λ number. is_there (slice_get (program_lines program).procedures number);
}

-- Some test tells what is known at each line, with which decisions are good but for positions.
pub record ArePlacedWell (program : LineProgram) (l : Located) : Type 0 where
  pub known : (number line register : ℕ) → Place → Bool
  pub well : IsPlacedWell program l (Known known)

-- so it is with those by places that fit
abbrev pub LawOfProgramPlaces : Type 0
LawOfProgramPlaces =
    (program : MidProgram) (chosen : List RegisterPlaces) (l : Located) → PlacesFit program chosen → PassesArguments (program_lines program) l
    → ArePlacedWell (program_lines program) (with_chosen_places program chosen l)
