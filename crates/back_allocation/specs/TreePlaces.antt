-- What is decided for the lines of a tree by a choice of places, and when that is good.
use Rattle.std.specs.Prelude.{◌≡◌, ℕ, true, false, List, [], slice_get, Option, Some, None}
use Rattle.mid_code.specs.declared.program.MidProcedure.{MidProcedure}
use Rattle.mid_code.specs.declared.program.MidProgram.{MidProgram}
use Rattle.mid_lines.specs.declared.line.LineProcedure.{LineProcedure}
use Rattle.mid_lines.specs.Lines.{line_of}
use Rattle.mid_lines.specs.Flattened.{program_lines}
use Rattle.back_places.specs.declared.place.Place.{Place}
use Rattle.back_places.specs.Places.{Located}
use Rattle.back_places.specs.Good.{IsGood}
use Rattle.back_places.specs.StepLaw.{Known}
use Rattle.back_trivial.specs.KnownRecords.{tree_records}
use Rattle.back_trivial.specs.FrameFound.{procedure_finds}
use Rattle.back_trivial.specs.OwnSlots.{is_there, PassesArguments, IsPlacedWell, IsLaidWell}
use Rattle.back_allocation.specs.LineSteps.{landings_of}
use Rattle.back_allocation.specs.Names.{AreNamings, NamesStand}
use Rattle.back_allocation.specs.Standing.{AllStand}
use Rattle.back_allocation.specs.Allocated.{Choice, is_chosen, source_in, target_in, parameter_places}

abbrev pub parameters_in : Choice → (number : ℕ) → Option LineProcedure → List Place
parameters_in c number None = []
parameters_in c number (Some p) = parameter_places (c.spot number) (c.enters number) 0 p.parameters

-- The decisions for the lines of a tree: registers are read from their places and given to them, the records are those of the tree, and each
-- procedure keeps its return address in its frame, and takes it from there. Positions are as in other decisions.
abbrev pub with_places : MidProgram → Choice → Located → Located
with_places program c l = record l {
  source = λ number line v. source_in (c.spot number) (line_of (program_lines program) number line) (slice_get (c.lines number) line) v;
  target = λ number line. target_in (c.spot number) (line_of (program_lines program) number line) (slice_get (c.lines number) line);
  parameters = λ number. parameters_in c number (slice_get (program_lines program).procedures number);
  records = tree_records program;
  linked = λ number line. false;
  saves = λ number. is_there (slice_get (program_lines program).procedures number);
}

-- In each procedure all registers stand well, and the frame is found past the records around each step, with a word for each slot and one
-- for the return address.
pub record FitsTree (program : MidProgram) (c : Choice) : Type 0 where
  pub named :
      (number : ℕ) (p : LineProcedure) → slice_get (program_lines program).procedures number ≡ Some p
      → AreNamings (c.owner number) (c.names number) p.lines (c.lines number)
  pub owned :
      (number : ℕ) (p : LineProcedure) → slice_get (program_lines program).procedures number ≡ Some p
      → NamesStand (c.lines number) p.registers (c.owner number) (c.names number) (c.spot number) (c.alive number)
  pub stand :
      (number : ℕ) (p : LineProcedure) → slice_get (program_lines program).procedures number ≡ Some p
      → AllStand (c.lines number) p.parameters (λ line. landings_of (tree_records program number line)) (c.spot number) (c.alive number) (c.enters number) (c.slots number)
  pub finds :
      (number : ℕ) (p : MidProcedure) → slice_get program.procedures number ≡ Some p → procedure_finds (record p { registers = c.slots number }) ≡ true

-- such decisions are good but for positions
abbrev pub LawOfPlaces : Type 0
LawOfPlaces =
    (program : MidProgram) (l : Located) (c : Choice) → FitsTree program c → PassesArguments (program_lines program) l
    → IsPlacedWell (program_lines program) (with_places program c l) (Known (is_chosen (program_lines program) c))

-- and where positions are good, all is
abbrev pub LawOfGoodPlaces : Type 0
LawOfGoodPlaces =
    (program : MidProgram) (l : Located) (c : Choice) → FitsTree program c → PassesArguments (program_lines program) l
    → IsLaidWell (program_lines program) (with_places program c l)
    → IsGood (program_lines program) (with_places program c l) (Known (is_chosen (program_lines program) c))
