-- How many words an image has at most: the words laid beside the code, those of arguments, one for each procedure, eleven, and what the code costs.
use Rattle.std.specs.Prelude.{◌≡◌, ◌≤◌, ℕ, ◌+◌, List, [], ◌∷◌, length, slice_get, Some}
use Rattle.mid_code.specs.declared.program.MidProcedure.{MidProcedure}
use Rattle.mid_code.specs.declared.program.MidProgram.{MidProgram}
use Rattle.mid_arena.specs.CodeCosts.{procedure_cost}
use Rattle.mid_lines.specs.declared.line.LineProcedure.{LineProcedure}
use Rattle.mid_lines.specs.Flattened.{program_lines}
use Rattle.back_places.specs.Places.{Located}
use Rattle.back_allocation.specs.declared.placing.RegisterPlaces.{RegisterPlaces}
use Rattle.back_allocation.specs.ProgramPlaces.{PlacesFit}
use Rattle.back_layout.specs.Layout.{laid_out}
use Rattle.back_layout.specs.ChosenPlaces.{most_arguments, placed_laid_out}

-- what the code of procedures costs
abbrev pub procedures_cost : List MidProcedure → ℕ
procedures_cost [] = 0
procedures_cost (p ∷ more) = procedure_cost p + procedures_cost more

-- each parameter of a procedure that is there has one place
abbrev pub ParametersHavePlaces : MidProgram → Located → Type 0
ParametersHavePlaces program l =
    (number : ℕ) (p : LineProcedure) → slice_get (program_lines program).procedures number ≡ Some p → length (l.parameters number) ≡ p.parameters

abbrev pub LawOfSizes : Type 0
LawOfSizes =
    (program : MidProgram) (l : Located) → ParametersHavePlaces program l
    → (laid_out (program_lines program) l).code_to
    ≤ length program.laid + l.argument_words + length program.procedures + 11 + procedures_cost program.procedures

-- so it is with places that fit the program, and as many words of arguments as the longest call has
abbrev pub LawOfPlacedSize : Type 0
LawOfPlacedSize =
    (program : MidProgram) (chosen : List RegisterPlaces) → PlacesFit program chosen
    → (placed_laid_out program chosen).code_to
    ≤ length program.laid + most_arguments (program_lines program).procedures + length program.procedures + 11 + procedures_cost program.procedures
