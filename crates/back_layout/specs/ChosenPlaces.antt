-- The layout of the lines of a tree, where registers stand in places that were chosen, procedure by procedure.
use Rattle.std.specs.Prelude.{ℕ, false, List, [], ◌∷◌, length, max}
use Rattle.mid_code.specs.declared.operation.Operation.TheVariants.{Call}
use Rattle.mid_code.specs.declared.program.MidProgram.{MidProgram}
use Rattle.mid_lines.specs.declared.line.Line.{Line}
use Rattle.mid_lines.specs.declared.line.Line.TheVariants.{Do}
use Rattle.mid_lines.specs.declared.line.LineProcedure.{LineProcedure}
use Rattle.mid_lines.specs.Flattened.{program_lines}
use Rattle.back_places.specs.declared.place.Place.TheVariants.{AsConstant}
use Rattle.back_places.specs.Places.{Located}
use Rattle.back_allocation.specs.declared.placing.RegisterPlaces.{RegisterPlaces}
use Rattle.back_allocation.specs.ProgramPlaces.{with_chosen_places}
use Rattle.back_layout.specs.Layout.{laid_out}

-- how many arguments a line passes
abbrev pub arguments_passed : Line → ℕ
arguments_passed (Do (Call to callee arguments)) = length arguments
arguments_passed x = 0

-- the most that lines pass
abbrev pub most_in_lines : List Line → ℕ
most_in_lines [] = 0
most_in_lines (x ∷ more) = max (arguments_passed x) (most_in_lines more)

-- the most that procedures pass, or take as their parameters
abbrev pub most_arguments : List LineProcedure → ℕ
most_arguments [] = 0
most_arguments (p ∷ more) = max (max p.parameters (most_in_lines p.lines)) (most_arguments more)

-- nothing is decided but how many words there are for arguments
abbrev pub nothing_decided : (argument_words : ℕ) → Located
nothing_decided argument_words = record {
  source = λ number line register. AsConstant 0;
  target = λ number line. AsConstant 0;
  parameters = λ number. [];
  records = λ number line. [];
  linked = λ number line. false;
  saves = λ number. false;
  near = λ number line. false;
  entry_at = λ number. 0;
  line_at = λ number line. 0;
  back_at = λ number line. 0;
  table_at = λ number line. 0;
  arguments_at = 0;
  argument_words = argument_words;
  procedures_at = 0;
  end_at = 0;
  full_at = 0;
  code_from = 0;
  code_to = 0;
}

-- registers in these places, and as many words for arguments as the longest call has
abbrev pub placed_decided : MidProgram → List RegisterPlaces → Located
placed_decided program chosen = with_chosen_places program chosen (nothing_decided (most_arguments (program_lines program).procedures))

-- and all positions
abbrev pub placed_laid_out : MidProgram → List RegisterPlaces → Located
placed_laid_out program chosen = laid_out (program_lines program) (placed_decided program chosen)
