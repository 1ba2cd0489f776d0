-- The parts are all routines, and the procedures of each kind are the program.
use Rattle.std.proofs.Common.{◌≡◌, ℕ, List, [], ◌∷◌, ◌++◌, length, map, refl}
use Rattle.flat_language.specs.declared.program.FlatProgram.{FlatProgram}
use Rattle.back_lowering.specs.declared.placement.Placement.{Placement}
use Rattle.back_lowering.specs.Program as lowering
use Rattle.back_lowering.specs.Program.{lowered}
use Rattle.back_programs.specs.Parts as parts

pub routines_are : (names : List (List ℕ)) (at : Placement) (program : FlatProgram) → parts.routines at ≡ lowering.routines names at program
routines_are names at program = refl

-- its procedures in order are the lowered program
pub lowered_is : (names : List (List ℕ)) (at : Placement) (program : FlatProgram)
    → lowering.entries_from names at program 0 program.procedures
    ++ (lowering.lambda_entries_from names at program (length program.procedures) program.lambdas
    ++ (lowering.bodies_from names at program 0 program.procedures
    ++ (lowering.lambda_bodies names at program program.lambdas
    ++ (lowering.primitives names at program
    ++ (lowering.routines names at program
    ++ (map (lowering.main_form names at program) program.main ++ (lowering.start names at program ∷ []))))))) ≡ lowering.lowered names at program
unfolding lowered
lowered_is names at program = refl
