-- The parts of a main form are its code.
use Rattle.std.proofs.Common.{◌≡◌, ℕ, List, refl}
use Rattle.flat_language.specs.declared.program.FlatProgram.{FlatProgram}
use Rattle.flat_language.specs.FlatForm.{FlatForm}
use Rattle.mid_code.specs.declared.operation.Counted.TheVariants.{Turn}
use Rattle.back_lowering.specs.declared.placement.Placement.{Placement}
use Rattle.back_lowering.specs.Program as lowering
use Rattle.back_procedures.specs.MainParts as parts

pub main_is : (names : List (List ℕ)) (at : Placement) (program : FlatProgram) (f : FlatForm)
    → lowering.procedure_with Turn 0 (parts.main_code names at program f) ≡ lowering.main_form names at program f
main_is names at program f = refl
