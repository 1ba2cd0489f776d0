-- What the tables of a program say of the functions of names.
use Rattle.std.proofs.Common.{◌≡◌, ℕ, List, [], refl}
use Rattle.flat_language.specs.declared.program.FlatProgram.{FlatProgram}
use Rattle.back_lowering.specs.declared.placement.Placement.{Placement}
use Rattle.back_calls.specs.declared.given.Given.{Given}
use Rattle.back_calls.specs.declared.given.Tables.{Tables}
use Rattle.back_calls.specs.Tabled.{IsTabled}
use Rattle.back_uses.specs.Functions.{AreFunctions}

pub functions_tabled : (names : List (List ℕ)) (program : FlatProgram) (tables : Tables)
    → ((given : Given) → given.names.now ≡ names → given.program.now ≡ program → given.tables.now ≡ tables → IsTabled given)
    → AreFunctions names program.functions tables.rows tables.unnamed
functions_tabled names program tables is =
    let nowhere : Placement = record { literals = []; symbols = []; globals = []; dynamics = []; procedures = 0; lambdas = 0; arities = 0; generics = 0 } in
    let given : Given = record {
      names = record { ref_ptr = (0, 0); now = names };
      at = record { ref_ptr = (0, 0); now = nowhere };
      program = record { ref_ptr = (0, 0); now = program };
      tables = record { ref_ptr = (0, 0); now = tables };
    } in
    (is given refl refl refl).rows
