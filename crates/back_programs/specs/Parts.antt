-- Parts of the lowered program.
use Rattle.std.specs.Prelude.{List, [], ◌∷◌, ◌++◌, map}
use Rattle.lang_meaning.specs.declared.primitive.Primitive.{Primitive}
use Rattle.mid_code.specs.declared.operation.Counted.TheVariants.{Level, Turn}
use Rattle.mid_code.specs.declared.program.MidProcedure.{MidProcedure}
use Rattle.mid_arena.specs.Codes.{procedure_of}
use Rattle.back_lowering.specs.declared.placement.Placement.{Placement}
use Rattle.back_lowering.specs.Program.{procedure_with, framed, passing_frame, raise_frame, generic_frame, chain_frame}
use Rattle.back_lowering.specs.RoutineCodes.{transfer_code, leave_code, throw_code, continue_code, raise_code, signal_code, pending_code, failing_code, failing_with_code, domain_code, function_code, apply_code, generic_code, chain_code, next_code, level_code, list_code, method_code, binding_code, is_function_code, class_code}

-- the procedures of some primitives
abbrev pub written : List Primitive → List MidProcedure
written which = map procedure_of which

-- the routines, in the order of their numbers: transfers; signals; new conditions; applications; lists and what only looks
abbrev pub transfers : Placement → List MidProcedure
transfers at =
    procedure_with Turn 2 (transfer_code at)
    ∷ framed passing_frame (procedure_with Turn 3 (leave_code at))
    ∷ framed passing_frame (procedure_with Turn 2 (throw_code at))
    ∷ framed passing_frame (procedure_with Turn 2 (continue_code at))
    ∷ []

abbrev pub signals : Placement → List MidProcedure
signals at =
    framed raise_frame (procedure_with Turn 2 (raise_code at))
    ∷ framed passing_frame (procedure_with Turn 2 (signal_code at))
    ∷ framed passing_frame (procedure_with Turn 0 (pending_code at))
    ∷ []

abbrev pub conditions : Placement → List MidProcedure
conditions at =
    framed passing_frame (procedure_with Turn 1 (failing_code at))
    ∷ framed passing_frame (procedure_with Turn 2 (failing_with_code at))
    ∷ framed passing_frame (procedure_with Turn 2 (domain_code at))
    ∷ []

abbrev pub applications : Placement → List MidProcedure
applications at =
    framed passing_frame (procedure_with Turn 3 (function_code at))
    ∷ procedure_with Turn 2 (apply_code at)
    ∷ framed generic_frame (procedure_with Turn 3 (generic_code at))
    ∷ framed chain_frame (procedure_with Level 3 (chain_code at))
    ∷ framed chain_frame (procedure_with Turn 3 (next_code at))
    ∷ []

abbrev pub lists : Placement → List MidProcedure
lists at =
    procedure_with Level 0 (level_code at)
    ∷ procedure_with Turn 2 (list_code at)
    ∷ procedure_with Turn 3 (method_code at)
    ∷ []

abbrev pub looking : Placement → List MidProcedure
looking at =
    procedure_with Turn 1 (binding_code at)
    ∷ procedure_with Turn 1 (is_function_code at)
    ∷ procedure_with Turn 1 (class_code at)
    ∷ []

abbrev pub routines : Placement → List MidProcedure
routines at = transfers at ++ (signals at ++ (conditions at ++ (applications at ++ (lists at ++ looking at))))
