-- A worked program on the machine: a loop that prints three bytes, with all of its registers in registers of the machine.
use Rattle.std.specs.Prelude.{◌≡◌, ◌+◌, ◌*◌, List, [], ◌∷◌}
use Rattle.rv_machine.specs.declared.ending.Ending.TheVariants.{Halt}
use Rattle.rv_machine.specs.Run.{Ended, run_of}
use Rattle.mid_code.specs.declared.operation.Arithmetic.TheVariants as which
use Rattle.mid_code.specs.declared.operation.Comparison.TheVariants as comparison
use Rattle.mid_code.specs.declared.operation.Counted.TheVariants.{Turn}
use Rattle.mid_code.specs.declared.operation.Operation.TheVariants.{Constant, Compute, Put}
use Rattle.mid_code.specs.declared.program.MidProcedure.{MidProcedure}
use Rattle.mid_code.specs.declared.program.MidProgram.{MidProgram}
use Rattle.mid_code.specs.MidCode.{perform, repeat, return_word, no_step, code_of}
use Rattle.mid_code.specs.Worked.{program, procedure}
use Rattle.mid_lines.specs.Flattened.{procedure_lines}
use Rattle.back_places.specs.declared.place.Place.TheVariants.{InRegister}
use Rattle.back_allocation.specs.declared.placing.RegisterPlaces.{RegisterPlaces}
use Rattle.back_images.specs.Laws.{emitted, emitted_start}

-- the bytes from 65 on that are below 68; three registers, and a frame of one word, for the return address
abbrev pub printing_procedure : MidProcedure
printing_procedure =
    procedure 0 3 1
    (perform (Constant 0 65) ∷ perform (Constant 1 1) ∷ perform (Constant 2 68)
    ∷ repeat Turn no_step (record { comparison = comparison.LessUnsigned; first = 0; second = 2 })
    (code_of (perform (Put 0) ∷ perform (Compute 0 which.Add 0 1) ∷ []))
    ∷ return_word 0 ∷ [])

-- a program of it alone
abbrev pub printing : MidProgram
printing = program (printing_procedure ∷ [])

-- each register in one of the machine, by no other name, and no slots
abbrev pub in_registers : List RegisterPlaces
in_registers = record { lines = (procedure_lines printing_procedure).lines; places = InRegister 12 ∷ InRegister 13 ∷ InRegister 14 ∷ []; parameters = []; slots = 0 } ∷ []

-- its image in an arena of 128 words, with no input, and as many instructions as it costs: those of an entry, three constants, four tests, three
-- turns and a return
abbrev pub machine_run : Ended
machine_run = run_of (emitted printing in_registers 0) (4 * emitted_start printing) 128 [] (20 + 3 * 6 + 4 * 12 + 3 * (8 + 10 + 2) + 14)

-- it prints three bytes, and halts with the word that is returned
abbrev pub BytesPrinted : Type 0
BytesPrinted = (machine_run.ending ≡ Halt 68) × (machine_run.at.printed ≡ 65 ∷ 66 ∷ 67 ∷ [])
