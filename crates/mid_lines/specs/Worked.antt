-- Worked programs: the lines of some programs of middle code that are written out, and what the machine does with them.
use Rattle.std.specs.Prelude.{◌≡◌, ℕ, pos, List, [], ◌∷◌}
use Rattle.mid_code.specs.declared.operation.Arithmetic.TheVariants as which
use Rattle.mid_code.specs.declared.operation.Comparison.TheVariants as comparison
use Rattle.mid_code.specs.declared.operation.Callee.TheVariants as callee
use Rattle.mid_code.specs.declared.operation.Operation.TheVariants.{Constant, Compute, Load, Store, Put, Call}
use Rattle.mid_code.specs.declared.program.MidProcedure.{MidProcedure}
use Rattle.mid_code.specs.State.{returns, halts, stuck}
use Rattle.mid_code.specs.Worked.{program, start, run, printing, calling, cutting, nesting, falling, cutting_nowhere, switching, lending, cutting_lent}
use Rattle.mid_lines.specs.declared.line.Line.TheVariants.{Do, Branch, Switch, Jump, Lay, Landed, GiveBack, Lend, GiveBackLent, Return, Halt}
use Rattle.mid_lines.specs.Lines.{lines_of}
use Rattle.mid_lines.specs.LineMeaning.{Stage, ended, begin, after}
use Rattle.mid_lines.specs.Flattened.{program_lines}

-- so many steps of a program's first procedure in an arena of so many words
abbrev pub steps_of : List MidProcedure → (steps words : ℕ) → Stage
steps_of procedures steps words = after (program_lines (program procedures)) steps (begin 0 [] (start words []))

-- the lines of a loop that prints three bytes
abbrev pub PrintingLines : Type 0
PrintingLines =
    lines_of (program_lines (program printing)) 0
    ≡ Do (Constant 0 65) ∷ Do (Constant 1 1) ∷ Do (Constant 2 68)
    ∷ Branch (record { comparison = comparison.LessUnsigned; first = 0; second = 2 }) 7
    ∷ Do (Put 0) ∷ Do (Compute 0 which.Add 0 1) ∷ Jump 3
    ∷ Return 0 ∷ []

-- An entry, three constants, four tests, three turns of three lines, and the return. The state, with what was printed and what it costs, is
-- that of the tree with turns enough.
abbrev pub Printed : Type 0
Printed = steps_of printing 18 8 ≡ ended (returns 68) (run printing 0 3 [] 8).state

-- a call, whose result is in the caller's register
abbrev pub Called : Type 0
Called =
    (lines_of (program_lines (program calling)) 0 ≡ Do (Constant 0 7) ∷ Do (Call 1 (callee.Procedure 1) (0 ∷ [])) ∷ Return 1 ∷ [])
    × (steps_of calling 7 8 ≡ ended (returns 14) (run calling 1 1 [] 8).state)

-- a cut out of a procedure and its own record to the landing of a record of its caller
abbrev pub CutAndLanded : Type 0
CutAndLanded =
    (lines_of (program_lines (program cutting)) 0
    ≡ Lay 0 1 5 ∷ Do (Call 2 (callee.Procedure 1) (0 ∷ [])) ∷ Halt 2 ∷ GiveBack 1 ∷ Jump 8 ∷ Landed 1 ∷ Halt 1 ∷ GiveBack 1 ∷ [])
    × (steps_of cutting 8 14 ≡ ended (halts 9) (run cutting 1 1 [] 14).state)

-- a cut that passes the landing of an inner record, and a landing that falls out
abbrev pub PassedTheInner : Type 0
PassedTheInner = steps_of nesting 9 8 ≡ ended (halts 7) (run nesting 0 0 [] 8).state

-- where the inside falls out, its record is given back, and the landing is jumped over
abbrev pub FellOut : Type 0
FellOut = steps_of falling 6 8 ≡ ended (halts 7) (run falling 0 0 [] 8).state

-- a cut to where no control record stands any more
abbrev pub CutNowhere : Type 0
CutNowhere = steps_of (cutting_nowhere ∷ []) 5 8 ≡ ended stuck (run (cutting_nowhere ∷ []) 0 0 [] 8).state

-- the same with an argument
abbrev pub steps_with : List MidProcedure → (argument steps words : ℕ) → Stage
steps_with procedures argument steps words = after (program_lines (program procedures)) steps (begin 0 (argument ∷ []) (start words []))

-- the lines of a switch, which goes to the code of a number and behind it to the end
abbrev pub SwitchingLines : Type 0
SwitchingLines =
    lines_of (program_lines (program switching)) 0
    ≡ Switch 0 (1 ∷ 3 ∷ []) ∷ Do (Constant 1 8) ∷ Jump 5 ∷ Do (Constant 1 9) ∷ Jump 5 ∷ Return 1 ∷ []

abbrev pub Switched : Type 0
Switched =
    (steps_with switching 1 5 8 ≡ ended (returns 9) (run switching 0 0 (1 ∷ []) 8).state)
    × (steps_with switching 2 2 8 ≡ ended stuck (run switching 0 0 (2 ∷ []) 8).state)

-- a block of as many words as the argument says, and the line that gives it back
abbrev pub Lent : Type 0
Lent =
    (lines_of (program_lines (program lending)) 0
    ≡ Lend 1 0 ∷ Do (Store 0 1 (pos 4)) ∷ Do (Load 2 1 (pos 4)) ∷ GiveBackLent ∷ Halt 2 ∷ [])
    × (steps_with lending 2 6 8 ≡ ended (halts 2) (run lending 0 0 (2 ∷ []) 8).state)

-- a cut to a block that is only lent
abbrev pub CutToLent : Type 0
CutToLent = steps_of (cutting_lent ∷ []) 4 8 ≡ ended stuck (run (cutting_lent ∷ []) 0 0 [] 8).state
