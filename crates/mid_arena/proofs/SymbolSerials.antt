-- The serial of a symbol does what the meaning says of it.
use Rattle.std.proofs.Common.{◌≡◌, ℕ, ◌+◌, ◌%◌, ◌^◌, ◌<◌, ◌≤◌, pos, List, [], ◌∷◌, Option, Some, None, refl, arith}
use Rattle.std.specs.Prelude.{negsuc}
use Rattle.lang_meaning.specs.declared.program.ProgramRows.{ProgramRows}
use Rattle.lang_meaning.specs.declared.primitive.Primitive.TheVariants.{SymbolSerial}
use Rattle.lang_meaning.specs.Values.{Value, integer, nil}
use Rattle.lang_meaning.specs.State as meaning
use Rattle.lang_meaning.specs.Primitives.{result, Spelt, by_name, by_serial}
use Rattle.mid_code.specs.declared.program.MidProcedure.{MidProcedure}
use Rattle.mid_code.specs.declared.operation.Comparison.TheVariants.{Equal, Different}
use Rattle.mid_code.specs.MidCode.{MidStep, return_word, code_of}
use Rattle.mid_code.specs.State.{MidState, MidOutcome, first_registers}
use Rattle.mid_code.specs.Meaning.{Task}
use Rattle.mid_arena.specs.Tags.{nil_word, fresh_header}
use Rattle.mid_arena.specs.Places.{Places, word_of}
use Rattle.mid_arena.specs.Represents.{Represents}
use Rattle.mid_arena.specs.Steps as steps
use Rattle.mid_arena.proofs.Arguments.{word_told, length_word_is}
use Rattle.mid_arena.proofs.Running.{constant_falls, load_falls, address_up}
use Rattle.mid_arena.proofs.Doing.{alike_self, Run, goes_on, returns_value, test_fails, first_answers}
use Rattle.mid_arena.proofs.NeedingSymbols.{SymbolFound, is_nil, is_named, is_fresh, header_address, symbol_needed}
use Rattle.mid_arena.proofs.Taking.{does_one}
use Rattle.mid_arena.proofs.Registers.{last_two}
use Rattle.mid_arena.proofs.Entering.{InEveryFrame}

-- what the meaning gives for a symbol
abbrev serial_of : Spelt → Value
serial_of (by_name name) = nil
serial_of (by_serial serial) = integer (pos (serial % 2 ^ 29))

-- the code behind the test that the argument is a symbol
abbrev serial_lines : List MidStep
serial_lines =
    steps.constant 5 nil_word ∷ steps.return_if (steps.comparing Equal 0 5) 5 ∷ steps.load 7 0 (negsuc 1) ∷ steps.constant 6 fresh_header
    ∷ steps.return_if (steps.comparing Different 7 6) 5 ∷ steps.load 5 0 (pos 2) ∷ return_word 5 ∷ []

module _
    (names : List (List ℕ)) (program : ProgramRows) (places : Places) (z : meaning.State) (y : MidState) (r : Represents names program places z y)
    (procedures : List MidProcedure) (below : Task → MidState → MidOutcome)
  where
    -- the word of nil is nil's own; that of another symbol leads to a header, and to a serial behind it where the symbol has no name
    serial_run :
        (n budget k w : ℕ) (v : Value) (s : Spelt) (a b : Option ℕ) → word_of places v ≡ Some w → SymbolFound y.arena v w s → k + 96 ≤ budget
        → Run names program places z y procedures below n budget (result (serial_of s) z) (code_of serial_lines)
        (Some w ∷ None ∷ None ∷ None ∷ None ∷ None ∷ a ∷ b ∷ []) k
    serial_run n budget k w v s a b word found cost = by found
      where
        small : w < 2 ^ 32
        small = word_told names program places z y r v w word

        by :
            SymbolFound y.arena v w s
            → Run names program places z y procedures below n budget (result (serial_of s) z) (code_of serial_lines)
            (Some w ∷ None ∷ None ∷ None ∷ None ∷ None ∷ a ∷ b ∷ []) k
        by (is_nil v_is spelt same) =
            rw spelt
            (goes_on names program places z y procedures below constant_falls
            (first_answers names program places z y procedures below refl refl same
            (returns_value names program places z y procedures below r refl refl (alike_self z) (omega (arith, cost)))))
        by (is_named name v_is spelt other tag at) =
            rw spelt
            (goes_on names program places z y procedures below constant_falls
            (test_fails names program places z y procedures below refl refl other
            (goes_on names program places z y procedures below (load_falls refl (header_address w small tag) at)
            (goes_on names program places z y procedures below constant_falls
            (first_answers names program places z y procedures below refl refl refl
            (returns_value names program places z y procedures below r refl refl (alike_self z) (omega (arith, cost))))))))
        by (is_fresh serial spelt other tag low at behind) =
            rw spelt
            (goes_on names program places z y procedures below constant_falls
            (test_fails names program places z y procedures below refl refl other
            (goes_on names program places z y procedures below (load_falls refl (header_address w small tag) at)
            (goes_on names program places z y procedures below constant_falls
            (test_fails names program places z y procedures below refl refl refl
            (goes_on names program places z y procedures below (load_falls refl (address_up w 2 (omega (arith, low))) behind)
            (returns_value names program places z y procedures below r refl (length_word_is places (serial % 2 ^ 29) (omega arith)) (alike_self z) (omega (arith, cost)))))))))

pub symbol_serial_does : InEveryFrame SymbolSerial
symbol_serial_does = does_one SymbolSerial refl (λ v w names program places z y procedures below n r are units.
    symbol_needed names program places z y r procedures below n (y.cost + 130 + 244) y.cost 0 w v (λ s. result (serial_of s) z) serial_lines
    (first_registers 8 (w ∷ [])) (omega arith) refl refl are.0 (omega arith)
    (λ s rs k spelt found scratched paid.
    let last = last_two scratched in
    rw last.same (serial_run names program places z y r procedures below n (y.cost + 130 + 244) k w v s last.six last.seven are.0 found (omega (arith, paid)))))
