-- Quotients rounded down and their remainders do what the meaning says of them.
use Rattle.std.proofs.Common.{◌≡◌, ℕ, ◌+◌, ◌*◌, ◌^◌, ◌≤◌, ℤ, pos, Bool, true, false, List, [], ◌∷◌, refl, sym, ap, ◌∙◌, arith}
use Rattle.std.specs.Prelude.{not}
use Rattle.lang_meaning.specs.declared.program.ProgramRows.{ProgramRows}
use Rattle.lang_meaning.specs.declared.primitive.Primitive.TheVariants.{Divide, Modulo}
use Rattle.lang_meaning.specs.Values.{in_range, int_equal}
use Rattle.lang_meaning.specs.Objects.{division_by_zero_class, integer_overflow_class}
use Rattle.lang_meaning.specs.State as meaning
use Rattle.lang_meaning.specs.Primitives.{fails, integer_result, floor_quotient, floor_remainder, division}
use Rattle.mid_code.specs.declared.program.MidProcedure.{MidProcedure}
use Rattle.mid_code.specs.declared.operation.Arithmetic.TheVariants as which
use Rattle.mid_code.specs.declared.operation.Comparison.TheVariants as comparison
use Rattle.base.specs.Arithmetic.{sum32, product32, difference32, quotient_signed, remainder_signed}
use Rattle.mid_code.specs.MidCode.{MidStep, return_word, code_of}
use Rattle.mid_code.specs.State.{MidState, MidOutcome}
use Rattle.mid_code.specs.Meaning.{Task}
use Rattle.mid_arena.specs.Tags.{integer_word}
use Rattle.mid_arena.specs.Places.{Places}
use Rattle.mid_arena.specs.FixedWords.{class_address}
use Rattle.mid_arena.specs.Represents.{Represents}
use Rattle.mid_arena.specs.Steps as steps
use Rattle.mid_arena.proofs.WordFacts.{integer_is_zero}
use Rattle.mid_arena.proofs.ArithmeticDivision.{short_correction_word, quotient_number, correction_is, short_correction_is, quotient_in_range, quotient_is, modulo_is, floor_remainder_in_range}
use Rattle.mid_arena.proofs.Running.{constant_falls, compute_falls, compute_known}
use Rattle.mid_arena.proofs.Doing.{Run, goes_on}
use Rattle.mid_arena.proofs.Conditions.{division_by_zero}
use Rattle.mid_arena.proofs.Taking.{does_two}
use Rattle.mid_arena.proofs.Integers.{integer_registers, integers_needed, signals_unless, unless_overflow, returns_integer}
use Rattle.mid_arena.proofs.Entering.{InEveryFrame}

-- the quotient and the remainder as the code has them
module _ (i j : ℤ) (g : in_range i ≡ true) (h : in_range j ≡ true) (some : int_equal j (pos 0) ≡ false) where
  quotient_found :
      difference32 (quotient_signed (integer_word i) (integer_word j)) (short_correction_word (integer_word i) (integer_word j))
      ≡ quotient_number (integer_word i) (integer_word j)
  quotient_found =
      ap (λ x. difference32 (quotient_signed (integer_word i) (integer_word j)) x) (short_correction_is i j g h some ∙ sym (correction_is i j g h some))

  remainder_found :
      sum32 (remainder_signed (integer_word i) (integer_word j)) (product32 (short_correction_word (integer_word i) (integer_word j)) (integer_word j))
      ≡ integer_word (floor_remainder i j)
  remainder_found =
      ap (λ x. sum32 (remainder_signed (integer_word i) (integer_word j)) (product32 x (integer_word j)))
      (short_correction_is i j g h some ∙ sym (correction_is i j g h some))
      ∙ modulo_is i j g h some

-- the lines that the second integer is not zero
abbrev need_divisor : List MidStep → List MidStep
need_divisor rest =
    steps.constant 6 0 ∷ steps.signal_unless (steps.comparing comparison.Different 1 6) (pos (class_address division_by_zero_class)) ∷ rest

abbrev dividing : List MidStep
dividing =
    steps.compute 3 which.Divide 0 1 ∷ steps.compute 4 which.Remainder 0 1 ∷ steps.compute 5 which.MultiplyHigh 4 1 ∷ steps.compute 5 which.Less 5 6
    ∷ steps.compute 3 which.Subtract 3 5 ∷ steps.constant 6 (2 ^ 29)
    ∷ steps.signal_unless (steps.comparing comparison.Different 3 6) (pos (class_address integer_overflow_class))
    ∷ steps.constant 6 2 ∷ steps.compute 3 which.ShiftLeft 3 6 ∷ return_word 3 ∷ []

abbrev taking_remainder : List MidStep
taking_remainder =
    steps.compute 4 which.Remainder 0 1 ∷ steps.compute 5 which.MultiplyHigh 4 1 ∷ steps.compute 5 which.Less 5 6 ∷ steps.compute 5 which.Multiply 5 1
    ∷ steps.compute 4 which.Add 4 5 ∷ return_word 4 ∷ []

module _
    (names : List (List ℕ)) (program : ProgramRows) (places : Places) (z : meaning.State) (y : MidState) (r : Represents names program places z y)
    (procedures : List MidProcedure) (below : Task → MidState → MidOutcome)
  where
    -- the second integer is not zero, and the code behind goes on, or the condition for that is signalled
    divisor_needed :
        (n budget k : ℕ) (i j : ℤ) (f : ℤ → ℤ → ℤ) (rest : List MidStep) → in_range j ≡ true → k + 148 ≤ budget
        → (int_equal j (pos 0) ≡ false
        → Run names program places z y procedures below n budget (integer_result (f i j) z) (code_of rest) (integer_registers (integer_word i) (integer_word j)) (k + 6 + 12 + 2))
        → Run names program places z y procedures below n budget (division f i j z) (code_of (need_divisor rest)) (integer_registers (integer_word i) (integer_word j)) k
    divisor_needed n budget k i j f rest range cost more =
        goes_on names program places z y procedures below constant_falls
        (signals_unless names program places z y r procedures below n budget (k + 6) (integer_word j) 0 division_by_zero_class (division f i j z)
        (steps.comparing comparison.Different 1 6) rest (integer_registers (integer_word i) (integer_word j)) refl division_by_zero refl refl (omega (arith, cost))
        (λ e. by_true (int_equal j (pos 0)) refl (sym (ap not (integer_is_zero j range)) ∙ e))
        (λ e. by_false (int_equal j (pos 0)) refl (sym (ap not (integer_is_zero j range)) ∙ e)))
      where
        by_true :
            (zero : Bool) → int_equal j (pos 0) ≡ zero → not zero ≡ true
            → Run names program places z y procedures below n budget (division f i j z) (code_of rest) (integer_registers (integer_word i) (integer_word j)) (k + 6 + 12 + 2)
        by_true true e h = absurd (cc h)
        by_true false e h = rw e (more e)

        by_false : (zero : Bool) → int_equal j (pos 0) ≡ zero → not zero ≡ false → division f i j z ≡ fails division_by_zero_class [] z
        by_false true e h = rw e refl
        by_false false e h = absurd (cc h)

pub divide_does : InEveryFrame Divide
divide_does = does_two Divide refl (λ v w a b names program places z y procedures below n r are units.
    integers_needed names program places z y r procedures below n (y.cost + 130 + 244 * 2) y.cost a b v w (λ i j z'. division floor_quotient i j z') (need_divisor dividing)
    are.0 are.1.0 (omega arith)
    (λ i j g h.
    divisor_needed names program places z y r procedures below n _ _ i j floor_quotient dividing h (omega arith)
    (λ some.
    goes_on names program places z y procedures below (compute_falls refl refl)
    (goes_on names program places z y procedures below (compute_falls refl refl)
    (goes_on names program places z y procedures below (compute_falls refl refl)
    (goes_on names program places z y procedures below (compute_falls refl refl)
    (goes_on names program places z y procedures below (compute_known refl refl (quotient_found i j g h some))
    (goes_on names program places z y procedures below constant_falls
    (unless_overflow names program places z y r procedures below n _ _ _ _ (floor_quotient i j) (steps.comparing comparison.Different 3 6)
    (steps.constant 6 2 ∷ steps.compute 3 which.ShiftLeft 3 6 ∷ return_word 3 ∷ []) _ refl refl refl (quotient_in_range i j g h some) (omega arith)
    (λ range.
    goes_on names program places z y procedures below constant_falls
    (goes_on names program places z y procedures below (compute_falls refl refl)
    (returns_integer names program places z y r procedures below n _ _ 3 _ (floor_quotient i j) _ refl (quotient_is i j g h some) range (omega arith)))))))))))))

pub modulo_does : InEveryFrame Modulo
modulo_does = does_two Modulo refl (λ v w a b names program places z y procedures below n r are units.
    integers_needed names program places z y r procedures below n (y.cost + 130 + 244 * 2) y.cost a b v w (λ i j z'. division floor_remainder i j z') (need_divisor taking_remainder)
    are.0 are.1.0 (omega arith)
    (λ i j g h.
    divisor_needed names program places z y r procedures below n _ _ i j floor_remainder taking_remainder h (omega arith)
    (λ some.
    goes_on names program places z y procedures below (compute_falls refl refl)
    (goes_on names program places z y procedures below (compute_falls refl refl)
    (goes_on names program places z y procedures below (compute_falls refl refl)
    (goes_on names program places z y procedures below (compute_falls refl refl)
    (goes_on names program places z y procedures below (compute_known refl refl (remainder_found i j g h some))
    (rw (floor_remainder_in_range i j h some)
    (returns_integer names program places z y r procedures below n _ _ 4 _ (floor_remainder i j) _ refl refl (floor_remainder_in_range i j h some) (omega arith))))))))))
