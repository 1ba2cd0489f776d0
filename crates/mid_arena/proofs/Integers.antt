-- Comparisons, sums, differences and products of integers do what the meaning says of them.
use Rattle.std.proofs.Common.{◌≡◌, ℕ, ◌+◌, ◌*◌, ◌≤◌, ℤ, pos, Bool, true, false, List, [], ◌∷◌, ◌++◌, length, Some, refl, sym, ap, ◌∙◌, arith}
use Rattle.std.specs.Prelude.{◌==◌, ◌+ℤ◌, ◌-ℤ◌, ◌*ℤ◌, int_lt, int_le, not}
use Rattle.lang_meaning.specs.declared.program.ProgramRows.{ProgramRows}
use Rattle.lang_meaning.specs.declared.primitive.Primitive.TheVariants.{Add, Subtract, Multiply, NumberEqual, NumberNotEqual, NumberLess, NumberAtMost, NumberGreater, NumberAtLeast}
use Rattle.lang_meaning.specs.Values.{Value, integer, in_range, int_equal}
use Rattle.lang_meaning.specs.Objects.{integer_overflow_class}
use Rattle.lang_meaning.specs.State as meaning
use Rattle.lang_meaning.specs.Primitives.{Answer, result, fails, an_integer, integer_result, of_integers, says}
use Rattle.mid_code.specs.declared.program.MidProcedure.{MidProcedure}
use Rattle.mid_code.specs.declared.operation.Arithmetic.TheVariants as which
use Rattle.mid_code.specs.declared.operation.Comparison.{Comparison}
use Rattle.mid_code.specs.declared.operation.Comparison.TheVariants as comparison
use Rattle.mid_code.specs.declared.operation.Test.{Test}
use Rattle.mid_code.specs.Words.{compares}
use Rattle.mid_code.specs.MidCode.{MidStep, return_word, code_of}
use Rattle.mid_code.specs.State.{Registers, MidState, MidOutcome, register}
use Rattle.mid_code.specs.Meaning.{Task}
use Rattle.mid_arena.specs.Tags.{integer_word}
use Rattle.mid_arena.specs.Places.{Places, word_of}
use Rattle.mid_arena.specs.FixedWords.{class_address}
use Rattle.mid_arena.specs.Represents.{Represents}
use Rattle.mid_arena.specs.Steps as steps
use Rattle.mid_arena.specs.declared.line.Line.TheVariants as line
use Rattle.mid_arena.proofs.WordFacts.{integers_compare_equal, integers_compare_different, integers_compare_less, integers_compare_at_least, integers_compare_at_most, not_below}
use Rattle.mid_arena.proofs.ArithmeticSum.{sum_is, sum_in_range, difference_is, difference_in_range}
use Rattle.mid_arena.proofs.ArithmeticProduct.{product_is, product_in_range}
use Rattle.mid_arena.proofs.Running.{constant_falls, compute_falls}
use Rattle.mid_arena.proofs.Doing.{alike_self, Run, goes_on, returns_value, test_passes, second_answers}
use Rattle.mid_arena.proofs.Conditions.{PlainCondition, integer_overflow, signal_run}
use Rattle.mid_arena.proofs.Checking.{tag_registers, integer_needed}
use Rattle.mid_arena.proofs.Taking.{two_registers, does_two}
use Rattle.mid_arena.proofs.Saying.{says_run}
use Rattle.mid_arena.proofs.Arguments.{integer_word_there}
use Rattle.mid_arena.specs.Steps.{steps_of}
use Rattle.mid_arena.proofs.Entering.{InEveryFrame}

-- the registers where both arguments are integers
abbrev pub integer_registers : ℕ → ℕ → Registers
integer_registers a b = tag_registers b 0 (tag_registers a 0 (two_registers a b))

module _
    (names : List (List ℕ)) (program : ProgramRows) (places : Places) (z : meaning.State) (y : MidState) (r : Represents names program places z y)
    (procedures : List MidProcedure) (below : Task → MidState → MidOutcome)
  where
    -- both arguments are tested, and the code behind goes on with the words of two integers
    pub integers_needed :
        (n budget k a b : ℕ) (v w : Value) (next : ℤ → ℤ → meaning.State → Answer) (rest : List MidStep) → word_of places v ≡ Some a → word_of places w ≡ Some b
        → k ≤ budget
        → ((i j : ℤ) → in_range i ≡ true → in_range j ≡ true
        → Run names program places z y procedures below n budget (next i j z) (code_of rest) (integer_registers (integer_word i) (integer_word j))
        (k + 6 + 10 + 6 + 12 + 2 + 6 + 10 + 6 + 12 + 2))
        → Run names program places z y procedures below n budget (of_integers next (v ∷ w ∷ []) z) (code_of (steps_of line.NeedIntegers ++ rest)) (two_registers a b) k
    integers_needed n budget k a b v w next rest first second cost more =
        integer_needed names program places z y r procedures below n budget k 0 a v (λ i. an_integer w z (λ j. next i j z))
        (steps.need_integer 1 ++ rest) (two_registers a b) (omega arith) refl refl first (omega (arith, cost))
        (λ i i_is i_range i_word.
        integer_needed names program places z y r procedures below n budget (k + 6 + 10 + 6 + 12 + 2) 1 b w (λ j. next i j z)
        rest (tag_registers a 0 (two_registers a b)) (omega arith) refl refl second (omega (arith, cost))
        (λ j j_is j_range j_word. rw (i_word, j_word) (more i j i_range j_range)))

-- comparisons

-- what a test says of the words of two integers in registers 0 and 1
pub record SaysOf (t : Test) (holds : ℤ → ℤ → Bool) : Type 0 where
  pub first_other : 5 ≡ t.first → ⊥
  pub second_other : 5 ≡ t.second → ⊥
  pub first : ℕ → ℕ → ℕ
  pub second : ℕ → ℕ → ℕ
  pub first_there : (a b : ℕ) → register t.first (integer_registers a b) ≡ Some (first a b)
  pub second_there : (a b : ℕ) → register t.second (integer_registers a b) ≡ Some (second a b)
  pub tells :
      (i j : ℤ) → in_range i ≡ true → in_range j ≡ true
      → compares t.comparison (first (integer_word i) (integer_word j)) (second (integer_word i) (integer_word j)) ≡ holds i j

-- of the first and the second, and of the second and the first
in_order :
    (how : Comparison) (holds : ℤ → ℤ → Bool)
    → ((i j : ℤ) → in_range i ≡ true → in_range j ≡ true → compares how (integer_word i) (integer_word j) ≡ holds i j)
    → SaysOf (steps.comparing how 0 1) holds
in_order how holds tells = record {
  first_other = λ e. omega arith;
  second_other = λ e. omega arith;
  first = λ a b. a;
  second = λ a b. b;
  first_there = λ a b. refl;
  second_there = λ a b. refl;
  tells = tells;
}

turned :
    (how : Comparison) (holds : ℤ → ℤ → Bool)
    → ((i j : ℤ) → in_range i ≡ true → in_range j ≡ true → compares how (integer_word j) (integer_word i) ≡ holds i j)
    → SaysOf (steps.comparing how 1 0) holds
turned how holds tells = record {
  first_other = λ e. omega arith;
  second_other = λ e. omega arith;
  first = λ a b. b;
  second = λ a b. a;
  first_there = λ a b. refl;
  second_there = λ a b. refl;
  tells = tells;
}

-- the code of a comparison
comparison_run :
    (names : List (List ℕ)) (program : ProgramRows) (places : Places) (z : meaning.State) (y : MidState) (procedures : List MidProcedure)
    (below : Task → MidState → MidOutcome) (n : ℕ) (v w : Value) (a b : ℕ) (t : Test) (holds : ℤ → ℤ → Bool) → SaysOf t holds
    → Represents names program places z y → word_of places v ≡ Some a → word_of places w ≡ Some b
    → Run names program places z y procedures below n (y.cost + 130 + 244 * 2) (of_integers (λ i j. says (holds i j)) (v ∷ w ∷ []) z)
    (code_of (steps_of line.NeedIntegers ++ steps.says t)) (two_registers a b) y.cost
comparison_run names program places z y procedures below n v w a b t holds s r first second =
    integers_needed names program places z y r procedures below n (y.cost + 130 + 244 * 2) y.cost a b v w (λ i j. says (holds i j)) (steps.says t) first second (omega arith)
    (λ i j i_range j_range.
    says_run names program places z y r procedures below n (y.cost + 130 + 244 * 2) (y.cost + 6 + 10 + 6 + 12 + 2 + 6 + 10 + 6 + 12 + 2)
    (s.first (integer_word i) (integer_word j)) (s.second (integer_word i) (integer_word j)) (holds i j) t z (integer_registers (integer_word i) (integer_word j)) refl
    s.first_other s.second_other (s.first_there (integer_word i) (integer_word j)) (s.second_there (integer_word i) (integer_word j)) (s.tells i j i_range j_range)
    (alike_self z) (omega arith))

pub number_equal_does : InEveryFrame NumberEqual
number_equal_does = does_two NumberEqual refl (λ v w a b names program places z y procedures below n r are units.
    comparison_run names program places z y procedures below n v w a b _ int_equal (in_order comparison.Equal int_equal integers_compare_equal) r are.0 are.1.0)

pub number_not_equal_does : InEveryFrame NumberNotEqual
number_not_equal_does = does_two NumberNotEqual refl (λ v w a b names program places z y procedures below n r are units.
    comparison_run names program places z y procedures below n v w a b _ (λ i j. not (int_equal i j)) (in_order comparison.Different _ integers_compare_different) r are.0 are.1.0)

pub number_less_does : InEveryFrame NumberLess
number_less_does = does_two NumberLess refl (λ v w a b names program places z y procedures below n r are units.
    comparison_run names program places z y procedures below n v w a b _ int_lt (in_order comparison.Less int_lt integers_compare_less) r are.0 are.1.0)

pub number_at_most_does : InEveryFrame NumberAtMost
number_at_most_does = does_two NumberAtMost refl (λ v w a b names program places z y procedures below n r are units.
    comparison_run names program places z y procedures below n v w a b _ int_le (turned comparison.AtLeast int_le integers_compare_at_most) r are.0 are.1.0)

pub number_greater_does : InEveryFrame NumberGreater
number_greater_does = does_two NumberGreater refl (λ v w a b names program places z y procedures below n r are units.
    comparison_run names program places z y procedures below n v w a b _ (λ i j. int_lt j i)
    (turned comparison.Less (λ i j. int_lt j i) (λ i j g h. integers_compare_less j i h g)) r are.0 are.1.0)

pub number_at_least_does : InEveryFrame NumberAtLeast
number_at_least_does = does_two NumberAtLeast refl (λ v w a b names program places z y procedures below n r are units.
    comparison_run names program places z y procedures below n v w a b _ (λ i j. int_le j i)
    (in_order comparison.AtLeast (λ i j. int_le j i) (λ i j g h. integers_compare_at_least i j g h ∙ not_below i j)) r are.0 are.1.0)

-- sums, differences and products

-- the lines that a result in register 3 is in range where registers 4 and 5 are equal, and returned
abbrev ending : List MidStep
ending = steps.signal_unless (steps.comparing comparison.Equal 4 5) (pos (class_address integer_overflow_class)) ∷ return_word 3 ∷ []

module _
    (names : List (List ℕ)) (program : ProgramRows) (places : Places) (z : meaning.State) (y : MidState) (r : Represents names program places z y)
    (procedures : List MidProcedure) (below : Task → MidState → MidOutcome)
  where
    -- a test holds, and the code behind goes on, or a condition is signalled
    pub signals_unless :
        (n budget k a b class : ℕ) (answer : Answer) (t : Test) (rest : List MidStep) (rs : Registers) → length rs ≡ 8 → PlainCondition class
        → register t.first rs ≡ Some a → register t.second rs ≡ Some b → k + 142 + 250 * z.units ≤ budget + 250 * (z.units + 3)
        → (compares t.comparison a b ≡ true → Run names program places z y procedures below n budget answer (code_of rest) rs (k + 12 + 2))
        → (compares t.comparison a b ≡ false → answer ≡ fails class [] z)
        → Run names program places z y procedures below n budget answer (code_of (steps.signal_unless t (pos (class_address class)) ∷ rest)) rs k
    signals_unless n budget k a b class answer t rest rs size plain first second cost holds wrong = by (compares t.comparison a b) refl
      where
        by :
            (one : Bool) → compares t.comparison a b ≡ one
            → Run names program places z y procedures below n budget answer (code_of (steps.signal_unless t (pos (class_address class)) ∷ rest)) rs k
        by true e = test_passes names program places z y procedures below first second e (holds e)
        by false e =
            second_answers names program places z y procedures below first second e
            (rw (wrong e) (signal_run names program places z y r procedures below n budget (k + 12) class z rs size plain (alike_self z) (omega (arith, cost))))

    -- a test says whether a number is in range, and the code behind goes on with the number, or an overflow is signalled
    pub unless_overflow :
        (n budget k a b : ℕ) (m : ℤ) (t : Test) (rest : List MidStep) (rs : Registers) → length rs ≡ 8
        → register t.first rs ≡ Some a → register t.second rs ≡ Some b → compares t.comparison a b ≡ in_range m → k + 142 ≤ budget
        → (in_range m ≡ true → Run names program places z y procedures below n budget (result (integer m) z) (code_of rest) rs (k + 12 + 2))
        → Run names program places z y procedures below n budget (integer_result m z)
        (code_of (steps.signal_unless t (pos (class_address integer_overflow_class)) ∷ rest)) rs k
    unless_overflow n budget k a b m t rest rs size first second tells cost more =
        signals_unless n budget k a b integer_overflow_class (integer_result m z) t rest rs size integer_overflow first second (omega (arith, cost))
        (λ e. let range : in_range m ≡ true = sym tells ∙ e in rw range (more range))
        (λ e. let range : in_range m ≡ false = sym tells ∙ e in rw range refl)

    -- the word of an integer in range is returned
    pub returns_integer :
        (n budget k at w : ℕ) (m : ℤ) (rs : Registers) → register at rs ≡ Some w → w ≡ integer_word m → in_range m ≡ true → k + 14 ≤ budget
        → Run names program places z y procedures below n budget (result (integer m) z) (code_of (return_word at ∷ [])) rs k
    returns_integer n budget k at w m rs held word range cost =
        returns_value names program places z y procedures below r (held ∙ ap (λ x. Some x) word) (integer_word_there places m range) (alike_self z) (omega (arith, cost))

    -- a number is returned where its word is in register 3 and registers 4 and 5 tell that it is in range
    ending_run :
        (n budget k x a b : ℕ) (m : ℤ) (rs : Registers) → length rs ≡ 8 → register 3 rs ≡ Some x → register 4 rs ≡ Some a → register 5 rs ≡ Some b
        → x ≡ integer_word m → (a == b) ≡ in_range m → k + 142 ≤ budget
        → Run names program places z y procedures below n budget (integer_result m z) (code_of ending) rs k
    ending_run n budget k x a b m rs size held first second word tells cost =
        unless_overflow n budget k a b m _ (return_word 3 ∷ []) rs size first second tells cost
        (λ range. returns_integer n budget _ 3 x m rs held word range (omega (arith, cost)))

-- the lines behind the tests of the arguments
abbrev adding : List MidStep
adding = steps.compute 3 which.Add 0 1 ∷ steps.constant 6 0 ∷ steps.compute 4 which.Less 1 6 ∷ steps.compute 5 which.Less 3 0 ∷ ending

abbrev subtracting : List MidStep
subtracting = steps.compute 3 which.Subtract 0 1 ∷ steps.constant 6 0 ∷ steps.compute 4 which.Less 1 6 ∷ steps.compute 5 which.Less 0 3 ∷ ending

abbrev multiplying : List MidStep
multiplying =
    steps.constant 6 2 ∷ steps.compute 3 which.ShiftRightSigned 0 6 ∷ steps.compute 4 which.MultiplyHigh 3 1 ∷ steps.compute 3 which.Multiply 3 1
    ∷ steps.constant 6 31 ∷ steps.compute 5 which.ShiftRightSigned 3 6 ∷ ending

pub add_does : InEveryFrame Add
add_does = does_two Add refl (λ v w a b names program places z y procedures below n r are units.
    integers_needed names program places z y r procedures below n (y.cost + 130 + 244 * 2) y.cost a b v w (λ i j z'. integer_result (i +ℤ j) z') adding are.0 are.1.0 (omega arith)
    (λ i j i_range j_range.
    goes_on names program places z y procedures below (compute_falls refl refl)
    (goes_on names program places z y procedures below constant_falls
    (goes_on names program places z y procedures below (compute_falls refl refl)
    (goes_on names program places z y procedures below (compute_falls refl refl)
    (ending_run names program places z y r procedures below n _ _ _ _ _ (i +ℤ j) _ refl refl refl refl (sum_is i j) (sum_in_range i j i_range j_range) (omega arith)))))))

pub subtract_does : InEveryFrame Subtract
subtract_does = does_two Subtract refl (λ v w a b names program places z y procedures below n r are units.
    integers_needed names program places z y r procedures below n (y.cost + 130 + 244 * 2) y.cost a b v w (λ i j z'. integer_result (i -ℤ j) z') subtracting are.0 are.1.0 (omega arith)
    (λ i j i_range j_range.
    goes_on names program places z y procedures below (compute_falls refl refl)
    (goes_on names program places z y procedures below constant_falls
    (goes_on names program places z y procedures below (compute_falls refl refl)
    (goes_on names program places z y procedures below (compute_falls refl refl)
    (ending_run names program places z y r procedures below n _ _ _ _ _ (i -ℤ j) _ refl refl refl refl (difference_is i j) (difference_in_range i j i_range j_range)
    (omega arith)))))))

pub multiply_does : InEveryFrame Multiply
multiply_does = does_two Multiply refl (λ v w a b names program places z y procedures below n r are units.
    integers_needed names program places z y r procedures below n (y.cost + 130 + 244 * 2) y.cost a b v w (λ i j z'. integer_result (i *ℤ j) z') multiplying are.0 are.1.0 (omega arith)
    (λ i j i_range j_range.
    goes_on names program places z y procedures below constant_falls
    (goes_on names program places z y procedures below (compute_falls refl refl)
    (goes_on names program places z y procedures below (compute_falls refl refl)
    (goes_on names program places z y procedures below (compute_falls refl refl)
    (goes_on names program places z y procedures below constant_falls
    (goes_on names program places z y procedures below (compute_falls refl refl)
    (ending_run names program places z y r procedures below n _ _ _ _ _ (i *ℤ j) _ refl refl refl refl (product_is i j i_range) (product_in_range i j i_range j_range)
    (omega arith)))))))))
