-- The integer of a character, and back, do what the meaning says of them.
use Rattle.std.proofs.Common.{◌≡◌, ℕ, ◌+◌, ◌*◌, ◌≤◌, ℤ, pos, true, List, [], ◌∷◌, Option, Some, None, refl, ap, ◌∙◌, arith}
use Rattle.std.specs.Prelude.{is_some}
use Rattle.lang_meaning.specs.declared.program.ProgramRows.{ProgramRows}
use Rattle.lang_meaning.specs.declared.primitive.Primitive.TheVariants.{CharCode, CodeChar}
use Rattle.lang_meaning.specs.Values.{Value, integer, character, in_range}
use Rattle.lang_meaning.specs.Objects.{integer_class}
use Rattle.lang_meaning.specs.State as meaning
use Rattle.lang_meaning.specs.Primitives.{result, domain_error, needs, byte_of}
use Rattle.mid_code.specs.declared.program.MidProcedure.{MidProcedure}
use Rattle.mid_code.specs.declared.operation.Arithmetic.TheVariants as which
use Rattle.mid_code.specs.declared.operation.Comparison.TheVariants as comparison
use Rattle.base.specs.Arithmetic.{shift_left, shift_right, sum32}
use Rattle.mid_code.specs.Words.{compares}
use Rattle.mid_code.specs.MidCode.{MidStep, return_word, code_of}
use Rattle.mid_code.specs.State.{MidState, MidOutcome}
use Rattle.mid_code.specs.Meaning.{Task}
use Rattle.mid_arena.specs.Tags.{integer_word, character_word}
use Rattle.mid_arena.specs.Places.{Places, word_of}
use Rattle.mid_arena.specs.FixedWords.{class_address}
use Rattle.mid_arena.specs.Represents.{Represents}
use Rattle.mid_arena.specs.Steps as steps
use Rattle.mid_arena.proofs.WordFacts.{in_range_is, byte_tested, byte_word, character_integer, character_of_integer}
use Rattle.mid_arena.proofs.Running.{constant_falls, compute_falls}
use Rattle.mid_arena.proofs.Doing.{alike_self, Run, goes_on, returns_value, test_passes, second_answers}
use Rattle.mid_arena.proofs.Conditions.{domain_error_run}
use Rattle.mid_arena.proofs.Checking.{tag_registers, integer_needed, character_needed}
use Rattle.mid_arena.proofs.Integers.{returns_integer}
use Rattle.mid_arena.proofs.Taking.{one_register, does_one}
use Rattle.mid_arena.proofs.Arguments.{character_word_there}
use Rattle.mid_arena.proofs.Entering.{InEveryFrame}

-- the lines behind the test of the argument
abbrev coding : List MidStep
coding =
    steps.constant 6 8 ∷ steps.compute 5 which.ShiftRight 0 6 ∷ steps.constant 6 2 ∷ steps.compute 5 which.ShiftLeft 5 6 ∷ return_word 5 ∷ []

abbrev decoding : List MidStep
decoding =
    steps.constant 6 6 ∷ steps.compute 5 which.ShiftLeft 0 6 ∷ steps.constant 6 15 ∷ steps.compute 5 which.Add 5 6 ∷ return_word 5 ∷ []

-- with the test that the integer is a byte
abbrev testing : List MidStep
testing =
    steps.constant 6 1024 ∷ steps.either (steps.comparing comparison.LessUnsigned 0 6) [] (steps.domain_error 0 (pos (class_address integer_class))) ∷ decoding

pub char_code_does : InEveryFrame CharCode
char_code_does = does_one CharCode refl (λ v a names program places z y procedures below n r are units.
    character_needed names program places z y r procedures below n (y.cost + 130 + 244 * 1) y.cost 0 a v (λ c. result (integer (pos c)) z) coding (one_register a)
    (omega arith) refl refl are.0 (omega arith)
    (λ c is small at.
    goes_on names program places z y procedures below constant_falls
    (goes_on names program places z y procedures below (compute_falls refl refl)
    (goes_on names program places z y procedures below constant_falls
    (goes_on names program places z y procedures below (compute_falls refl refl)
    (returns_integer names program places z y r procedures below n _ _ 5 _ (pos c) _ refl (ap (λ x. shift_left (shift_right x 8) 2) at ∙ character_integer c small)
    (in_range_is (pos c) (omega arith) (omega arith)) (omega arith)))))))

module _
    (names : List (List ℕ)) (program : ProgramRows) (places : Places) (z : meaning.State) (y : MidState) (r : Represents names program places z y)
    (procedures : List MidProcedure) (below : Task → MidState → MidOutcome)
  where
    -- the integer in register 0 is tested to be a byte, and the character of it is returned
    testing_run :
        (n budget k a : ℕ) (i : ℤ) (v : Value) → word_of places v ≡ Some a → a ≡ integer_word i → in_range i ≡ true → k + 180 ≤ budget
        → Run names program places z y procedures below n budget (needs (byte_of i) (domain_error v integer_class z) (λ c. result (character c) z))
        (code_of testing) (tag_registers a 0 (one_register a)) k
    testing_run n budget k a i v word at range cost = by (byte_of i) refl
      where
        tested : compares comparison.LessUnsigned a 1024 ≡ is_some (byte_of i)
        tested = ap (λ x. compares comparison.LessUnsigned x 1024) at ∙ byte_tested i range

        by :
            (o : Option ℕ) → byte_of i ≡ o
            → Run names program places z y procedures below n budget (needs (byte_of i) (domain_error v integer_class z) (λ c. result (character c) z))
            (code_of testing) (tag_registers a 0 (one_register a)) k
        by None e =
            rw e
            (goes_on names program places z y procedures below constant_falls
            (second_answers names program places z y procedures below refl refl (tested ∙ ap (λ o. is_some o) e)
            (domain_error_run names program places z y r procedures below n budget _ 0 a integer_class v z _ (omega arith) refl refl word (omega arith) (alike_self z) (omega (arith, cost)))))
        by (Some c) e =
            let is = byte_word i c e in
            let found : sum32 (shift_left a 6) 15 ≡ character_word c = ap (λ x. sum32 (shift_left x 6) 15) (at ∙ ap integer_word is.0) ∙ character_of_integer c is.1 in
            rw e
            (goes_on names program places z y procedures below constant_falls
            (test_passes names program places z y procedures below refl refl (tested ∙ ap (λ o. is_some o) e)
            (goes_on names program places z y procedures below constant_falls
            (goes_on names program places z y procedures below (compute_falls refl refl)
            (goes_on names program places z y procedures below constant_falls
            (goes_on names program places z y procedures below (compute_falls refl refl)
            (returns_value names program places z y procedures below r (ap (λ x. Some x) found) (character_word_there places c is.1) (alike_self z)
            (omega (arith, cost)))))))))

pub code_char_does : InEveryFrame CodeChar
code_char_does = does_one CodeChar refl (λ v a names program places z y procedures below n r are units.
    integer_needed names program places z y r procedures below n (y.cost + 130 + 244 * 1) y.cost 0 a v
    (λ i. needs (byte_of i) (domain_error v integer_class z) (λ c. result (character c) z)) testing (one_register a)
    (omega arith) refl refl are.0 (omega arith)
    (λ i is range at. testing_run names program places z y r procedures below n _ _ a i v are.0 at range (omega arith)))
