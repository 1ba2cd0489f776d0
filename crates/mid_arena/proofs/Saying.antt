-- The code that returns t where a test holds and nil where it does not, beside an answer that says so.
use Rattle.std.proofs.Common.{◌≡◌, ℕ, ◌+◌, ◌*◌, ◌≤◌, Bool, true, false, List, [], ◌∷◌, length, Some, refl, ◌∙◌, arith}
use Rattle.std.specs.Prelude.{slice_set}
use Rattle.lang_meaning.specs.declared.program.ProgramRows.{ProgramRows}
use Rattle.lang_meaning.specs.State as meaning
use Rattle.lang_meaning.specs.Primitives.{says}
use Rattle.mid_code.specs.declared.program.MidProcedure.{MidProcedure}
use Rattle.mid_code.specs.declared.operation.Test.{Test}
use Rattle.mid_code.specs.Words.{compares}
use Rattle.mid_code.specs.MidCode.{return_word, code_of}
use Rattle.mid_code.specs.State.{Registers, MidState, MidOutcome, register}
use Rattle.mid_code.specs.Meaning.{Task}
use Rattle.mid_arena.specs.Tags.{nil_word}
use Rattle.mid_arena.specs.Places.{Places}
use Rattle.mid_arena.specs.FixedWords.{true_address}
use Rattle.mid_arena.specs.Represents.{Represents}
use Rattle.mid_arena.specs.Steps as steps
use Rattle.mid_arena.proofs.Running.{constant_falls, load_falls, address_up}
use Rattle.mid_arena.proofs.Doing.{SameObjects, Run, goes_on, returns_value, test_fails, first_answers}
use Rattle.mid_arena.proofs.Registers.{register_beside, register_here, same_size}

module _
    (names : List (List ℕ)) (program : ProgramRows) (places : Places) (z : meaning.State) (y : MidState) (r : Represents names program places z y)
    (procedures : List MidProcedure) (below : Task → MidState → MidOutcome)
  where
    -- t or nil is returned, as a test says of the words in two registers other than 5
    pub says_run :
        (n budget k a b : ℕ) (holds : Bool) (t : Test) (z' : meaning.State) (rs : Registers) → length rs ≡ 8 → (5 ≡ t.first → ⊥) → (5 ≡ t.second → ⊥)
        → register t.first rs ≡ Some a → register t.second rs ≡ Some b → compares t.comparison a b ≡ holds → SameObjects z z'
        → k + 48 + 250 * z.units ≤ budget + 250 * z'.units
        → Run names program places z y procedures below n budget (says holds z') (code_of (steps.says t)) rs k
    says_run n budget k a b holds t z' rs size other_first other_second first second tells alike cost =
        goes_on names program places z y procedures below constant_falls
        (goes_on names program places z y procedures below
        (load_falls (register_here rs 5 0 (omega (arith, size))) (address_up 0 true_address (omega arith)) r.fixed.true_value.stands)
        (by holds tells))
      where
        loaded : Registers
        loaded = slice_set (slice_set rs 5 (Some 0)) 5 (Some r.fixed.true_value.word)

        zero_size : length (slice_set rs 5 (Some 0)) ≡ 8
        zero_size = same_size rs 5 (Some 0) size

        loaded_size : length loaded ≡ 8
        loaded_size = same_size (slice_set rs 5 (Some 0)) 5 (Some r.fixed.true_value.word) zero_size

        held : (i w : ℕ) → (5 ≡ i → ⊥) → register i rs ≡ Some w → register i loaded ≡ Some w
        held i w other e =
            register_beside (slice_set rs 5 (Some 0)) 5 i (Some r.fixed.true_value.word) other ∙ register_beside rs 5 i (Some 0) other ∙ e

        by :
            (one : Bool) → compares t.comparison a b ≡ one
            → Run names program places z y procedures below n budget (says one z')
            (code_of (steps.return_if t 5 ∷ steps.constant 5 nil_word ∷ return_word 5 ∷ [])) loaded (k + 6 + 8)
        by true e =
            first_answers names program places z y procedures below (held t.first a other_first first) (held t.second b other_second second) e
            (returns_value names program places z y procedures below r
            (register_here (slice_set rs 5 (Some 0)) 5 r.fixed.true_value.word (omega (arith, zero_size))) r.fixed.true_value.of_value alike (omega (arith, cost)))
        by false e =
            test_fails names program places z y procedures below (held t.first a other_first first) (held t.second b other_second second) e
            (goes_on names program places z y procedures below constant_falls
            (returns_value names program places z y procedures below r (register_here loaded 5 nil_word (omega (arith, loaded_size))) refl alike (omega (arith, cost))))
