-- Counting of what was passed.
use Rattle.std.specs.Prelude.{◌≡◌, ℕ, ◌+◌, ◌^◌, ◌≤◌, pos, List, Option, Result}
use Rattle.lang_meaning.specs.Values.{integer}
use Rattle.lang_meaning.specs.State as base
use Rattle.lang_meaning.specs.Primitives.{result, program_error}
use Rattle.flat_language.specs.FlatState.{charged}
use Rattle.eval_store.specs.declared.store.Store.{Store}
use Rattle.eval_store.specs.declared.store.Halt.{Halt}
use Rattle.eval_store.specs.declared.store.Halt.TheVariants.{Spent}
use Rattle.eval_store.specs.View.{Beside, state_of, seen, limit_of}
use Rattle.eval_primitives.specs.declared.answer.Answer.{Answer}
use Rattle.eval_primitives.specs.Answers.{AnswersAs, carried_out}

-- so many units more
pub record IsCharged (n : ℕ) (old new : Store) : Type 0 where
  pub after : (names : List (List ℕ)) (b : Beside) → seen names new b ≡ charged n (seen names old b)

-- with so many more they would pass 64 bits
pub record AreUnitsSpent (n : ℕ) (old : Store) (h : Halt) : Type 0 where
  pub halt : h ≡ Spent
  pub units : (names : List (List ℕ)) (b : Beside) → 2 ^ 64 ≤ (seen names old b).state.units + n

-- a place, and as many units as it has slots up to it
pub record IsPlaceTold (at : ℕ) (old new : Store) (r : Result Answer Halt) : Type 0 where
  pub comes : (names : List (List ℕ)) (b : Beside) (limit : Option ℕ)
      → AnswersAs names r (seen names new b) (carried_out (limit_of limit) (result (integer (pos at)) (base.charged (at + 1) (state_of names old b))) (seen names old b))

-- that there is no such place, and as many units as there are slots
pub record IsNoPlaceTold (count : ℕ) (old new : Store) (r : Result Answer Halt) : Type 0 where
  pub comes : (names : List (List ℕ)) (b : Beside) (limit : Option ℕ)
      → AnswersAs names r (seen names new b) (carried_out (limit_of limit) (program_error (base.charged count (state_of names old b))) (seen names old b))
