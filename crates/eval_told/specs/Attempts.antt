-- What an attempt comes to that writes a value: it is written behind what is there, or it is not written.
use Rattle.std.specs.Prelude.{◌≡◌, ℕ, Bool, true, false, List, ◌++◌}
use Rattle.lang_meaning.specs.Values.{Value}
use Rattle.lang_meaning.specs.Objects.{Object}
use Rattle.lang_taken.specs.Shapes.{Shape}
use Rattle.lang_told.specs.Written.{Writes, WritesElements, WritesChain, IsUnwritten, AreUnwritten, IsUnwrittenChain}

pub record IsWritten (objects : List Object) (s : Shape) (left : ℕ) (old new : List ℕ) (rest : ℕ) : Type 0 where
  pub text : List ℕ
  pub writes : Writes objects left s text rest
  pub appended : new ≡ old ++ text

abbrev pub Attempted : List Object → Shape → (left : ℕ) → (old new : List ℕ) → (rest : ℕ) → (written : Bool) → Type 0
Attempted objects s left old new rest true = IsWritten objects s left old new rest
Attempted objects s left old new rest false = IsUnwritten objects left s

-- the same of values one after another, the first behind a gap
pub record AreWritten (objects : List Object) (gap : List ℕ) (vs : List Value) (left : ℕ) (old new : List ℕ) (rest : ℕ) : Type 0 where
  pub text : List ℕ
  pub writes : WritesElements objects gap left vs text rest
  pub appended : new ≡ old ++ text

abbrev pub AttemptedElements : List Object → (gap : List ℕ) → List Value → (left : ℕ) → (old new : List ℕ) → (rest : ℕ) → (written : Bool) → Type 0
AttemptedElements objects gap vs left old new rest true = AreWritten objects gap vs left old new rest
AttemptedElements objects gap vs left old new rest false = AreUnwritten objects left vs

-- and of a chain of conses
pub record IsWrittenChain (objects : List Object) (gap : List ℕ) (s : Shape) (left : ℕ) (old new : List ℕ) (rest : ℕ) : Type 0 where
  pub text : List ℕ
  pub writes : WritesChain objects gap left s text rest
  pub appended : new ≡ old ++ text

abbrev pub AttemptedChain : List Object → (gap : List ℕ) → Shape → (left : ℕ) → (old new : List ℕ) → (rest : ℕ) → (written : Bool) → Type 0
AttemptedChain objects gap s left old new rest true = IsWrittenChain objects gap s left old new rest
AttemptedChain objects gap s left old new rest false = IsUnwrittenChain objects left s
