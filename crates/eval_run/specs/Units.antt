-- How many units are told of an evaluation: where it came to an end of its own, those of the program's meaning.
use Rattle.std.specs.Prelude.{◌≡◌, ℕ, List, Option}
use Rattle.lang_meaning.specs.declared.evaluation.EvaluationEnd.{EvaluationEnd}
use Rattle.lang_meaning.specs.declared.evaluation.EvaluationEnd.TheVariants as endings
use Rattle.lang_meaning.specs.Evaluation.{Evaluation, meaning_with, Taken, Begins, WasTaken}
use Rattle.eval_run.specs.declared.answer.Counted.{Counted}

-- the units at each end; none are told where it is no end of its own
abbrev pub CountsSo : EvaluationEnd → (e : Evaluation) (input : List ℕ) (units : ℕ) → Type 0
CountsSo endings.Spent e input units = units ≡ 0
CountsSo endings.ReadFault e input units = units ≡ 0
CountsSo endings.WriteFault e input units = units ≡ 0
CountsSo end e input units = (meaning_with e input).units ≡ units

-- they are so for every input that begins with what was read, and ends there where the end of the source was met
pub record Counts (e : Evaluation) (left left' : Option (List ℕ)) (c : Counted) : Type 0 where
  pub taken : Taken
  pub was_taken : WasTaken left taken left'
  pub units : (input : List ℕ) → Begins taken input → CountsSo c.end e input c.units
