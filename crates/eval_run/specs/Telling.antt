-- What is told of the end of an evaluation: the slots of a condition that no handler took; nothing of any other end.
use Rattle.std.specs.Prelude.{◌≡◌, ℕ, List, [], Option}
use Rattle.lang_meaning.specs.declared.evaluation.EvaluationEnd.{EvaluationEnd}
use Rattle.lang_meaning.specs.declared.evaluation.EvaluationEnd.TheVariants as endings
use Rattle.lang_meaning.specs.declared.program.ProgramRows.{ProgramRows}
use Rattle.lang_meaning.specs.Evaluation.{Evaluation, meaning_with, Taken, Begins, WasTaken}
use Rattle.lang_meaning.specs.Meaning.{Meant}
use Rattle.lang_told.specs.Ends.{TellsEnd}
use Rattle.eval_run.specs.declared.answer.Counted.{Counted}

-- what is told of that end of what was done
abbrev pub TellsOf : EvaluationEnd → (names : List (List ℕ)) → ProgramRows → Meant → (told : List ℕ) → Type 0
TellsOf (endings.Unhandled class site) names program m told = TellsEnd names program m told
TellsOf end names program m told = told ≡ []

-- and of the program's meaning
abbrev pub TellsSo : EvaluationEnd → (e : Evaluation) (input told : List ℕ) → Type 0
TellsSo end e input told = TellsOf end e.names e.program (meaning_with e input) told

-- it is told so for every input that begins with what was read, and ends there where the end of the source was met
pub record EvaluationTells (e : Evaluation) (left left' : Option (List ℕ)) (c : Counted) : Type 0 where
  pub taken : Taken
  pub was_taken : WasTaken left taken left'
  pub tells : (input : List ℕ) → Begins taken input → TellsSo c.end e input c.told
