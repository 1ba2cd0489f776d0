-- That a program means the same, whatever its names are numbered by.
use Rattle.std.specs.Prelude.{◌≡◌, ℕ, List, Option}
use Rattle.lang_meaning.specs.declared.program.ProgramRows.{ProgramRows}
use Rattle.lang_meaning.specs.declared.evaluation.EvaluationEnd.{EvaluationEnd}
use Rattle.lang_meaning.specs.Objects.{Environment}
use Rattle.lang_meaning.specs.State.{State, DynamicContext, Limit}
use Rattle.lang_meaning.specs.Signals.{Task}
use Rattle.lang_meaning.specs.Meaning.{Meant, meaning, meaning_at}
use Rattle.lang_meaning.specs.Evaluation.{Evaluation, meaning_with}
use Rattle.lang_meaning.specs.Evaluates.{Evaluates}
use Rattle.lang_renamed.specs.Renaming.{KeepsTexts, program_by}
use Rattle.lang_renamed.specs.SameRuns.{DoesTheSame}
use Rattle.lang_renamed.specs.RenamedRuns.{state_by, evaluated_by, task_by, meant_by, evaluation_by}

-- of each task with any number of levels, from any environment, dynamic context and state
abbrev pub LawOfTasks : Type 0
LawOfTasks =
    (r : ℕ → ℕ) (old new : List (List ℕ)) (program : ProgramRows) (limit : Limit) (k : ℕ) (task : Task) (env : Environment) (around : DynamicContext) (z : State) →
    KeepsTexts r old new →
    meaning_at new (program_by r program) limit k (task_by r task) env around (state_by r z) ≡ evaluated_by r (meaning_at old program limit k task env around z)

-- of whole programs: the end is the same, and all else but the bodies of functions in the store
abbrev pub LawOfMeaning : Type 0
LawOfMeaning =
    (r : ℕ → ℕ) (old new : List (List ℕ)) (program : ProgramRows) (input : List ℕ) (k : ℕ) (limit : Limit) → KeepsTexts r old new →
    meaning new (program_by r program) input k limit ≡ meant_by r (meaning old program input k limit)

-- so an evaluation of the one is one of the other, with the same bytes read and written and the same end
abbrev pub LawOfEvaluations : Type 0
LawOfEvaluations =
    (r : ℕ → ℕ) (new : List (List ℕ)) (e : Evaluation) (left left' given given' : Option (List ℕ)) (end : EvaluationEnd) → KeepsTexts r e.names new →
    Evaluates e left left' given given' end → Evaluates (evaluation_by r new e) left left' given given' end

-- of two programs that do the same with every input an evaluation of the one is one of the other
abbrev pub LawOfSameRuns : Type 0
LawOfSameRuns =
    (e f : Evaluation) (left left' given given' : Option (List ℕ)) (end : EvaluationEnd) → ((input : List ℕ) → DoesTheSame (meaning_with e input) (meaning_with f input)) →
    Evaluates e left left' given given' end → Evaluates f left left' given given' end

-- two programs do the same where what they do is the same, each renamed to whatever numbers
abbrev pub LawOfRenamedRuns : Type 0
LawOfRenamedRuns = (r s : ℕ → ℕ) (m n : Meant) → meant_by r m ≡ meant_by s n → DoesTheSame m n
