-- A run after so many forms: as many began, and no count of faults fell.
use Rattle.std.specs.Prelude.{◌≡◌, ◌≤◌, ℕ, List, Option, Result, Ok, Err, IfOk, IfErr}
use Rattle.eval_step.specs.declared.evaluator.Evaluator.{Evaluator}
use Rattle.eval_run.specs.declared.answer.Counted.{Counted}
use Rattle.eval_run.specs.declared.stop.Stop.{Stop}
use Rattle.lang_meaning.specs.Evaluation.{Evaluation}
use Rattle.lang_meaning.specs.Evaluates.{most_forms}
use Rattle.eval_run.specs.UnderWay.{UnderWay, HasCounted, StopsSo}

pub record HasTurned (left left' given given' : Option (List ℕ)) (faults faults' failed failed' : ℕ) (first now : Evaluator) (forms : ℕ) : Type 0 where
  pub under_way : (e : Evaluation) → UnderWay e left left given given 0 first → UnderWay e left left' given given' forms now
  pub count : faults ≤ faults'
  pub sink_count : failed ≤ failed'

-- what the end of it tells of the whole run
pub run_ends : (names : List (List ℕ)) (r : Result Counted Stop) (from to given given' given'' : Option (List ℕ)) (forms : ℕ) (first v : Evaluator) → forms ≤ most_forms
    → ((e : Evaluation) → UnderWay e from from given given 0 first → UnderWay e from to given given' forms v)
    → IfOk r (λ c. (e : Evaluation) (left left' given : Option (List ℕ)) (forms : ℕ) → e.names ≡ names → forms ≤ most_forms
    → UnderWay e left left' given given' forms v → HasCounted e left left' given given'' c)
    → IfOk r (λ c. (e : Evaluation) → e.names ≡ names → UnderWay e from from given given 0 first → HasCounted e from to given given'' c)
run_ends names (Ok c) from to given given' given'' forms first v few way h = λ e same u. h e from to given forms same few (way e u)
run_ends names (Err s) from to given given' given'' forms first v few way h = tt

pub run_stops : (r : Result Counted Stop) (from to given given' given'' : Option (List ℕ)) (forms : ℕ) (first v : Evaluator)
    → ((e : Evaluation) → UnderWay e from from given given 0 first → UnderWay e from to given given' forms v)
    → IfErr r (λ stop. (e : Evaluation) (left left' given : Option (List ℕ)) (forms : ℕ)
    → UnderWay e left left' given given' forms v → StopsSo stop e left left' given given'')
    → IfErr r (λ stop. (e : Evaluation) → UnderWay e from from given given 0 first → StopsSo stop e from to given given'')
run_stops (Ok c) from to given given' given'' forms first v way h = tt
run_stops (Err s) from to given given' given'' forms first v way h = λ e u. h e from to given forms (way e u)
