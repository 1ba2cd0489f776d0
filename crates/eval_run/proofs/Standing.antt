-- Where what was printed was written, an evaluator stands where it stood; and what stops behind a write.
use Rattle.std.proofs.Common.{◌≡◌, Bool, true, false, ap, ◌∙◌, subst}
use Rattle.std.specs.Prelude.{ℕ, List, Option, Result, Ok, Err, IfErr}
use Rattle.eval_machine.specs.Run.{begins}
use Rattle.eval_machine.specs.Step.{step}
use Rattle.eval_state.specs.declared.machine.Machine.{Machine}
use Rattle.eval_state.specs.View.{configuration_of}
use Rattle.eval_step.specs.Advanced.{StopsBecause}
use Rattle.eval_run.specs.declared.stop.Stop.{Stop}
use Rattle.lang_meaning.specs.Evaluation.{Evaluation}
use Rattle.eval_run.specs.UnderWay.{UnderWay, StopsSo}
use Rattle.eval_step.specs.declared.evaluator.Evaluator.{Evaluator}

pub machine_same : (old v : Evaluator) → v ≡ record old { printed = v.printed } → v.machine ≡ old.machine
machine_same old v same = ap (λ (x : Evaluator). x.machine) same

-- with that machine it stands where it stood
pub stopped_still : (old v : Evaluator) (more : Bool) → v.machine ≡ old.machine → StopsBecause old more → StopsBecause v more
stopped_still old v true same h = λ names b. ap (λ (m : Machine). begins (configuration_of names m b).control) same ∙ h names b
stopped_still old v false same h = λ names s b. ap (λ (m : Machine). step s (configuration_of names m b)) same ∙ h names s b

pub begins_still : (old v : Evaluator) (more : Bool) → more ≡ true → v.machine ≡ old.machine → StopsBecause old more → StopsBecause v true
begins_still old v more is same h = stopped_still old v true same (subst (StopsBecause old) is h)

-- what stops behind a write
pub stops_behind : {T : Type 0} (r : Result T Stop) (from to given'' given' : Option (List ℕ)) (old mid : Evaluator)
    → ((e : Evaluation) (left given : Option (List ℕ)) (forms : ℕ) → UnderWay e left from given given' forms old → UnderWay e left from given given'' forms mid)
    → IfErr r (λ stop. (e : Evaluation) (left given given' : Option (List ℕ)) (forms : ℕ) → UnderWay e left from given given' forms mid → StopsSo stop e left to given given')
    → IfErr r (λ stop. (e : Evaluation) (left given : Option (List ℕ)) (forms : ℕ) → UnderWay e left from given given' forms old → StopsSo stop e left to given given'')
stops_behind (Ok x) from to given'' given' old mid w h = tt
stops_behind (Err s) from to given'' given' old mid w h = λ e left given forms u. h e left given given'' forms (w e left given forms u)
