-- What the machine alone does, the evaluator does.
use Rattle.std.proofs.Common.{◌≡◌, ℕ, List, Result, Ok, Err, OnOk, ap, sym, subst}
use Rattle.eval_machine.specs.Configuration.{Setting, Configuration}
use Rattle.eval_store.specs.View.{Beside}
use Rattle.eval_state.specs.declared.machine.Machine.{Machine}
use Rattle.eval_state.specs.View.{StepsTo}
use Rattle.eval_step.specs.declared.evaluator.Evaluator.{Evaluator}
use Rattle.eval_step.specs.Runs.{Stands, Runs}

-- what stands beside a machine stands beside another one
pub beside_another : (names : List (List ℕ)) (e : Evaluator) (m : Machine) (written unread : List ℕ) (b : Beside) → Stands names e written unread b
    → Stands names (record e { machine = m }) written unread b
beside_another names e m written unread b s = record {
  globals = s.globals;
  dynamics = s.dynamics;
  printed = s.printed;
  at_start = s.at_start;
  input = s.input;
  ended = s.ended;
}

pub lifted : (old new : Evaluator) (f : List (List ℕ) → Setting → Beside → Configuration) → new ≡ record old { machine = new.machine }
    → StepsTo old.machine new.machine f → Runs old new f
lifted old new f same x = record {
  given = x.given;
  ended = ap (λ (e : Evaluator). e.ended) same;
  comes = λ names written unread b k s. record {
    beside = b;
    stands = subst (λ e. Stands names e written unread b) (sym same) (beside_another names old new.machine written unread b s);
    is = x.comes names b k;
  };
}

pub lifted_ok : {T E : Type 0} (r : Result T E) (old new : Evaluator) (f : List (List ℕ) → Setting → Beside → Configuration) → new ≡ record old { machine = new.machine }
    → OnOk r (StepsTo old.machine new.machine f) → OnOk r (Runs old new f)
lifted_ok (Ok x) old new f same s = lifted old new f same s
lifted_ok (Err e) old new f same s = s
