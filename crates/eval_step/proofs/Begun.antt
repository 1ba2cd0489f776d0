-- A form begins that wants more than the machine.
use Rattle.std.proofs.Common.{◌≡◌, ℕ, ◌-◌, List, [], length, Result, OnOk, refl, ap, sym, subst, arith}
use Rattle.std.proofs.lemmas.Result.{on_ok_weaker}
use Rattle.flat_language.specs.FlatForm.{FlatForm, FlatForms}
use Rattle.eval_machine.specs.Configuration.{Operator}
use Rattle.eval_machine.specs.Step.{arguments_step, operation_step}
use Rattle.eval_store.specs.Words.{values_of}
use Rattle.eval_state.specs.declared.frame.Operator.{Operator as Doing}
use Rattle.eval_state.specs.declared.situation.Situation.{Situation}
use Rattle.eval_state.specs.Frames.{operation_of}
use Rattle.eval_state.specs.declared.machine.Machine.{Machine}
use Rattle.eval_state.specs.View.{at, top, frames, state}
use Rattle.eval_control.specs.Begins.{begins}
use Rattle.eval_control.proofs.Leftover.{done}
use Rattle.eval_step.specs.declared.evaluator.Evaluator.{Evaluator}
use Rattle.eval_step.specs.Runs.{Runs}
use Rattle.eval_step.proofs.Running.{runs_on}

-- the same form
pub runs_begun : {T E : Type 0} (r : Result T E) (old new : Evaluator) (p : Situation) (f g : FlatForm) → f ≡ g
    → OnOk r (Runs old new (λ names s b. begins s g (at names old.machine p) (frames names old.machine 0) (state names old.machine b)))
    → OnOk r (Runs old new (λ names s b. begins s f (at names old.machine p) (frames names old.machine 0) (state names old.machine b)))
runs_begun r old new p f g e x = subst (λ k. OnOk r (Runs old new (λ names s b. begins s k (at names old.machine p) (frames names old.machine 0) (state names old.machine b)))) (sym e) x

-- no operands
none_on_top : (names : List (List ℕ)) (m : Machine) → top names m 0 ≡ []
none_on_top names m = ap (values_of names) (done m.operands.items (length m.operands.items - 0) (omega arith))

pub arguments_begun : {T E : Type 0} (r : Result T E) (old new : Evaluator) (p : Situation) (o : Operator) (fs : FlatForms)
    → OnOk r (Runs old new (λ names s b. arguments_step s o fs (top names old.machine 0) (at names old.machine p) (frames names old.machine 0) (state names old.machine b)))
    → OnOk r (Runs old new (λ names s b. arguments_step s o fs [] (at names old.machine p) (frames names old.machine 0) (state names old.machine b)))
arguments_begun r old new p o fs x =
    on_ok_weaker r (λ y. runs_on old new _ _ y (λ names s b. ap (λ vs. arguments_step s o fs vs (at names old.machine p) (frames names old.machine 0) (state names old.machine b)) (none_on_top names old.machine))) x

-- the operation is that one
pub operation_is : {T E : Type 0} (r : Result T E) (old new : Evaluator) (n : ℕ) (p : Situation) (o q : Doing) → o ≡ q
    → OnOk r (Runs old new (λ names s b. operation_step s (operation_of q) (top names old.machine n) (at names old.machine p) (frames names old.machine n) (state names old.machine b)))
    → OnOk r (Runs old new (λ names s b. operation_step s (operation_of o) (top names old.machine n) (at names old.machine p) (frames names old.machine n) (state names old.machine b)))
operation_is r old new n p o q e x =
    subst (λ k. OnOk r (Runs old new (λ names s b. operation_step s (operation_of k) (top names old.machine n) (at names old.machine p) (frames names old.machine n) (state names old.machine b)))) (sym e) x
