-- Lists of forms: what the machine does at a place of a list.
use Rattle.std.proofs.Common.{◌≡◌, ℕ, suc, ◌≤◌, List, ◌∷◌, Some, ap, ◌∙◌, length}
use Rattle.std.specs.Prelude.{slice_get}
use Rattle.lang_meaning.specs.Values.{Value, nil}
use Rattle.flat_language.specs.FlatForm.{FlatForm, FlatBindings, FlatDynamics}
use Rattle.flat_language.specs.FlatState.{FlatState, gives}
use Rattle.flat_language.specs.declared.flat_core.FlatClause.{FlatClause}
use Rattle.flat_language.specs.declared.flat_core.FlatBinding.{FlatBinding}
use Rattle.flat_language.specs.declared.flat_core.FlatDynBinding.{FlatDynBinding}
use Rattle.eval_machine.specs.Configuration.{Setting, Situation, Operator, ContinuationFrame, configuration, ended, evaluate, awaits, sequence_form, argument, binding_value, dynamic_value}
use Rattle.eval_machine.specs.Step.{sequence_step, clauses_step, arguments_step, operation_step, bindings_step, let_step, dynamics_step, dynamic_let_step}
use Rattle.eval_state.specs.Frames.{forms_from, clauses_from, bindings_from, dynamics_from, clause_wait}
use Rattle.eval_control.proofs.Leftover.{form_there, forms_done, clause_there, clauses_done, binding_there, bindings_done, dynamic_there, dynamics_done}

pub sequence_goes : (s : Setting) (v : Value) (xs : List FlatForm) (n m : ℕ) (x : FlatForm) (at : Situation) (frames : List ContinuationFrame) (z : FlatState)
    → slice_get xs n ≡ Some x → m ≡ suc n
    → configuration (evaluate x at) (awaits (sequence_form (forms_from xs m) at) ∷ frames) z ≡ sequence_step s v (forms_from xs n) at frames z
sequence_goes s v xs n m x at frames z h e =
    ap (λ k. configuration (evaluate x at) (awaits (sequence_form (forms_from xs k) at) ∷ frames) z) e
    ∙ ap (λ fs. sequence_step s v fs at frames z) (form_there xs n x h)

pub sequence_ends : (s : Setting) (v : Value) (xs : List FlatForm) (n : ℕ) (at : Situation) (frames : List ContinuationFrame) (z : FlatState)
    → length xs ≤ n → ended (gives v z) frames ≡ sequence_step s v (forms_from xs n) at frames z
sequence_ends s v xs n at frames z h = ap (λ fs. sequence_step s v fs at frames z) (forms_done xs n h)

pub clauses_go : (s : Setting) (xs : List FlatClause) (n : ℕ) (x : FlatClause) (at : Situation) (frames : List ContinuationFrame) (z : FlatState)
    → slice_get xs n ≡ Some x
    → configuration (evaluate x.test at) (awaits (clause_wait (slice_get xs n) (clauses_from xs (suc n)) at) ∷ frames) z ≡ clauses_step s (clauses_from xs n) at frames z
clauses_go s xs n x at frames z h =
    ap (λ o. configuration (evaluate x.test at) (awaits (clause_wait o (clauses_from xs (suc n)) at) ∷ frames) z) h
    ∙ ap (λ cs. clauses_step s cs at frames z) (clause_there xs n x h)

pub clauses_end : (s : Setting) (xs : List FlatClause) (n : ℕ) (at : Situation) (frames : List ContinuationFrame) (z : FlatState)
    → length xs ≤ n → ended (gives nil z) frames ≡ clauses_step s (clauses_from xs n) at frames z
clauses_end s xs n at frames z h = ap (λ cs. clauses_step s cs at frames z) (clauses_done xs n h)

pub arguments_go : (s : Setting) (o : Operator) (vs : List Value) (xs : List FlatForm) (n : ℕ) (x : FlatForm) (at : Situation) (frames : List ContinuationFrame) (z : FlatState)
    → slice_get xs n ≡ Some x
    → configuration (evaluate x at) (awaits (argument o (forms_from xs (suc n)) vs at) ∷ frames) z ≡ arguments_step s o (forms_from xs n) vs at frames z
arguments_go s o vs xs n x at frames z h = ap (λ fs. arguments_step s o fs vs at frames z) (form_there xs n x h)

pub arguments_end : (s : Setting) (o : Operator) (vs : List Value) (xs : List FlatForm) (n : ℕ) (at : Situation) (frames : List ContinuationFrame) (z : FlatState)
    → length xs ≤ n → operation_step s o vs at frames z ≡ arguments_step s o (forms_from xs n) vs at frames z
arguments_end s o vs xs n at frames z h = ap (λ fs. arguments_step s o fs vs at frames z) (forms_done xs n h)

pub bindings_go : (s : Setting) (vs : List Value) (all : FlatBindings) (body : FlatForm) (xs : List FlatBinding) (n : ℕ) (x : FlatBinding) (at : Situation) (frames : List ContinuationFrame) (z : FlatState)
    → slice_get xs n ≡ Some x
    → configuration (evaluate x.value at) (awaits (binding_value (bindings_from xs (suc n)) vs all body at) ∷ frames) z ≡ bindings_step s (bindings_from xs n) vs all body at frames z
bindings_go s vs all body xs n x at frames z h = ap (λ bs. bindings_step s bs vs all body at frames z) (binding_there xs n x h)

pub bindings_end : (s : Setting) (vs : List Value) (all : FlatBindings) (body : FlatForm) (xs : List FlatBinding) (n : ℕ) (at : Situation) (frames : List ContinuationFrame) (z : FlatState)
    → length xs ≤ n → let_step s all body vs at frames z ≡ bindings_step s (bindings_from xs n) vs all body at frames z
bindings_end s vs all body xs n at frames z h = ap (λ bs. bindings_step s bs vs all body at frames z) (bindings_done xs n h)

pub dynamics_go : (s : Setting) (vs : List Value) (all : FlatDynamics) (body : FlatForm) (xs : List FlatDynBinding) (n : ℕ) (x : FlatDynBinding) (at : Situation) (frames : List ContinuationFrame) (z : FlatState)
    → slice_get xs n ≡ Some x
    → configuration (evaluate x.value at) (awaits (dynamic_value (dynamics_from xs (suc n)) vs all body at) ∷ frames) z ≡ dynamics_step s (dynamics_from xs n) vs all body at frames z
dynamics_go s vs all body xs n x at frames z h = ap (λ bs. dynamics_step s bs vs all body at frames z) (dynamic_there xs n x h)

pub dynamics_end : (s : Setting) (vs : List Value) (all : FlatDynamics) (body : FlatForm) (xs : List FlatDynBinding) (n : ℕ) (at : Situation) (frames : List ContinuationFrame) (z : FlatState)
    → length xs ≤ n → dynamic_let_step s all body vs at frames z ≡ dynamics_step s (dynamics_from xs n) vs all body at frames z
dynamics_end s vs all body xs n at frames z h = ap (λ bs. dynamics_step s bs vs all body at frames z) (dynamics_done xs n h)
