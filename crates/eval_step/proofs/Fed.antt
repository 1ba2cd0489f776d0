-- What is read is there.
use Rattle.std.proofs.Math.Seq.{drop-length}
use Rattle.std.proofs.lemmas.Result.{on_ok_weaker}
use Rattle.std.proofs.Common.{◌≡◌, ℕ, suc, ◌+◌, ◌-◌, true, List, [], ◌∷◌, ◌++◌, length, drop, Result, OnOk, ap, sym, ◌∙◌, refl, arith, length-drop, length-append}
use Rattle.lang_meaning.specs.declared.primitive.Primitive.{Primitive}
use Rattle.flat_language.specs.FlatForm.{FlatForm, FlatForms, prim}
use Rattle.lang_meaning.specs.Values.{Value}
use Rattle.flat_language.specs.FlatState.{FlatState}
use Rattle.eval_machine.specs.Configuration.{Setting, compute}
use Rattle.eval_machine.specs.Configuration as plain
use Rattle.eval_machine.specs.Step.{operation_step}
use Rattle.eval_store.specs.declared.word.Word.{Word}
use Rattle.eval_state.specs.declared.frame.Operator.{Operator}
use Rattle.eval_state.specs.declared.frame.Operator.TheVariants.{CallName, CallFirst, Compute}
use Rattle.eval_state.specs.declared.machine.Machine.{Machine}
use Rattle.eval_state.specs.declared.situation.Situation.{Situation}
use Rattle.eval_state.specs.Computing.{computed}
use Rattle.eval_state.specs.Frames.{last_of, situation_in}
use Rattle.eval_state.specs.View.{at, top, frames, state, dynamic_context}
use Rattle.eval_step.specs.declared.evaluator.Evaluator.{Evaluator}
use Rattle.eval_step.specs.Runs.{Runs}
use Rattle.eval_step.proofs.Running.{runs_on}
use Rattle.eval_step.specs.Streams.{reads, operation_reads, form_reads, is_fed}

-- none are the last none
last_none : (xs : List Word) → last_of 0 xs ≡ []
last_none xs =
    let e : length xs - 0 ≡ length xs = omega arith in
    ap (λ n. drop n xs) e ∙ drop-length xs

pub prim_fed : (e : Evaluator) (f : FlatForm) (which : Primitive) (fs : FlatForms) (ops : List Word) → f ≡ prim which fs
    → (form_reads f ≡ true → is_fed e ≡ true) → operation_reads (Compute which) (last_of 0 ops) ≡ true → is_fed e ≡ true
prim_fed e f which fs ops is h r = h (ap form_reads is ∙ sym (ap (reads which) (last_none ops)) ∙ r)

-- what reads has no arguments
none_given : (o : Operator) (ws : List Word) → operation_reads o ws ≡ true → ws ≡ []
none_given (Compute which) [] h = refl
none_given (Compute which) (w ∷ ws) h = absurd (cc h)
none_given (CallName n) ws h = absurd (cc h)
none_given CallFirst ws h = absurd (cc h)

one_there : (xs : List Word) (x : Word) (n : ℕ) → last_of (suc n) (xs ++ x ∷ []) ≡ [] → ⊥
one_there xs x n e =
    let all : length (xs ++ x ∷ []) ≡ length xs + 1 = length-append xs (x ∷ []) in
    let left : length (last_of (suc n) (xs ++ x ∷ [])) ≡ length (xs ++ x ∷ []) - (length (xs ++ x ∷ []) - suc n) =
    length-drop (length (xs ++ x ∷ []) - suc n) (xs ++ x ∷ []) in
    let none : length (last_of (suc n) (xs ++ x ∷ [])) ≡ 0 = ap length e in
    absurd (omega arith)

pub argument_given : (o : Operator) (xs ys : List Word) (x : Word) (n k : ℕ) → ys ≡ xs ++ x ∷ [] → k ≡ suc n → operation_reads o (last_of k ys) ≡ true → ⊥
argument_given o xs ys x n k e is h =
    one_there xs x n (none_given o (last_of (suc n) (xs ++ x ∷ [])) (sym (ap (λ m. operation_reads o (last_of m (xs ++ x ∷ []))) is) ∙ sym (ap (λ zs. operation_reads o (last_of k zs)) e) ∙ h))

-- a primitive computes in a situation
computed_at : (names : List (List ℕ)) (s : Setting) (m : Machine) (which : Primitive) (vs : List Value) (p : Situation) (frames : List plain.ContinuationFrame) (z : FlatState)
    → computed s which vs p.level (dynamic_context names m p.around) frames z ≡ operation_step s (compute which) vs (at names m p) frames z
unfolding situation_in
computed_at names s m which vs p frames z = refl

pub computes : {E : Type 0} (r : Result Unit E) (old new : Evaluator) (q which : Primitive) (n : ℕ) (p : Situation) → q ≡ which
    → OnOk r (Runs old new (λ names s b. computed s q (top names old.machine n) p.level (dynamic_context names old.machine p.around) (frames names old.machine n) (state names old.machine b)))
    → OnOk r (Runs old new (λ names s b. operation_step s (compute which) (top names old.machine n) (at names old.machine p) (frames names old.machine n) (state names old.machine b)))
computes r old new q which n p is x =
    on_ok_weaker r (λ y. runs_on old new _ _ y (λ names s b.
    ap (λ w. computed s w (top names old.machine n) p.level (dynamic_context names old.machine p.around) (frames names old.machine n) (state names old.machine b)) is
    ∙ computed_at names s old.machine which (top names old.machine n) p (frames names old.machine n) (state names old.machine b))) x
