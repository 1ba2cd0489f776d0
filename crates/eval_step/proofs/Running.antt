-- What the evaluator has come to, from what it has come to in parts.
use Rattle.std.proofs.Common.{◌≡◌, ℕ, suc, List, [], ◌∷◌, ◌++◌, Result, OnOk, ap, sym, ◌∙◌, subst, reverse}
use Rattle.std.proofs.lemmas.List.{map-append}
use Rattle.lang_meaning.specs.State.{Outcome}
use Rattle.lang_meaning.specs.Values.{Value}
use Rattle.flat_language.specs.FlatState.{FlatState}
use Rattle.eval_machine.specs.Configuration.{Setting, Configuration}
use Rattle.eval_machine.specs.Configuration as machine
use Rattle.eval_machine.specs.Step.{outcome_step}
use Rattle.eval_store.specs.declared.word.Word.{Word}
use Rattle.eval_store.specs.Words.{value_of_word, values_of}
use Rattle.eval_store.specs.View.{Beside}
use Rattle.eval_state.specs.declared.frame.ContinuationFrame.{ContinuationFrame}
use Rattle.eval_state.specs.declared.given.Given.{Given}
use Rattle.eval_state.specs.declared.situation.Situation.{Situation}
use Rattle.eval_state.specs.declared.machine.Machine.{Machine}
use Rattle.eval_state.specs.Frames.{last_of, others_of, frames_in}
use Rattle.eval_state.specs.Operands.{IsPushed}
use Rattle.eval_state.specs.Tops.{taken, below}
use Rattle.eval_state.specs.View.{IsGiven, setting_of, at, top, frames, state}
use Rattle.eval_state.proofs.SlotLists.{last_more, others_more}
use Rattle.eval_step.specs.declared.evaluator.Evaluator.{Evaluator}
use Rattle.eval_step.specs.Runs.{IsAtConfiguration, Runs}
use Rattle.eval_step.proofs.Lifting.{beside_another}

-- the same configuration, said in another way
pub runs_on : (old new : Evaluator) (f g : List (List ℕ) → Setting → Beside → Configuration) → Runs old new f
    → ((names : List (List ℕ)) (s : Setting) (b : Beside) → f names s b ≡ g names s b) → Runs old new g
runs_on old new f g x h = record {
  given = x.given;
  ended = x.ended;
  comes = λ names written unread b k st.
      let a : IsAtConfiguration names new written unread (f names (setting_of names old.machine.given) b) = x.comes names written unread b k st in
      record { beside = a.beside; stands = a.stands; is = a.is ∙ h names (setting_of names old.machine.given) b };
}

-- from an evaluator whose machine alone is another, which is given the same
pub runs_from : (old : Evaluator) (mid : Machine) (new : Evaluator) (f g : List (List ℕ) → Setting → Beside → Configuration) → mid.given ≡ old.machine.given
    → Runs (record old { machine = mid }) new f
    → ((names : List (List ℕ)) (s : Setting) (b : Beside) → f names s b ≡ g names s b) → Runs old new g
runs_from old mid new f g e x h = record {
  given = x.given ∙ e;
  ended = x.ended;
  comes = λ names written unread b k st.
      let P : Given → Type 0 = λ y. IsGiven names y in
      let a : IsAtConfiguration names new written unread (f names (setting_of names mid.given) b) = x.comes names written unread b (subst P (sym e) k) (beside_another names old mid written unread b st) in
      record { beside = a.beside; stands = a.stands; is = a.is ∙ ap (λ y. f names (setting_of names y) b) e ∙ h names (setting_of names old.machine.given) b };
}

-- the frame is that one
pub runs_framed : {T E : Type 0} (r : Result T E) (old new : Evaluator) (o : List (List ℕ) → Outcome) (w x : ContinuationFrame) → w ≡ x
    → OnOk r (Runs old new (λ names s b. outcome_step s (taken names old.machine x) (o names) (below names old.machine x) (state names old.machine b)))
    → OnOk r (Runs old new (λ names s b. outcome_step s (taken names old.machine w) (o names) (below names old.machine w) (state names old.machine b)))
runs_framed r old new o w x e y = subst (λ k. OnOk r (Runs old new (λ names s b. outcome_step s (taken names old.machine k) (o names) (below names old.machine k) (state names old.machine b)))) (sym e) y

-- an operand more
pub operand_seen : (old mid : Machine) (n next : ℕ) (w : Word) (a : Situation) (f : ℕ → List Value → machine.Situation → List machine.ContinuationFrame → FlatState → Configuration) → next ≡ suc n → IsPushed old mid w
    → (names : List (List ℕ)) (b : Beside)
    → f next (top names mid next) (at names mid a) (frames names mid next) (state names mid b)
    ≡ f (suc n) (top names old n ++ value_of_word names w ∷ []) (at names old a) (frames names old n) (state names old b)
operand_seen old mid n next w a f e p names b =
    let tops : List Word → List Value = λ os. values_of names os in
    ap (λ k. f k (top names mid k) (at names mid a) (frames names mid k) (state names mid b)) e
    ∙ ap (λ (m : Machine). f (suc n) (tops (last_of (suc n) mid.operands.items)) (at names m a) (frames_in names m.current (others_of (suc n) mid.operands.items) m.slots.items (reverse m.frames.items)) (state names m b)) p.same
    ∙ ap (λ os. f (suc n) (tops (last_of (suc n) os)) (at names old a) (frames_in names old.current (others_of (suc n) os) old.slots.items (reverse old.frames.items)) (state names old b)) p.operands
    ∙ ap (λ os. f (suc n) (tops os) (at names old a) (frames_in names old.current (others_of (suc n) (old.operands.items ++ w ∷ [])) old.slots.items (reverse old.frames.items)) (state names old b)) (last_more old.operands.items n w)
    ∙ ap (λ vs. f (suc n) vs (at names old a) (frames_in names old.current (others_of (suc n) (old.operands.items ++ w ∷ [])) old.slots.items (reverse old.frames.items)) (state names old b)) (map-append (value_of_word names) (last_of n old.operands.items) (w ∷ []))
    ∙ ap (λ os. f (suc n) (top names old n ++ value_of_word names w ∷ []) (at names old a) (frames_in names old.current os old.slots.items (reverse old.frames.items)) (state names old b)) (others_more old.operands.items n w)
