-- What comes to a frame that was on top, by its kind.
use Rattle.std.proofs.Common.{Bor, ◌≡◌, ◌≤◌, ℕ, suc, List, [], ◌∷◌, ◌++◌, Option, Some, None, true, false, Result, OnOk, refl, ap, sym, ◌∙◌, subst, reverse, length, MatchOption, option_copied}
use Rattle.std.specs.Prelude.{slice_get}
use Rattle.std.proofs.lemmas.Option.{slice_get_past}
use Rattle.std.proofs.lemmas.List.{map-append}
use Rattle.lang_meaning.specs.State.{Outcome, DynamicContext}
use Rattle.lang_meaning.specs.Values.{Value, is_true, nil}
use Rattle.flat_language.specs.declared.flat_core.FlatClause.{FlatClause}
use Rattle.flat_language.specs.FlatForm.{FlatForm, FlatClauses}
use Rattle.flat_language.specs.FlatState.{FlatState, gives}
use Rattle.eval_machine.specs.Configuration.{Setting, Configuration, configuration, ended, evaluate, awaits, while_test, while_body}
use Rattle.eval_machine.specs.Configuration as machine
use Rattle.eval_machine.specs.Step.{outcome_step, value_step, clauses_step}
use Rattle.eval_store.specs.declared.word.Word.{Word}
use Rattle.eval_store.specs.Words.{value_of_word, values_of}
use Rattle.eval_store.specs.View.{Beside}
use Rattle.eval_state.specs.declared.frame.ContinuationFrame.{ContinuationFrame}
use Rattle.eval_state.specs.declared.given.Given.{Given}
use Rattle.eval_state.specs.declared.situation.Situation.{Situation}
use Rattle.eval_state.specs.declared.machine.Machine.{Machine}
use Rattle.eval_state.specs.Frames.{last_of, others_of, frames_in, situation_in, clause_wait}
use Rattle.eval_state.specs.Operands.{IsPushed}
use Rattle.eval_state.specs.Tops.{taken, below}
use Rattle.eval_state.specs.View.{StepsTo, IsGiven, setting_of, at, top, frames, state, dynamic_context}
use Rattle.eval_state.proofs.SlotLists.{last_more, others_more}
use Rattle.eval_control.specs.Valued.{clause_body_of}

-- the frame is that one
pub framed : (old new : Machine) (o : List (List ℕ) → Outcome) (w x : ContinuationFrame) → w ≡ x
    → StepsTo old new (λ names s b. outcome_step s (taken names old x) (o names) (below names old x) (state names old b))
    → StepsTo old new (λ names s b. outcome_step s (taken names old w) (o names) (below names old w) (state names old b))
framed old new o w x e y = subst (λ k. StepsTo old new (λ names s b. outcome_step s (taken names old k) (o names) (below names old k) (state names old b))) (sym e) y

pub framed_ok : {T E : Type 0} (r : Result T E) (old new : Machine) (o : List (List ℕ) → Outcome) (w x : ContinuationFrame) → w ≡ x
    → OnOk r (StepsTo old new (λ names s b. outcome_step s (taken names old x) (o names) (below names old x) (state names old b)))
    → OnOk r (StepsTo old new (λ names s b. outcome_step s (taken names old w) (o names) (below names old w) (state names old b)))
framed_ok r old new o w x e y = subst (λ k. OnOk r (StepsTo old new (λ names s b. outcome_step s (taken names old k) (o names) (below names old k) (state names old b)))) (sym e) y

-- the level and the dynamic context of a situation
pub situated : (old new : Machine) (p : Situation) (f : List (List ℕ) → Setting → Beside → ℕ → DynamicContext → Configuration)
    → StepsTo old new (λ names s b. f names s b p.level (dynamic_context names old p.around))
    → StepsTo old new (λ names s b. f names s b (at names old p).level (at names old p).around)
unfolding situation_in
situated old new p f x = x

pub situated_ok : {T E : Type 0} (r : Result T E) (old new : Machine) (p : Situation) (f : List (List ℕ) → Setting → Beside → ℕ → DynamicContext → Configuration)
    → OnOk r (StepsTo old new (λ names s b. f names s b p.level (dynamic_context names old p.around)))
    → OnOk r (StepsTo old new (λ names s b. f names s b (at names old p).level (at names old p).around))
unfolding situation_in
situated_ok r old new p f x = x

-- a situation at another level
pub at_another : (names : List (List ℕ)) (m : Machine) (s : Situation) (level : ℕ) → at names m (record s { level = level }) ≡ record (at names m s) { level = level }
unfolding situation_in
at_another names m s level = refl

-- from a machine with an operand more
pub after_operand : (old mid new : Machine) (n next : ℕ) (w : Word) (a : Situation) (f : List (List ℕ) → Setting → ℕ → List Value → machine.Situation → List machine.ContinuationFrame → FlatState → Configuration)
    → next ≡ suc n → IsPushed old mid w
    → StepsTo mid new (λ names s b. f names s next (top names mid next) (at names mid a) (frames names mid next) (state names mid b))
    → StepsTo old new (λ names s b. f names s (suc n) (top names old n ++ value_of_word names w ∷ []) (at names old a) (frames names old n) (state names old b))
after_operand old mid new n next w a f e p x =
    let given_is : mid.given ≡ old.given = ap (λ (m : Machine). m.given) p.same in
    record {
      given = x.given ∙ given_is;
      comes = λ names b g.
          let tops : List Word → List Value = λ os. values_of names os in
          x.comes names b (let P : Given → Type 0 = λ y. IsGiven names y in subst P (sym given_is) g)
          ∙ ap (λ k. f names (setting_of names mid.given) k (top names mid k) (at names mid a) (frames names mid k) (state names mid b)) e
          ∙ ap (λ (m : Machine). f names (setting_of names m.given) (suc n) (tops (last_of (suc n) mid.operands.items)) (at names m a) (frames_in names m.current (others_of (suc n) mid.operands.items) m.slots.items (reverse m.frames.items)) (state names m b)) p.same
          ∙ ap (λ os. f names (setting_of names old.given) (suc n) (tops (last_of (suc n) os)) (at names old a) (frames_in names old.current (others_of (suc n) os) old.slots.items (reverse old.frames.items)) (state names old b)) p.operands
          ∙ ap (λ os. f names (setting_of names old.given) (suc n) (tops os) (at names old a) (frames_in names old.current (others_of (suc n) (old.operands.items ++ w ∷ [])) old.slots.items (reverse old.frames.items)) (state names old b)) (last_more old.operands.items n w)
          ∙ ap (λ vs. f names (setting_of names old.given) (suc n) vs (at names old a) (frames_in names old.current (others_of (suc n) (old.operands.items ++ w ∷ [])) old.slots.items (reverse old.frames.items)) (state names old b)) (map-append (value_of_word names) (last_of n old.operands.items) (w ∷ []))
          ∙ ap (λ os. f names (setting_of names old.given) (suc n) (top names old n ++ value_of_word names w ∷ []) (at names old a) (frames_in names old.current os old.slots.items (reverse old.frames.items)) (state names old b)) (others_more old.operands.items n w);
    }

-- the test of a loop, and of a clause
pub loop_on : (s : Setting) (test body : FlatForm) (v : Value) (at : machine.Situation) (frames : List machine.ContinuationFrame) (z : FlatState) → is_true v ≡ true
    → configuration (evaluate body at) (awaits (while_body test body at) ∷ frames) z ≡ value_step s (while_test test body at) v frames z
loop_on s test body v at frames z h = rw h refl

pub loop_off : (s : Setting) (test body : FlatForm) (v : Value) (at : machine.Situation) (frames : List machine.ContinuationFrame) (z : FlatState) → is_true v ≡ false
    → ended (gives nil z) frames ≡ value_step s (while_test test body at) v frames z
loop_off s test body v at frames z h = rw h refl

pub clause_on : (s : Setting) (v : Value) (c : Option FlatClause) (cs : FlatClauses) (at : machine.Situation) (frames : List machine.ContinuationFrame) (z : FlatState) → is_true v ≡ true
    → clause_body_of s v c at frames z ≡ value_step s (clause_wait c cs at) v frames z
clause_on s v None cs at frames z h = rw h refl
clause_on s v (Some c) cs at frames z h = rw h refl

pub clause_off : (s : Setting) (v : Value) (c : Option FlatClause) (cs : FlatClauses) (at : machine.Situation) (frames : List machine.ContinuationFrame) (z : FlatState) → is_true v ≡ false
    → clauses_step s cs at frames z ≡ value_step s (clause_wait c cs at) v frames z
clause_off s v None cs at frames z h = rw h refl
clause_off s v (Some c) cs at frames z h = rw h refl

-- what was read at a place
pub got : {X : Type 0} (xs : List X) (n : ℕ) (o : Option (Bor X)) → MatchOption o (length xs ≤ n) (λ x. slice_get xs n ≡ Some x.now) → option_copied o ≡ slice_get xs n
got xs n None h = sym (slice_get_past xs n h)
got xs n (Some x) h = sym h
