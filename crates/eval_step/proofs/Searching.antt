-- Dynamic variables: the innermost binding is found by the machine, and those that are passed are counted.
use Rattle.std.proofs.Common.{◌≡◌, ℕ, List, Option, Some, None, refl, ap, sym, ◌∙◌, subst}
use Rattle.std.specs.Prelude.{reverse, option_map}
use Rattle.lang_meaning.specs.Lookup.{passed, value_at, set_at}
use Rattle.lang_meaning.specs.State.{value}
use Rattle.flat_language.specs.FlatState.{FlatState, gives, on_state, charged}
use Rattle.eval_machine.specs.Applications.{searched}
use Rattle.eval_machine.specs.Configuration.{Setting, Transition, ContinuationFrame, configuration, come_to, ended, some_or, first_that}
use Rattle.eval_machine.specs.Configuration as machine
use Rattle.eval_store.specs.declared.store.Store.{Store}
use Rattle.eval_store.specs.declared.word.Word.{Word}
use Rattle.eval_store.specs.Words.{value_of_word}
use Rattle.eval_store.specs.View.{Beside, seen, Becomes}
use Rattle.eval_state.specs.declared.given.Given.{Given}
use Rattle.eval_state.specs.declared.machine.Machine.{Machine}
use Rattle.eval_state.specs.declared.situation.Situation.{Situation}
use Rattle.eval_state.specs.Chains.{chained}
use Rattle.eval_state.specs.Frames.{binding_link, situation_in, around_in, frame_slots}
use Rattle.eval_state.specs.View.{StepsTo, IsGiven, setting_of, at, frames, state}
use Rattle.eval_control.specs.Bindings.{is_named, variable_of, IsBindingFound}
use Rattle.eval_step.specs.declared.evaluator.Evaluator.{Evaluator}
use Rattle.eval_step.specs.Runs.{IsAtConfiguration, Runs}
use Rattle.eval_step.proofs.Lifting.{beside_another}

-- the bindings that are around
abbrev pub around_at : List (List ℕ) → Machine → Situation → List (List ℕ × ℕ)
around_at names m q = chained (binding_link names) (reverse m.frames.items) q.around.bindings

around_bindings : (names : List (List ℕ)) (m : Machine) (q : Situation) → around_at names m q ≡ (at names m q).around.bindings
unfolding situation_in around_in
around_bindings names m q = refl

-- a step with the number of the variable that is found
with_variable : (names : List (List ℕ)) (n v : ℕ) (bs : List (List ℕ × ℕ)) (found : ℕ → Transition) (other : Transition) (fs : List ContinuationFrame) (z : FlatState)
    → variable_of names n bs ≡ Some v
    → found v fs z ≡ some_or (first_that (is_named names n) bs) other (λ (b : List ℕ × ℕ). found b.1) fs z
with_variable names n v bs found other fs z e = by (first_that (is_named names n) bs) e
  where
    by : (o : Option (List ℕ × ℕ)) → option_map (λ (b : List ℕ × ℕ). b.1) o ≡ Some v → found v fs z ≡ some_or o other (λ (b : List ℕ × ℕ). found b.1) fs z
    by (Some b) h = let same : v ≡ b.1 = cc in ap (λ k. found k fs z) same
    by None h = absurd (cc)

without_variable : (names : List (List ℕ)) (n : ℕ) (bs : List (List ℕ × ℕ)) (found : ℕ → Transition) (other : Transition) (fs : List ContinuationFrame) (z : FlatState)
    → variable_of names n bs ≡ None
    → other fs z ≡ some_or (first_that (is_named names n) bs) other (λ (b : List ℕ × ℕ). found b.1) fs z
without_variable names n bs found other fs z e = by (first_that (is_named names n) bs) e
  where
    by : (o : Option (List ℕ × ℕ)) → option_map (λ (b : List ℕ × ℕ). b.1) o ≡ None → other fs z ≡ some_or o other (λ (b : List ℕ × ℕ). found b.1) fs z
    by (Some b) h = absurd (cc)
    by None h = refl

-- how many were passed
abbrev pub passed_at : List (List ℕ) → ℕ → Machine → Situation → ℕ
passed_at names n m q = passed (is_named names n) (around_at names m q)

-- a binding was found
pub found_runs : (e : Evaluator) (mid m : Machine) (n v : ℕ) (q : Situation) (found : List (List ℕ) → ℕ → Transition) (other : List (List ℕ) → Setting → Transition)
    → IsBindingFound e.machine mid n q.around.bindings (Some v)
    → StepsTo mid m (λ names s b. found names v (frames names mid 0) (state names mid b))
    → Runs e (record e { machine = m }) (λ names s b.
    searched (is_named s.names n) (λ (x : List ℕ × ℕ). found names x.1) (other names s) (at names e.machine q).around.bindings (frames names e.machine 0)
    (state names e.machine b))
found_runs e mid m n v q found other is s =
    let given_is : mid.given ≡ e.machine.given = ap (λ (x : Machine). x.given) is.same in
    record {
      given = s.given ∙ given_is;
      ended = refl;
      comes = λ names written unread b k st. record {
        beside = b;
        stands = beside_another names e m written unread b st;
        is =
            s.comes names b (let P : Given → Type 0 = λ x. IsGiven names x in subst P (sym given_is) k)
            ∙ ap (λ (x : Machine). found names v (frames names x 0) (state names mid b)) is.same
            ∙ ap (λ z. found names v (frames names e.machine 0) z) (is.counted names b k)
            ∙ with_variable names n v (around_at names e.machine q) (found names) (other names (setting_of names e.machine.given)) (frames names e.machine 0)
            (charged (passed_at names n e.machine q) (state names e.machine b)) (is.found names k)
            ∙ ap (λ bs. searched (is_named names n) (λ (x : List ℕ × ℕ). found names x.1) (other names (setting_of names e.machine.given)) bs
            (frames names e.machine 0) (state names e.machine b))
            (around_bindings names e.machine q);
      };
    }

-- none was found
pub unfound_runs : (e new : Evaluator) (mid : Machine) (n : ℕ) (q : Situation) (found : List (List ℕ) → ℕ → Transition)
    (other : List (List ℕ) → Setting → machine.Situation → Transition)
    → IsBindingFound e.machine mid n q.around.bindings None
    → Runs (record e { machine = mid }) new (λ names s b. other names s (at names mid q) (frames names mid 0) (state names mid b))
    → Runs e new (λ names s b.
    searched (is_named s.names n) (λ (x : List ℕ × ℕ). found names x.1) (other names s (at names e.machine q)) (at names e.machine q).around.bindings
    (frames names e.machine 0) (state names e.machine b))
unfound_runs e new mid n q found other is r =
    let given_is : mid.given ≡ e.machine.given = ap (λ (x : Machine). x.given) is.same in
    record {
      given = r.given ∙ given_is;
      ended = r.ended;
      comes = λ names written unread b k st.
          let there : IsAtConfiguration names new written unread (other names (setting_of names mid.given) (at names mid q) (frames names mid 0) (state names mid b)) =
          r.comes names written unread b (let P : Given → Type 0 = λ x. IsGiven names x in subst P (sym given_is) k)
          (beside_another names e mid written unread b st) in
          record {
            beside = there.beside;
            stands = there.stands;
            is =
                there.is
                ∙ ap (λ (x : Machine). other names (setting_of names x.given) (at names x q) (frames names x 0) (state names mid b)) is.same
                ∙ ap (λ z. other names (setting_of names e.machine.given) (at names e.machine q) (frames names e.machine 0) z) (is.counted names b k)
                ∙ without_variable names n (around_at names e.machine q) (found names)
                (other names (setting_of names e.machine.given) (at names e.machine q)) (frames names e.machine 0)
                (charged (passed_at names n e.machine q) (state names e.machine b)) (is.found names k)
                ∙ ap (λ bs. searched (is_named names n) (λ (x : List ℕ × ℕ). found names x.1)
                (other names (setting_of names e.machine.given) (at names e.machine q)) bs (frames names e.machine 0) (state names e.machine b))
                (around_bindings names e.machine q);
          };
    }

-- the value of a variable of the store, and a variable that is set
pub variable_given : (mid m : Machine) (v : ℕ) (w : Word)
    → ((names : List (List ℕ)) (b : Beside) → value_of_word names w ≡ value_at (Some v) (seen names mid.store b).state)
    → StepsTo mid m (λ names s b. configuration (come_to (value (value_of_word names w))) (frames names mid 0) (state names mid b))
    → StepsTo mid m (λ names s b. ended (gives (value_at (Some v) (state names mid b).state) (state names mid b)) (frames names mid 0))
variable_given mid m v w is s = record {
  given = s.given;
  comes = λ names b k.
      s.comes names b k
      ∙ ap (λ x. configuration (come_to (value x)) (frames names mid 0) (state names mid b))
      (is names (record b { frame = frame_slots names mid.current mid.slots.items }));
}

pub variable_set : (mid m : Machine) (t : Store) (v : ℕ) (w : Word)
    → Becomes mid.store t (λ names b z. on_state (λ y. set_at (Some v) (value_of_word names w) y) z)
    → StepsTo (record mid { store = t }) m (λ names s b.
    configuration (come_to (value (value_of_word names w))) (frames names (record mid { store = t }) 0) (state names (record mid { store = t }) b))
    → StepsTo mid m (λ names s b. ended (gives (value_of_word names w) (on_state (λ y. set_at (Some v) (value_of_word names w) y) (state names mid b)))
    (frames names mid 0))
variable_set mid m t v w is s = record {
  given = s.given;
  comes = λ names b k.
      s.comes names b k
      ∙ ap (λ z. configuration (come_to (value (value_of_word names w))) (frames names mid 0) z)
      (is names (record b { frame = frame_slots names mid.current mid.slots.items }));
}
