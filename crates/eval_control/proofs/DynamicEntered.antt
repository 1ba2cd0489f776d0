-- A body with dynamic bindings begins above the frame that has them.
use Rattle.std.proofs.Common.{Bor, ◌≡◌, ℕ, suc, ◌+◌, ◌<◌, ◌≤◌, List, [], ◌∷◌, ◌++◌, Some, refl, ap, sym, ◌∙◌, subst, length, take, min, append_assoc, arith}
use Rattle.std.proofs.lemmas.List.{append-nil, take_all, map-append, length-reverse}
use Rattle.std.specs.Prelude.{reverse, slice_get}
use Rattle.base.specs.model.DataRest.{take_at}
use Rattle.lang_meaning.specs.Lookup.{numbered}
use Rattle.lang_meaning.specs.Values.{Value}
use Rattle.flat_language.specs.declared.flat_core.FlatDynBinding.{FlatDynBinding}
use Rattle.flat_language.specs.FlatForm.{FlatForm}
use Rattle.flat_language.specs.FlatMeaning.{bound_names}
use Rattle.flat_language.specs.FlatState.{FlatState, on_state, with_values}
use Rattle.flat_language.specs.model.View.{dynamics_of}
use Rattle.eval_machine.specs.Configuration.{configuration, evaluate, unbinds}
use Rattle.eval_machine.specs.Step.{dynamic_let_step}
use Rattle.eval_store.specs.declared.word.Word.{Word}
use Rattle.eval_store.specs.Words.{value_of_word, values_of}
use Rattle.eval_store.specs.View.{Beside, seen, Becomes}
use Rattle.eval_state.specs.declared.given.Given.{Given}
use Rattle.eval_state.specs.declared.frame.ContinuationFrame.{ContinuationFrame}
use Rattle.eval_state.specs.declared.frame.ContinuationFrame.TheVariants as frame
use Rattle.eval_state.specs.declared.situation.Situation.{Situation}
use Rattle.eval_state.specs.declared.situation.Activation.{Activation}
use Rattle.eval_state.specs.declared.machine.Machine.{Machine}
use Rattle.eval_state.specs.Frames.{last_of, others_of, frame_slots, situation_in, around_in, own_in, environment_in, frames_in, own_link, exit_link, handler_link, binding_link}
use Rattle.eval_state.specs.Operands.{IsDropped}
use Rattle.eval_state.specs.Tops.{taken, below}
use Rattle.eval_state.specs.Variables.{AreVariables}
use Rattle.eval_state.specs.View.{StepsTo, IsGiven, at, state, top, frames}
use Rattle.eval_state.proofs.Linking.{over}
use Rattle.eval_state.proofs.Pushes.{passed_over, others_none}
use Rattle.eval_state.proofs.SlotLists.{last_held}

-- variables of the store, one after another
pub record IsAdding (old now : Machine) (ws : List Word) (at : ℕ) : Type 0 where
  pub same : now ≡ record old { store = now.store }
  pub state_is : (names : List (List ℕ)) (b : Beside) → state names now b ≡ with_values (values_of names (take at ws)) (state names old b)

no_values : (z : FlatState) → z ≡ with_values [] z
no_values z = ap (λ (vs : List Value). on_state (λ y. record y { variables = vs }) z) (sym (append-nil z.state.variables))

value_more : (vs : List Value) (v : Value) (z : FlatState) → with_values (v ∷ []) (with_values vs z) ≡ with_values (vs ++ v ∷ []) z
value_more vs v z = ap (λ (us : List Value). on_state (λ y. record y { variables = us }) z) (append_assoc z.state.variables vs (v ∷ []))

pub adding_begins : (m : Machine) (ws : List Word) → IsAdding m m ws 0
adding_begins m ws = record { same = refl; state_is = λ names b. no_values (state names m b) }

pub adding_goes : (old now new : Machine) (ws : List Word) (i : ℕ) (w : Word) → slice_get ws i ≡ Some w → IsAdding old now ws i
    → new ≡ record now { store = new.store } → Becomes now.store new.store (λ names b z. with_values (value_of_word names w ∷ []) z)
    → IsAdding old new ws (i + 1)
adding_goes old now new ws i w there a same becomes = record {
  same = same ∙ ap (λ (m : Machine). record m { store = new.store }) a.same;
  state_is = λ names b.
      ap (λ (m : Machine). state names m b) same
      ∙ becomes names (record b { frame = frame_slots names now.current now.slots.items })
      ∙ ap (with_values (value_of_word names w ∷ [])) (a.state_is names b)
      ∙ value_more (values_of names (take i ws)) (value_of_word names w) (state names old b)
      ∙ ap (λ vs. with_values vs (state names old b))
      (sym (map-append (value_of_word names) (take i ws) (w ∷ [])) ∙ ap (values_of names) (sym (take_at ws i w there)));
}

pub adding_ends : (old new : Machine) (ws : List Word) (i : ℕ) → length ws ≤ i → IsAdding old new ws i → AreVariables old new ws
adding_ends old new ws i h a = record {
  same = a.same;
  state_is = λ names b. a.state_is names b ∙ ap (λ xs. with_values (values_of names xs) (state names old b)) (take_all i ws h);
}

-- inside dynamic bindings
bindings_inside : (names : List (List ℕ)) (a : Activation) (ws : List ContinuationFrame) (list : Bor (List FlatDynBinding)) (first : ℕ) (q : Situation) (link : ℕ)
    → link ≡ suc (length ws)
    → situation_in names a (frame.Binds list first q.around.bindings ∷ ws) (record q { around = record q.around { bindings = link } })
    ≡ record (situation_in names a ws q) {
      around = record (situation_in names a ws q).around {
        bindings = numbered
            (bound_names names (dynamics_of list.now)) first ++ (situation_in names a ws q).around.bindings;
      };
    }
unfolding situation_in environment_in around_in own_in
bindings_inside names a ws list first q link e =
    let below : length ws < link = omega arith in
    rw (
      over (binding_link names) (frame.Binds list first q.around.bindings) ws link below,
      passed_over (handler_link names)
          (frame.Binds list first q.around.bindings) ws q.around.handlers refl,
      passed_over (exit_link names)
          (frame.Binds list first q.around.bindings) ws q.around.exits refl,
      passed_over own_link (frame.Binds list first q.around.bindings) ws q.own refl,
    ) refl

pub dynamic_entered : (old added dropped new : Machine) (list : Bor (List FlatDynBinding)) (n held first link : ℕ) (body : FlatForm) (q within : Situation)
    → held ≡ min n (length old.operands.items)
    → ((names : List (List ℕ)) (b : Beside) → first ≡ length (seen names old.store b).state.variables)
    → AreVariables old added (last_of held old.operands.items) → IsDropped added dropped n
    → link ≡ suc (length dropped.frames.items) → within ≡ record q { around = record q.around { bindings = link } }
    → StepsTo dropped new (λ names s b. configuration
    (evaluate body (situation_in names dropped.current (frame.Binds list first q.around.bindings ∷ reverse dropped.frames.items) within))
    (taken names dropped (frame.Binds list first q.around.bindings) ∷ below names dropped (frame.Binds list first q.around.bindings)) (state names dropped b))
    → StepsTo old new (λ names s b. dynamic_let_step s (dynamics_of list.now) body (top names old n) (at names old q) (frames names old n) (state names old b))
dynamic_entered old added dropped new list n held first link body q within is_held is_first are_added is_dropped is_link is_within s =
    let w : ContinuationFrame = frame.Binds list first q.around.bindings in
    let dropped_is : dropped ≡ record old { store = added.store; operands = dropped.operands } =
    is_dropped.same ∙ ap (λ (m : Machine). record m { operands = dropped.operands }) are_added.same in
    let given_is : dropped.given ≡ old.given = ap (λ (m : Machine). m.given) dropped_is in
    let operands_are : others_of 0 dropped.operands.items ≡ others_of n old.operands.items =
    others_none dropped.operands.items ∙ is_dropped.operands ∙ ap (λ (m : Machine). others_of n m.operands.items) are_added.same in
    let link_is : link ≡ suc (length (reverse old.frames.items)) =
    is_link ∙ ap (λ (m : Machine). suc (length m.frames.items)) dropped_is ∙ ap suc (sym (length-reverse old.frames.items)) in
    record {
      given = s.given ∙ given_is;
      comes = λ names b g.
          s.comes names b (let P : Given → Type 0 = λ x. IsGiven names x in subst P (sym given_is) g)
          ∙ ap (λ (m : Machine). configuration (evaluate body (situation_in names m.current (w ∷ reverse m.frames.items) within))
          (unbinds ∷ frames_in names m.current (others_of 0 dropped.operands.items) m.slots.items (reverse m.frames.items))
          (state names dropped b)) dropped_is
          ∙ ap (λ i. configuration (evaluate body (situation_in names old.current (w ∷ reverse old.frames.items) i))
          (unbinds ∷ frames_in names old.current (others_of 0 dropped.operands.items) old.slots.items (reverse old.frames.items))
          (state names dropped b)) is_within
          ∙ ap (λ p. configuration (evaluate body p)
          (unbinds ∷ frames_in names old.current (others_of 0 dropped.operands.items) old.slots.items (reverse old.frames.items)) (state names dropped b))
          (bindings_inside names old.current (reverse old.frames.items) list first q link link_is
          ∙ ap (λ k. record (at names old q) {
            around = record
                (at names old q).around { bindings = numbered (bound_names names (dynamics_of list.now)) k ++ (at names old q).around.bindings };
          })
          (is_first names b))
          ∙ ap (λ os. configuration (evaluate body
          (record (at names old q) {
            around = record
                (at names old q).around {
                  bindings = numbered (bound_names names (dynamics_of list.now))
                      (length (state names old b).state.variables) ++ (at names old q).around.bindings;
                };
          }))
          (unbinds ∷ frames_in names old.current os old.slots.items (reverse old.frames.items)) (state names dropped b)) operands_are
          ∙ ap (configuration (evaluate body (record
          (at names old q) {
            around = record
                (at names old q).around {
                  bindings = numbered (bound_names names (dynamics_of list.now))
                      (length (state names old b).state.variables) ++ (at names old q).around.bindings;
                };
          }))
          (unbinds ∷ frames names old n))
          (ap (λ (m : Machine). state names m b) is_dropped.same
          ∙ are_added.state_is names b
          ∙ ap (λ xs. with_values (values_of names xs) (state names old b)) (last_held old.operands.items n held is_held));
    }
