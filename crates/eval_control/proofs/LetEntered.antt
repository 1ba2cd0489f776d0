-- A body with new variables begins above the frame that drops them.
use Rattle.std.proofs.Common.{◌≡◌, ℕ, ◌+◌, List, ◌∷◌, ◌++◌, length, min, refl, ap, sym, ◌∙◌, subst}
use Rattle.std.specs.Prelude.{reverse}
use Rattle.flat_language.specs.declared.flat_core.FlatBinding.{FlatBinding}
use Rattle.flat_language.specs.FlatForm.{FlatForm}
use Rattle.flat_language.specs.FlatMeaning.{binding_homes}
use Rattle.flat_language.specs.FlatState.{FlatState, FlatEvaluated, with_slots}
use Rattle.flat_language.specs.model.View.{bindings_of}
use Rattle.eval_machine.specs.Configuration.{Setting, Transition, configuration, evaluate, drops_slots, then_on}
use Rattle.eval_machine.specs.Configuration as machine
use Rattle.lang_meaning.specs.Values.{Value}
use Rattle.eval_store.specs.declared.word.Word.{Word}
use Rattle.eval_store.specs.Words.{value_of_word, values_of}
use Rattle.eval_state.specs.declared.slot.Slot.{Slot}
use Rattle.eval_state.specs.declared.given.Given.{Given}
use Rattle.eval_state.specs.declared.frame.ContinuationFrame.{ContinuationFrame}
use Rattle.eval_state.specs.declared.frame.ContinuationFrame.TheVariants.{DropsSlots}
use Rattle.eval_state.specs.declared.situation.Situation.{Situation}
use Rattle.eval_state.specs.declared.situation.Activation.{Activation}
use Rattle.eval_state.specs.declared.machine.Machine.{Machine}
use Rattle.eval_state.specs.Doing.{Gives}
use Rattle.eval_state.specs.Frames.{last_of, others_of, frame_slots, situation_in, frames_in}
use Rattle.eval_state.specs.Operands.{IsDropped}
use Rattle.eval_state.specs.Tops.{IsAbove}
use Rattle.eval_state.specs.Variables.{AreSlotted}
use Rattle.eval_state.specs.View.{StepsTo, IsGiven, setting_of, at, state, top, frames}
use Rattle.eval_state.proofs.Pushes.{one_on, others_none}
use Rattle.eval_state.proofs.SlotLists.{others_below, last_held}
use Rattle.eval_state.proofs.Tops.{stays_unlinked}
use Rattle.eval_state.proofs.Aside.{situation_aside, frames_aside}
use Rattle.eval_control.specs.LetBodies.{let_enters}

-- what goes on with the value of what was done, in a situation
pub given_at : (old mid new : Machine) (n : ℕ) (q : Situation) (f : List (List ℕ) → Setting → FlatState → FlatEvaluated) (w : Word)
    (t : List (List ℕ) → Setting → List Value → machine.Situation → Value → Transition)
    → Gives old mid (λ names z. f names (setting_of names old.given) z) w
    → StepsTo mid new (λ names s b. t names s (top names mid n) (at names mid q) (value_of_word names w) (frames names mid n) (state names mid b))
    → StepsTo old new (λ names s b. then_on (f names s (state names old b)) (frames names old n)
    (λ v after. t names s (top names old n) (at names old q) v (frames names old n) after))
given_at old mid new n q f w t d s = record {
  given = s.given ∙ ap (λ (m : Machine). m.given) d.same;
  comes = λ names b g.
      s.comes names b (let P : Given → Type 0 = λ x. IsGiven names x in subst P (sym (ap (λ (m : Machine). m.given) d.same)) g)
      ∙ ap (λ (m : Machine). t names (setting_of names m.given) (top names m n) (at names m q) (value_of_word names w) (frames names m n)
      (state names mid b)) d.same
      ∙ sym (ap (λ r. then_on r (frames names old n)
      (λ v after. t names (setting_of names old.given) (top names old n) (at names old q) v (frames names old n) after)) (d.state_is names b));
}

-- the frame that drops the slots, and those below it
dropping : (names : List (List ℕ)) (a : Activation) (operands : List Word) (slots : List Slot) (ws : List ContinuationFrame) (n : ℕ)
    → frames_in names a operands slots (DropsSlots n ∷ ws) ≡ drops_slots n ∷ frames_in names a operands slots ws
unfolding frames_in
dropping names a operands slots ws n = ap (λ os. drops_slots n ∷ frames_in names a os slots ws) (others_none operands)

pub let_entered : (old pushed slotted dropped new : Machine) (bs : List FlatBinding) (n held before : ℕ) (body : FlatForm) (q : Situation)
    → held ≡ min n (length old.operands.items)
    → ((names : List (List ℕ)) → before ≡ length (frame_slots names old.current old.slots.items))
    → IsAbove old pushed (DropsSlots before) → AreSlotted pushed slotted (binding_homes (bindings_of bs)) (last_of held pushed.operands.items)
    → IsDropped slotted dropped n
    → StepsTo dropped new (λ names s b. configuration (evaluate body (at names dropped q)) (frames names dropped 0) (state names dropped b))
    → StepsTo old new (λ names s b. let_enters (bindings_of bs) body (top names old n) (at names old q) (frames names old n) (state names old b))
let_entered old pushed slotted dropped new bs n held before body q is_held is_before above are_slotted is_dropped s =
    let current : Activation = record old.current { slots = slotted.current.slots } in
    let slotted_is : slotted ≡ record old { frames = pushed.frames; current = current; slots = slotted.slots; store = slotted.store } =
    are_slotted.same ∙ ap (λ (m : Machine). record m { slots = slotted.slots; current = record m.current { slots = slotted.current.slots }; store = slotted.store }) above.same in
    let dropped_is : dropped ≡ record old { frames = pushed.frames; current = current; slots = slotted.slots; operands = dropped.operands; store = slotted.store } =
    is_dropped.same ∙ ap (λ (m : Machine). record m { operands = dropped.operands }) slotted_is in
    let operands_are : others_of 0 dropped.operands.items ≡ others_of n old.operands.items =
    others_none dropped.operands.items ∙ is_dropped.operands ∙ ap (λ (m : Machine). others_of n m.operands.items) slotted_is in
    let slots_are : slotted.slots.items ≡ old.slots.items ++ are_slotted.more =
    are_slotted.slots ∙ ap (λ (m : Machine). m.slots.items ++ are_slotted.more) above.same in
    let count_is : slotted.current.slots ≡ old.current.slots + length are_slotted.more =
    are_slotted.count ∙ ap (λ (m : Machine). m.current.slots + length are_slotted.more) above.same in
    let frames_are : reverse pushed.frames.items ≡ DropsSlots before ∷ reverse old.frames.items =
    ap reverse above.frames ∙ one_on old.frames.items (DropsSlots before) in
    let given_is : dropped.given ≡ old.given = ap (λ (m : Machine). m.given) dropped_is in
    record {
      given = s.given ∙ given_is;
      comes = λ names b g.
          s.comes names b (let P : Given → Type 0 = λ x. IsGiven names x in subst P (sym given_is) g)
          ∙ ap (λ x. configuration (evaluate body x) (frames names dropped 0) (state names dropped b))
          (ap (λ (m : Machine). at names m q) dropped_is
          ∙ ap (λ ws. situation_in names current ws q) frames_are
          ∙ stays_unlinked names current (reverse old.frames.items) (DropsSlots before) q refl
          ∙ situation_aside names old.current slotted.current.slots (reverse old.frames.items) q)
          ∙ ap (λ x. configuration (evaluate body (at names old q)) x (state names dropped b))
          (ap (λ (m : Machine). frames names m 0) dropped_is
          ∙ ap (λ ws. frames_in names current (others_of 0 dropped.operands.items) slotted.slots.items ws) frames_are
          ∙ ap (λ os. frames_in names current os slotted.slots.items (DropsSlots before ∷ reverse old.frames.items)) operands_are
          ∙ frames_aside names old.current slotted.current.slots (others_of n old.operands.items) old.slots.items slotted.slots.items
          (DropsSlots before ∷ reverse old.frames.items)
          (ap (others_of slotted.current.slots) slots_are ∙ others_below old.slots.items are_slotted.more old.current.slots slotted.current.slots count_is)
          ∙ dropping names old.current (others_of n old.operands.items) old.slots.items (reverse old.frames.items) before
          ∙ ap (λ k. drops_slots k ∷ frames names old n) (is_before names))
          ∙ ap (λ x. configuration (evaluate body (at names old q)) (drops_slots (length (frame_slots names old.current old.slots.items)) ∷ frames names old n) x)
          (ap (λ (m : Machine). state names m b) is_dropped.same
          ∙ are_slotted.state_is names b
          ∙ ap (λ (m : Machine). with_slots (binding_homes (bindings_of bs)) (values_of names (last_of held m.operands.items)) (state names m b)) above.same
          ∙ ap (λ xs. with_slots (binding_homes (bindings_of bs)) (values_of names xs) (state names old b)) (last_held old.operands.items n held is_held));
    }
