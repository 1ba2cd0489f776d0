-- A body begins in an activation of its own, above the frame that has the caller's.
use Rattle.std.proofs.Common.{◌≡◌, ℕ, ◌+◌, ◌-◌, List, [], ◌∷◌, ◌++◌, Option, length, map, refl, ap, sym, ◌∙◌, subst, false, arith}
use Rattle.std.specs.Prelude.{reverse, nat_lt}
use Rattle.std.proofs.lemmas.List.{drop_all}
use Rattle.std.proofs.lemmas.Bool.{le-ltb}
use Rattle.flat_language.specs.FlatForm.{FlatForm}
use Rattle.flat_language.specs.FlatNodes.{homes}
use Rattle.flat_language.specs.FlatState.{no_environment, with_slots}
use Rattle.eval_machine.specs.Configuration.{configuration, evaluate, restores_slots}
use Rattle.eval_machine.specs.Applications.{begin_body}
use Rattle.eval_store.specs.declared.word.Word.{Word}
use Rattle.eval_store.specs.Words.{values_of, called_or_none}
use Rattle.eval_store.specs.View.{seen}
use Rattle.eval_state.specs.declared.slot.Slot.{Slot}
use Rattle.eval_state.specs.declared.frame.ContinuationFrame.{ContinuationFrame}
use Rattle.eval_state.specs.declared.frame.ContinuationFrame.TheVariants.{RestoresSlots}
use Rattle.eval_state.specs.declared.given.Given.{Given}
use Rattle.eval_state.specs.declared.situation.DynamicLinks.{DynamicLinks}
use Rattle.eval_state.specs.declared.situation.Activation.{Activation}
use Rattle.eval_state.specs.declared.machine.Machine.{Machine}
use Rattle.eval_application.specs.declared.entering.Entering.{Entering}
use Rattle.eval_state.specs.Chains.{Linking, chained}
use Rattle.eval_state.specs.Frames.{last_of, others_of, slot_of, frame_slots, around_in, own_in, environment_in, situation_in, frames_in, own_link}
use Rattle.eval_state.specs.View.{StepsTo, IsGiven, at, state, top, frames, dynamic_context}
use Rattle.eval_state.specs.Operands.{IsDropped}
use Rattle.eval_state.specs.Variables.{AreSlotted}
use Rattle.eval_application.specs.Entering.{entered_of, captured_in}
use Rattle.eval_state.proofs.Pushes.{one_on, others_none, around_stays}
use Rattle.eval_application.proofs.MoreSlots.{below_more}

-- nothing is found from a link to nothing
pub from_nothing : {F X : Type 0} (of : F → Option (Linking X)) (ws : List F) → chained of ws 0 ≡ []
unfolding chained
from_nothing of [] = refl
from_nothing of (w ∷ ws) = let t : nat_lt (length ws) 0 ≡ false = le-ltb (length ws) 0 (omega arith) in rw t (from_nothing of ws)

no_exits : (ws : List ContinuationFrame) → own_in ws 0 ≡ []
unfolding own_in
no_exits ws = ap reverse (from_nothing own_link ws)

-- the situation of the body
body_situation : (names : List (List ℕ)) (a saved : Activation) (ws : List ContinuationFrame) (level : ℕ) (around : DynamicLinks)
    → situation_in names a (RestoresSlots saved ∷ ws) (record { level = level; own = 0; around = around })
    ≡ record { level = level; environment = record no_environment { captured = captured_in names a; method = called_or_none names a.method }; around = around_in names ws around }
unfolding situation_in environment_in
body_situation names a saved ws level around =
    ap (λ xs. record { level = level; environment = record { captured = captured_in names a; exits = xs; method = called_or_none names a.method }; around = around_in names (RestoresSlots saved ∷ ws) around }) (no_exits (RestoresSlots saved ∷ ws))
    ∙ ap (λ x. record { level = level; environment = record no_environment { captured = captured_in names a; method = called_or_none names a.method }; around = x })
    (around_stays names ws (RestoresSlots saved) around (record { own = refl; exit = refl; handler = refl; binding = refl }))

-- the frames below the body
body_frames : (names : List (List ℕ)) (a saved : Activation) (operands : List Word) (slots more : List Slot) (ws : List ContinuationFrame) → a.slots ≡ 0 + length more
    → frames_in names a operands (slots ++ more) (RestoresSlots saved ∷ ws) ≡ restores_slots (frame_slots names saved slots) ∷ frames_in names saved operands slots ws
unfolding frames_in
body_frames names a saved operands slots more ws e =
    ap (λ xs. restores_slots (frame_slots names saved xs) ∷ frames_in names saved (others_of 0 operands) xs ws) (below_more slots more 0 a.slots e ∙ others_none slots)
    ∙ ap (λ os. restores_slots (frame_slots names saved slots) ∷ frames_in names saved os slots ws) (others_none operands)

last_none : {X : Type 0} (xs : List X) → last_of 0 xs ≡ []
last_none xs = drop_all (length xs - 0) xs (omega arith)

pub body_begun : (old pushed slotted dropped new : Machine) (p : Entering) (n level : ℕ) (around : DynamicLinks) (body : FlatForm)
    → pushed ≡ record old { frames = pushed.frames; current = record p.activation { slots = 0 } }
    → pushed.frames.items ≡ old.frames.items ++ RestoresSlots old.current ∷ []
    → AreSlotted pushed slotted (homes p.procedure.now) (last_of n pushed.operands.items) → IsDropped slotted dropped n → body ≡ p.procedure.now.body
    → StepsTo dropped new (λ names s b. configuration (evaluate body (at names dropped (record { level = level; own = 0; around = around }))) (frames names dropped 0) (state names dropped b))
    → StepsTo old new (λ names s b. begin_body s p.procedure.now (entered_of names p).captured (entered_of names p).called (top names old n) level (dynamic_context names old around) (frames names old n) (state names old b))
body_begun old pushed slotted dropped new p n level around body is_pushed items are_slotted is_dropped is_body s =
    let current : Activation = record p.activation { slots = slotted.current.slots } in
    let slotted_is : slotted ≡ record old { frames = pushed.frames; current = current; slots = slotted.slots; store = slotted.store } =
    are_slotted.same ∙ ap (λ (m : Machine). record m { slots = slotted.slots; current = record m.current { slots = slotted.current.slots }; store = slotted.store }) is_pushed in
    let dropped_is : dropped ≡ record old { frames = pushed.frames; current = current; slots = slotted.slots; operands = dropped.operands; store = slotted.store } =
    is_dropped.same ∙ ap (λ (m : Machine). record m { operands = dropped.operands }) slotted_is in
    let operands_are : others_of 0 dropped.operands.items ≡ others_of n old.operands.items =
    others_none dropped.operands.items ∙ is_dropped.operands ∙ ap (λ (m : Machine). others_of n m.operands.items) slotted_is in
    let slots_are : slotted.slots.items ≡ old.slots.items ++ are_slotted.more =
    are_slotted.slots ∙ ap (λ (m : Machine). m.slots.items ++ are_slotted.more) is_pushed in
    let count_is : slotted.current.slots ≡ 0 + length are_slotted.more =
    are_slotted.count ∙ ap (λ (m : Machine). m.current.slots + length are_slotted.more) is_pushed in
    let given_is : dropped.given ≡ old.given = ap (λ (m : Machine). m.given) dropped_is in
    record {
      given = s.given ∙ given_is;
      comes = λ names b g.
          s.comes names b (let P : Given → Type 0 = λ x. IsGiven names x in subst P (sym given_is) g)
          ∙ ap (λ f. configuration (evaluate f (at names dropped (record { level = level; own = 0; around = around }))) (frames names dropped 0) (state names dropped b)) is_body
          ∙ ap (λ x. configuration (evaluate p.procedure.now.body x) (frames names dropped 0) (state names dropped b))
          (ap (λ (m : Machine). at names m (record { level = level; own = 0; around = around })) dropped_is
          ∙ ap (λ ws. situation_in names current ws (record { level = level; own = 0; around = around })) (ap reverse items ∙ one_on old.frames.items (RestoresSlots old.current))
          ∙ body_situation names current old.current (reverse old.frames.items) level around)
          ∙ ap (λ x. configuration (evaluate p.procedure.now.body (record { level = level; environment = record no_environment { captured = captured_in names current; method = called_or_none names current.method }; around = dynamic_context names old around })) x (state names dropped b))
          (ap (λ (m : Machine). frames names m 0) dropped_is
          ∙ ap (λ ws. frames_in names current (others_of 0 dropped.operands.items) slotted.slots.items ws) (ap reverse items ∙ one_on old.frames.items (RestoresSlots old.current))
          ∙ ap (λ os. frames_in names current os slotted.slots.items (RestoresSlots old.current ∷ reverse old.frames.items)) operands_are
          ∙ ap (λ xs. frames_in names current (others_of n old.operands.items) xs (RestoresSlots old.current ∷ reverse old.frames.items)) slots_are
          ∙ body_frames names current old.current (others_of n old.operands.items) old.slots.items are_slotted.more (reverse old.frames.items) count_is)
          ∙ ap (λ x. configuration (evaluate p.procedure.now.body (record { level = level; environment = record no_environment { captured = captured_in names current; method = called_or_none names current.method }; around = dynamic_context names old around }))
          (restores_slots (frame_slots names old.current old.slots.items) ∷ frames names old n) x)
          (ap (λ (m : Machine). state names m b) is_dropped.same
          ∙ are_slotted.state_is names b
          ∙ ap (λ (m : Machine). with_slots (homes p.procedure.now) (values_of names (last_of n m.operands.items)) (state names m b)) is_pushed
          ∙ ap (λ xs. with_slots (homes p.procedure.now) (top names old n) (seen names old.store (record b { frame = map (slot_of names) xs }))) (last_none old.slots.items));
    }
