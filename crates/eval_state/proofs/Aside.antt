-- The frames below stay what they are when the slots of the activation that runs change.
use Rattle.std.proofs.Common.{◌≡◌, ℕ, List, [], ◌∷◌, refl, ap, ◌∙◌, reverse}
use Rattle.flat_language.specs.FlatState.{FlatState}
use Rattle.eval_machine.specs.Configuration.{Setting, Configuration, restores_slots}
use Rattle.eval_machine.specs.Configuration as machine
use Rattle.eval_store.specs.declared.word.Word.{Word}
use Rattle.eval_store.specs.Words.{values_of}
use Rattle.eval_state.specs.declared.slot.Slot.{Slot}
use Rattle.eval_state.specs.declared.situation.Situation.{Situation}
use Rattle.eval_state.specs.declared.situation.Activation.{Activation}
use Rattle.eval_state.specs.declared.machine.Machine.{Machine}
use Rattle.eval_state.specs.declared.frame.ContinuationFrame.{ContinuationFrame}
use Rattle.eval_state.specs.declared.frame.ContinuationFrame.TheVariants as frame
use Rattle.eval_state.specs.Frames.{last_of, others_of, operands_of, frame_slots, frame_in, frames_in, situation_in, environment_in}
use Rattle.eval_state.specs.Slots.{IsInPlace, IsChanged}
use Rattle.eval_state.specs.View.{StepsTo, at, frames, state}
use Rattle.eval_state.proofs.Going.{followed, from_given}

-- a situation does not hang on how many slots there are
pub situation_aside : (names : List (List ℕ)) (a : Activation) (n : ℕ) (ws : List ContinuationFrame) (s : Situation) → situation_in names (record a { slots = n }) ws s ≡ situation_in names a ws s
unfolding situation_in environment_in
situation_aside names a n ws s = refl

pub frames_aside : (names : List (List ℕ)) (a : Activation) (n : ℕ) (operands : List Word) (slots after : List Slot) (ws : List ContinuationFrame) → others_of n after ≡ others_of a.slots slots
    → frames_in names (record a { slots = n }) operands after ws ≡ frames_in names a operands slots ws
unfolding frames_in situation_in environment_in
frames_aside names a n operands slots after [] h = refl
frames_aside names a n operands slots after ((frame.SetLocal x_p x_s) ∷ ws) h = ap (λ fs. frame_in names a ws (values_of names (last_of (operands_of (frame.SetLocal x_p x_s)) operands)) [] (frame.SetLocal x_p x_s) ∷ fs) (frames_aside names a n (others_of (operands_of (frame.SetLocal x_p x_s)) operands) slots after ws h)
frames_aside names a n operands slots after ((frame.SetGlobal x_n x_s) ∷ ws) h = ap (λ fs. frame_in names a ws (values_of names (last_of (operands_of (frame.SetGlobal x_n x_s)) operands)) [] (frame.SetGlobal x_n x_s) ∷ fs) (frames_aside names a n (others_of (operands_of (frame.SetGlobal x_n x_s)) operands) slots after ws h)
frames_aside names a n operands slots after ((frame.DefGlobal x_n) ∷ ws) h = ap (λ fs. frame_in names a ws (values_of names (last_of (operands_of (frame.DefGlobal x_n)) operands)) [] (frame.DefGlobal x_n) ∷ fs) (frames_aside names a n (others_of (operands_of (frame.DefGlobal x_n)) operands) slots after ws h)
frames_aside names a n operands slots after ((frame.Sequence x_fs x_n x_s) ∷ ws) h = ap (λ fs. frame_in names a ws (values_of names (last_of (operands_of (frame.Sequence x_fs x_n x_s)) operands)) [] (frame.Sequence x_fs x_n x_s) ∷ fs) (frames_aside names a n (others_of (operands_of (frame.Sequence x_fs x_n x_s)) operands) slots after ws h)
frames_aside names a n operands slots after ((frame.Clause x_cs x_n x_s) ∷ ws) h = ap (λ fs. frame_in names a ws (values_of names (last_of (operands_of (frame.Clause x_cs x_n x_s)) operands)) [] (frame.Clause x_cs x_n x_s) ∷ fs) (frames_aside names a n (others_of (operands_of (frame.Clause x_cs x_n x_s)) operands) slots after ws h)
frames_aside names a n operands slots after ((frame.Binding x_bs x_n x_b x_s) ∷ ws) h = ap (λ fs. frame_in names a ws (values_of names (last_of (operands_of (frame.Binding x_bs x_n x_b x_s)) operands)) [] (frame.Binding x_bs x_n x_b x_s) ∷ fs) (frames_aside names a n (others_of (operands_of (frame.Binding x_bs x_n x_b x_s)) operands) slots after ws h)
frames_aside names a n operands slots after ((frame.Argument x_o x_fs x_n x_s) ∷ ws) h = ap (λ fs. frame_in names a ws (values_of names (last_of (operands_of (frame.Argument x_o x_fs x_n x_s)) operands)) [] (frame.Argument x_o x_fs x_n x_s) ∷ fs) (frames_aside names a n (others_of (operands_of (frame.Argument x_o x_fs x_n x_s)) operands) slots after ws h)
frames_aside names a n operands slots after ((frame.DynamicValue x_bs x_n x_b x_s) ∷ ws) h = ap (λ fs. frame_in names a ws (values_of names (last_of (operands_of (frame.DynamicValue x_bs x_n x_b x_s)) operands)) [] (frame.DynamicValue x_bs x_n x_b x_s) ∷ fs) (frames_aside names a n (others_of (operands_of (frame.DynamicValue x_bs x_n x_b x_s)) operands) slots after ws h)
frames_aside names a n operands slots after ((frame.AppliedFunction x_l x_s) ∷ ws) h = ap (λ fs. frame_in names a ws (values_of names (last_of (operands_of (frame.AppliedFunction x_l x_s)) operands)) [] (frame.AppliedFunction x_l x_s) ∷ fs) (frames_aside names a n (others_of (operands_of (frame.AppliedFunction x_l x_s)) operands) slots after ws h)
frames_aside names a n operands slots after ((frame.AppliedList x_f x_s) ∷ ws) h = ap (λ fs. frame_in names a ws (values_of names (last_of (operands_of (frame.AppliedList x_f x_s)) operands)) [] (frame.AppliedList x_f x_s) ∷ fs) (frames_aside names a n (others_of (operands_of (frame.AppliedList x_f x_s)) operands) slots after ws h)
frames_aside names a n operands slots after ((frame.WhileTest x_t x_b x_s) ∷ ws) h = ap (λ fs. frame_in names a ws (values_of names (last_of (operands_of (frame.WhileTest x_t x_b x_s)) operands)) [] (frame.WhileTest x_t x_b x_s) ∷ fs) (frames_aside names a n (others_of (operands_of (frame.WhileTest x_t x_b x_s)) operands) slots after ws h)
frames_aside names a n operands slots after ((frame.WhileBody x_t x_b x_s) ∷ ws) h = ap (λ fs. frame_in names a ws (values_of names (last_of (operands_of (frame.WhileBody x_t x_b x_s)) operands)) [] (frame.WhileBody x_t x_b x_s) ∷ fs) (frames_aside names a n (others_of (operands_of (frame.WhileBody x_t x_b x_s)) operands) slots after ws h)
frames_aside names a n operands slots after ((frame.ReturnValue x_x x_s) ∷ ws) h = ap (λ fs. frame_in names a ws (values_of names (last_of (operands_of (frame.ReturnValue x_x x_s)) operands)) [] (frame.ReturnValue x_x x_s) ∷ fs) (frames_aside names a n (others_of (operands_of (frame.ReturnValue x_x x_s)) operands) slots after ws h)
frames_aside names a n operands slots after (frame.LastSegment ∷ ws) h = ap (λ fs. frame_in names a ws (values_of names (last_of (operands_of frame.LastSegment) operands)) [] frame.LastSegment ∷ fs) (frames_aside names a n (others_of (operands_of frame.LastSegment) operands) slots after ws h)
frames_aside names a n operands slots after ((frame.CatchTag x_b x_s) ∷ ws) h = ap (λ fs. frame_in names a ws (values_of names (last_of (operands_of (frame.CatchTag x_b x_s)) operands)) [] (frame.CatchTag x_b x_s) ∷ fs) (frames_aside names a n (others_of (operands_of (frame.CatchTag x_b x_s)) operands) slots after ws h)
frames_aside names a n operands slots after ((frame.ThrowTag x_f x_s) ∷ ws) h = ap (λ fs. frame_in names a ws (values_of names (last_of (operands_of (frame.ThrowTag x_f x_s)) operands)) [] (frame.ThrowTag x_f x_s) ∷ fs) (frames_aside names a n (others_of (operands_of (frame.ThrowTag x_f x_s)) operands) slots after ws h)
frames_aside names a n operands slots after ((frame.ThrowValue x_t x_s) ∷ ws) h = ap (λ fs. frame_in names a ws (values_of names (last_of (operands_of (frame.ThrowValue x_t x_s)) operands)) [] (frame.ThrowValue x_t x_s) ∷ fs) (frames_aside names a n (others_of (operands_of (frame.ThrowValue x_t x_s)) operands) slots after ws h)
frames_aside names a n operands slots after ((frame.SetDynamic x_n x_s) ∷ ws) h = ap (λ fs. frame_in names a ws (values_of names (last_of (operands_of (frame.SetDynamic x_n x_s)) operands)) [] (frame.SetDynamic x_n x_s) ∷ fs) (frames_aside names a n (others_of (operands_of (frame.SetDynamic x_n x_s)) operands) slots after ws h)
frames_aside names a n operands slots after ((frame.DefDynamic x_n) ∷ ws) h = ap (λ fs. frame_in names a ws (values_of names (last_of (operands_of (frame.DefDynamic x_n)) operands)) [] (frame.DefDynamic x_n) ∷ fs) (frames_aside names a n (others_of (operands_of (frame.DefDynamic x_n)) operands) slots after ws h)
frames_aside names a n operands slots after ((frame.HandlerValue x_b x_s) ∷ ws) h = ap (λ fs. frame_in names a ws (values_of names (last_of (operands_of (frame.HandlerValue x_b x_s)) operands)) [] (frame.HandlerValue x_b x_s) ∷ fs) (frames_aside names a n (others_of (operands_of (frame.HandlerValue x_b x_s)) operands) slots after ws h)
frames_aside names a n operands slots after ((frame.SignalCondition x_f x_s) ∷ ws) h = ap (λ fs. frame_in names a ws (values_of names (last_of (operands_of (frame.SignalCondition x_f x_s)) operands)) [] (frame.SignalCondition x_f x_s) ∷ fs) (frames_aside names a n (others_of (operands_of (frame.SignalCondition x_f x_s)) operands) slots after ws h)
frames_aside names a n operands slots after ((frame.SignalMark x_c x_s) ∷ ws) h = ap (λ fs. frame_in names a ws (values_of names (last_of (operands_of (frame.SignalMark x_c x_s)) operands)) [] (frame.SignalMark x_c x_s) ∷ fs) (frames_aside names a n (others_of (operands_of (frame.SignalMark x_c x_s)) operands) slots after ws h)
frames_aside names a n operands slots after ((frame.ContinueCondition x_f x_s) ∷ ws) h = ap (λ fs. frame_in names a ws (values_of names (last_of (operands_of (frame.ContinueCondition x_f x_s)) operands)) [] (frame.ContinueCondition x_f x_s) ∷ fs) (frames_aside names a n (others_of (operands_of (frame.ContinueCondition x_f x_s)) operands) slots after ws h)
frames_aside names a n operands slots after ((frame.ContinueValue x_c x_s) ∷ ws) h = ap (λ fs. frame_in names a ws (values_of names (last_of (operands_of (frame.ContinueValue x_c x_s)) operands)) [] (frame.ContinueValue x_c x_s) ∷ fs) (frames_aside names a n (others_of (operands_of (frame.ContinueValue x_c x_s)) operands) slots after ws h)
frames_aside names a n operands slots after ((frame.Kept x_o) ∷ ws) h = ap (λ fs. frame_in names a ws (values_of names (last_of (operands_of (frame.Kept x_o)) operands)) [] (frame.Kept x_o) ∷ fs) (frames_aside names a n (others_of (operands_of (frame.Kept x_o)) operands) slots after ws h)
frames_aside names a n operands slots after ((frame.Methods x_ms x_n x_vs x_l x_r) ∷ ws) h = ap (λ fs. frame_in names a ws (values_of names (last_of (operands_of (frame.Methods x_ms x_n x_vs x_l x_r)) operands)) [] (frame.Methods x_ms x_n x_vs x_l x_r) ∷ fs) (frames_aside names a n (others_of (operands_of (frame.Methods x_ms x_n x_vs x_l x_r)) operands) slots after ws h)
frames_aside names a n operands slots after ((frame.BeforeMethods x_r x_vs x_l x_q) ∷ ws) h = ap (λ fs. frame_in names a ws (values_of names (last_of (operands_of (frame.BeforeMethods x_r x_vs x_l x_q)) operands)) [] (frame.BeforeMethods x_r x_vs x_l x_q) ∷ fs) (frames_aside names a n (others_of (operands_of (frame.BeforeMethods x_r x_vs x_l x_q)) operands) slots after ws h)
frames_aside names a n operands slots after ((frame.PrimaryMethod x_r x_vs x_l x_q) ∷ ws) h = ap (λ fs. frame_in names a ws (values_of names (last_of (operands_of (frame.PrimaryMethod x_r x_vs x_l x_q)) operands)) [] (frame.PrimaryMethod x_r x_vs x_l x_q) ∷ fs) (frames_aside names a n (others_of (operands_of (frame.PrimaryMethod x_r x_vs x_l x_q)) operands) slots after ws h)
frames_aside names a n operands slots after ((frame.HandlerReturn x_l x_q) ∷ ws) h = ap (λ fs. frame_in names a ws (values_of names (last_of (operands_of (frame.HandlerReturn x_l x_q)) operands)) [] (frame.HandlerReturn x_l x_q) ∷ fs) (frames_aside names a n (others_of (operands_of (frame.HandlerReturn x_l x_q)) operands) slots after ws h)
frames_aside names a n operands slots after ((frame.MainForm x_n) ∷ ws) h = ap (λ fs. frame_in names a ws (values_of names (last_of (operands_of (frame.MainForm x_n)) operands)) [] (frame.MainForm x_n) ∷ fs) (frames_aside names a n (others_of (operands_of (frame.MainForm x_n)) operands) slots after ws h)
frames_aside names a n operands slots after ((frame.MainForms x_l x_fs x_n) ∷ ws) h = ap (λ fs. frame_in names a ws (values_of names (last_of (operands_of (frame.MainForms x_l x_fs x_n)) operands)) [] (frame.MainForms x_l x_fs x_n) ∷ fs) (frames_aside names a n (others_of (operands_of (frame.MainForms x_l x_fs x_n)) operands) slots after ws h)
frames_aside names a n operands slots after ((frame.Block x_n x_e x_o) ∷ ws) h = ap (λ fs. frame_in names a ws (values_of names (last_of (operands_of (frame.Block x_n x_e x_o)) operands)) [] (frame.Block x_n x_e x_o) ∷ fs) (frames_aside names a n (others_of (operands_of (frame.Block x_n x_e x_o)) operands) slots after ws h)
frames_aside names a n operands slots after ((frame.Catch x_n x_t x_e) ∷ ws) h = ap (λ fs. frame_in names a ws (values_of names (last_of (operands_of (frame.Catch x_n x_t x_e)) operands)) [] (frame.Catch x_n x_t x_e) ∷ fs) (frames_aside names a n (others_of (operands_of (frame.Catch x_n x_t x_e)) operands) slots after ws h)
frames_aside names a n operands slots after ((frame.Signal x_n x_c x_m x_e) ∷ ws) h = ap (λ fs. frame_in names a ws (values_of names (last_of (operands_of (frame.Signal x_n x_c x_m x_e)) operands)) [] (frame.Signal x_n x_c x_m x_e) ∷ fs) (frames_aside names a n (others_of (operands_of (frame.Signal x_n x_c x_m x_e)) operands) slots after ws h)
frames_aside names a n operands slots after ((frame.Tagbody x_n x_fs x_s) ∷ ws) h = ap (λ fs. frame_in names a ws (values_of names (last_of (operands_of (frame.Tagbody x_n x_fs x_s)) operands)) [] (frame.Tagbody x_n x_fs x_s) ∷ fs) (frames_aside names a n (others_of (operands_of (frame.Tagbody x_n x_fs x_s)) operands) slots after ws h)
frames_aside names a n operands slots after ((frame.Cleans x_f x_s) ∷ ws) h = ap (λ fs. frame_in names a ws (values_of names (last_of (operands_of (frame.Cleans x_f x_s)) operands)) [] (frame.Cleans x_f x_s) ∷ fs) (frames_aside names a n (others_of (operands_of (frame.Cleans x_f x_s)) operands) slots after ws h)
frames_aside names a n operands slots after ((frame.RestoresStack x_n) ∷ ws) h = ap (λ fs. frame_in names a ws (values_of names (last_of (operands_of (frame.RestoresStack x_n)) operands)) [] (frame.RestoresStack x_n) ∷ fs) (frames_aside names a n (others_of (operands_of (frame.RestoresStack x_n)) operands) slots after ws h)
frames_aside names a n operands slots after ((frame.RestoresSlots saved) ∷ ws) h = ap (λ xs. restores_slots (frame_slots names saved xs) ∷ frames_in names saved (others_of 0 operands) xs ws) h
frames_aside names a n operands slots after ((frame.DropsSlots x_n) ∷ ws) h = ap (λ fs. frame_in names a ws (values_of names (last_of (operands_of (frame.DropsSlots x_n)) operands)) [] (frame.DropsSlots x_n) ∷ fs) (frames_aside names a n (others_of (operands_of (frame.DropsSlots x_n)) operands) slots after ws h)
frames_aside names a n operands slots after ((frame.Handles x_w x_n) ∷ ws) h = ap (λ fs. frame_in names a ws (values_of names (last_of (operands_of (frame.Handles x_w x_n)) operands)) [] (frame.Handles x_w x_n) ∷ fs) (frames_aside names a n (others_of (operands_of (frame.Handles x_w x_n)) operands) slots after ws h)
frames_aside names a n operands slots after ((frame.Binds x_bs x_n x_m) ∷ ws) h = ap (λ fs. frame_in names a ws (values_of names (last_of (operands_of (frame.Binds x_bs x_n x_m)) operands)) [] (frame.Binds x_bs x_n x_m) ∷ fs) (frames_aside names a n (others_of (operands_of (frame.Binds x_bs x_n x_m)) operands) slots after ws h)

at_place : (names : List (List ℕ)) (old new : Machine) (s : Situation) → IsInPlace old new → at names new s ≡ at names old s
at_place names old new s p =
    ap (λ a. situation_in names a (reverse new.frames.items) s) p.activation
    ∙ situation_aside names old.current new.current.slots (reverse new.frames.items) s
    ∙ ap (λ fs. situation_in names old.current (reverse fs.items) s) p.frames

frames_place : (names : List (List ℕ)) (old new : Machine) (n : ℕ) → IsInPlace old new → frames names new n ≡ frames names old n
frames_place names old new n p =
    ap (λ a. frames_in names a (others_of n new.operands.items) new.slots.items (reverse new.frames.items)) p.activation
    ∙ frames_aside names old.current new.current.slots (others_of n new.operands.items) old.slots.items new.slots.items (reverse new.frames.items) p.others
    ∙ ap (λ os. frames_in names old.current (others_of n os.items) old.slots.items (reverse new.frames.items)) p.operands
    ∙ ap (λ fs. frames_in names old.current (others_of n old.operands.items) old.slots.items (reverse fs.items)) p.frames

-- from a machine whose slots and store have changed
pub after_change : (old mid new : Machine) (s : Situation) (n : ℕ) (f : List (List ℕ) → Setting → machine.Situation → List machine.ContinuationFrame → FlatState → Configuration) (g : List (List ℕ) → FlatState → FlatState)
    → IsChanged old mid g
    → StepsTo mid new (λ names t b. f names t (at names mid s) (frames names mid n) (state names mid b))
    → StepsTo old new (λ names t b. f names t (at names old s) (frames names old n) (g names (state names old b)))
after_change old mid new s n f g c x =
    from_given old mid new (λ names t b. f names t (at names old s) (frames names old n) (g names (state names old b))) c.in_place.given
    (followed mid new (λ names t b. f names t (at names mid s) (frames names mid n) (state names mid b)) (λ names t b. f names t (at names old s) (frames names old n) (g names (state names old b))) x
    (λ names t b.
    ap (λ q. f names t q (frames names mid n) (state names mid b)) (at_place names old mid s c.in_place)
    ∙ ap (λ fs. f names t (at names old s) fs (state names mid b)) (frames_place names old mid n c.in_place)
    ∙ ap (f names t (at names old s) (frames names old n)) (c.state_is names b)))

-- one change after another
pub in_place_both : (old mid new : Machine) → IsInPlace old mid → IsInPlace mid new → IsInPlace old new
in_place_both old mid new p q = record {
  given = q.given ∙ p.given;
  control = q.control ∙ p.control;
  frames = q.frames ∙ p.frames;
  operands = q.operands ∙ p.operands;
  activation = q.activation ∙ ap (λ (a : Activation). record a { slots = new.current.slots }) p.activation;
  others = q.others ∙ p.others;
}

pub in_place_same : (m : Machine) → IsInPlace m m
in_place_same m = record { given = refl; control = refl; frames = refl; operands = refl; activation = refl; others = refl }
