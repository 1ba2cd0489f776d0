-- Which frames are left where those of some kinds are not meant.
use Rattle.std.proofs.Common.{Bor, ◌≡◌, ℕ, true, false, List, None, is_some, refl}
use Rattle.flat_language.specs.declared.place.VariablePlace.{VariablePlace}
use Rattle.flat_language.specs.declared.place.ExitPlace.{ExitPlace}
use Rattle.flat_language.specs.declared.flat_core.FlatClause.{FlatClause}
use Rattle.flat_language.specs.declared.flat_core.FlatBinding.{FlatBinding}
use Rattle.flat_language.specs.declared.flat_core.FlatDynBinding.{FlatDynBinding}
use Rattle.flat_language.specs.FlatForm.{FlatForm}
use Rattle.eval_store.specs.declared.word.Word.{Word}
use Rattle.eval_state.specs.declared.situation.DynamicLinks.{DynamicLinks}
use Rattle.eval_state.specs.declared.situation.Situation.{Situation}
use Rattle.eval_state.specs.declared.situation.Activation.{Activation}
use Rattle.eval_state.specs.declared.frame.Outcome.{Outcome}
use Rattle.eval_state.specs.declared.frame.ContinuationFrame.{ContinuationFrame}
use Rattle.eval_state.specs.declared.frame.ContinuationFrame.TheVariants as frame
use Rattle.eval_control.specs.Passing.{waiting_operands, WantsMore}

-- every frame that takes any outcome is of one of these kinds
pub no_other_takes : (w : ContinuationFrame) → waiting_operands w ≡ None
    → ((a : ℕ) (b : ℕ) (c : ℕ) → w ≡ frame.Block a b c → ⊥)
    → ((a : ℕ) (b : Word) (c : ℕ) → w ≡ frame.Catch a b c → ⊥)
    → ((a : ℕ) (b : Word) (c : Word) (d : ℕ) → w ≡ frame.Signal a b c d → ⊥)
    → ((a : ℕ) (b : Bor (List FlatForm)) (c : Situation) → w ≡ frame.Tagbody a b c → ⊥)
    → ((a : Bor FlatForm) (b : Situation) → w ≡ frame.Cleans a b → ⊥)
    → ((a : ℕ) → w ≡ frame.RestoresStack a → ⊥)
    → ((a : Activation) → w ≡ frame.RestoresSlots a → ⊥)
    → ((a : ℕ) → w ≡ frame.DropsSlots a → ⊥)
    → ((a : Word) (b : ℕ) → w ≡ frame.Handles a b → ⊥)
    → ((a : Bor (List FlatDynBinding)) (b : ℕ) (c : ℕ) → w ≡ frame.Binds a b c → ⊥)
    → ⊥
no_other_takes (frame.Block n e o) h not_0 not_1 not_2 not_3 not_4 not_5 not_6 not_7 not_8 not_9 = not_0 n e o refl
no_other_takes (frame.Catch n t e) h not_0 not_1 not_2 not_3 not_4 not_5 not_6 not_7 not_8 not_9 = not_1 n t e refl
no_other_takes (frame.Signal n c m e) h not_0 not_1 not_2 not_3 not_4 not_5 not_6 not_7 not_8 not_9 = not_2 n c m e refl
no_other_takes (frame.Tagbody n fs s) h not_0 not_1 not_2 not_3 not_4 not_5 not_6 not_7 not_8 not_9 = not_3 n fs s refl
no_other_takes (frame.Cleans f s) h not_0 not_1 not_2 not_3 not_4 not_5 not_6 not_7 not_8 not_9 = not_4 f s refl
no_other_takes (frame.RestoresStack n) h not_0 not_1 not_2 not_3 not_4 not_5 not_6 not_7 not_8 not_9 = not_5 n refl
no_other_takes (frame.RestoresSlots saved) h not_0 not_1 not_2 not_3 not_4 not_5 not_6 not_7 not_8 not_9 = not_6 saved refl
no_other_takes (frame.DropsSlots n) h not_0 not_1 not_2 not_3 not_4 not_5 not_6 not_7 not_8 not_9 = not_7 n refl
no_other_takes (frame.Handles w n) h not_0 not_1 not_2 not_3 not_4 not_5 not_6 not_7 not_8 not_9 = not_8 w n refl
no_other_takes (frame.Binds bs n m) h not_0 not_1 not_2 not_3 not_4 not_5 not_6 not_7 not_8 not_9 = not_9 bs n m refl
no_other_takes w h not_0 not_1 not_2 not_3 not_4 not_5 not_6 not_7 not_8 not_9 = absurd (cc)

-- and every frame that waits for a value and wants the machine alone of one of these
pub no_other_waits : (w : ContinuationFrame) → is_some (waiting_operands w) ≡ true → WantsMore w ≡ false
    → ((a : VariablePlace) (b : Situation) → w ≡ frame.SetLocal a b → ⊥)
    → ((a : Bor (List FlatForm)) (b : ℕ) (c : Situation) → w ≡ frame.Sequence a b c → ⊥)
    → ((a : Bor (List FlatClause)) (b : ℕ) (c : Situation) → w ≡ frame.Clause a b c → ⊥)
    → ((a : Bor (List FlatBinding)) (b : ℕ) (c : Bor FlatForm) (d : Situation) → w ≡ frame.Binding a b c d → ⊥)
    → ((a : Bor (List FlatDynBinding)) (b : ℕ) (c : Bor FlatForm) (d : Situation) → w ≡ frame.DynamicValue a b c d → ⊥)
    → ((a : Bor FlatForm) (b : Situation) → w ≡ frame.AppliedFunction a b → ⊥)
    → ((a : Bor FlatForm) (b : Bor FlatForm) (c : Situation) → w ≡ frame.WhileTest a b c → ⊥)
    → ((a : Bor FlatForm) (b : Bor FlatForm) (c : Situation) → w ≡ frame.WhileBody a b c → ⊥)
    → ((a : ExitPlace) (b : Situation) → w ≡ frame.ReturnValue a b → ⊥)
    → (w ≡ frame.LastSegment → ⊥)
    → ((a : Bor FlatForm) (b : Situation) → w ≡ frame.CatchTag a b → ⊥)
    → ((a : Bor FlatForm) (b : Situation) → w ≡ frame.ThrowTag a b → ⊥)
    → ((a : Word) (b : Situation) → w ≡ frame.ThrowValue a b → ⊥)
    → ((a : Bor FlatForm) (b : Situation) → w ≡ frame.SignalCondition a b → ⊥)
    → ((a : Bor FlatForm) (b : Situation) → w ≡ frame.ContinueCondition a b → ⊥)
    → ((a : Word) (b : Situation) → w ≡ frame.ContinueValue a b → ⊥)
    → ((a : Outcome) → w ≡ frame.Kept a → ⊥)
    → ((a : ℕ) (b : DynamicLinks) → w ≡ frame.HandlerReturn a b → ⊥)
    → ((a : ℕ) → w ≡ frame.MainForm a → ⊥)
    → ((a : ℕ) (b : Bor (List FlatForm)) (c : ℕ) → w ≡ frame.MainForms a b c → ⊥)
    → ⊥
no_other_waits (frame.SetLocal p s) h j not_0 not_1 not_2 not_3 not_4 not_5 not_6 not_7 not_r not_8 not_9 not_10 not_11 not_12 not_13 not_14 not_15 not_16 not_17 not_18 = not_0 p s refl
no_other_waits (frame.Sequence fs n s) h j not_0 not_1 not_2 not_3 not_4 not_5 not_6 not_7 not_r not_8 not_9 not_10 not_11 not_12 not_13 not_14 not_15 not_16 not_17 not_18 = not_1 fs n s refl
no_other_waits (frame.Clause cs n s) h j not_0 not_1 not_2 not_3 not_4 not_5 not_6 not_7 not_r not_8 not_9 not_10 not_11 not_12 not_13 not_14 not_15 not_16 not_17 not_18 = not_2 cs n s refl
no_other_waits (frame.Binding bs n b s) h j not_0 not_1 not_2 not_3 not_4 not_5 not_6 not_7 not_r not_8 not_9 not_10 not_11 not_12 not_13 not_14 not_15 not_16 not_17 not_18 = not_3 bs n b s refl
no_other_waits (frame.DynamicValue bs n b s) h j not_0 not_1 not_2 not_3 not_4 not_5 not_6 not_7 not_r not_8 not_9 not_10 not_11 not_12 not_13 not_14 not_15 not_16 not_17 not_18 = not_4 bs n b s refl
no_other_waits (frame.AppliedFunction l s) h j not_0 not_1 not_2 not_3 not_4 not_5 not_6 not_7 not_r not_8 not_9 not_10 not_11 not_12 not_13 not_14 not_15 not_16 not_17 not_18 = not_5 l s refl
no_other_waits (frame.WhileTest t b s) h j not_0 not_1 not_2 not_3 not_4 not_5 not_6 not_7 not_r not_8 not_9 not_10 not_11 not_12 not_13 not_14 not_15 not_16 not_17 not_18 = not_6 t b s refl
no_other_waits (frame.WhileBody t b s) h j not_0 not_1 not_2 not_3 not_4 not_5 not_6 not_7 not_r not_8 not_9 not_10 not_11 not_12 not_13 not_14 not_15 not_16 not_17 not_18 = not_7 t b s refl
no_other_waits (frame.ReturnValue x s) h j not_0 not_1 not_2 not_3 not_4 not_5 not_6 not_7 not_r not_8 not_9 not_10 not_11 not_12 not_13 not_14 not_15 not_16 not_17 not_18 = not_r x s refl
no_other_waits frame.LastSegment h j not_0 not_1 not_2 not_3 not_4 not_5 not_6 not_7 not_r not_8 not_9 not_10 not_11 not_12 not_13 not_14 not_15 not_16 not_17 not_18 = not_8 refl
no_other_waits (frame.CatchTag b s) h j not_0 not_1 not_2 not_3 not_4 not_5 not_6 not_7 not_r not_8 not_9 not_10 not_11 not_12 not_13 not_14 not_15 not_16 not_17 not_18 = not_9 b s refl
no_other_waits (frame.ThrowTag f s) h j not_0 not_1 not_2 not_3 not_4 not_5 not_6 not_7 not_r not_8 not_9 not_10 not_11 not_12 not_13 not_14 not_15 not_16 not_17 not_18 = not_10 f s refl
no_other_waits (frame.ThrowValue t s) h j not_0 not_1 not_2 not_3 not_4 not_5 not_6 not_7 not_r not_8 not_9 not_10 not_11 not_12 not_13 not_14 not_15 not_16 not_17 not_18 = not_11 t s refl
no_other_waits (frame.SignalCondition f s) h j not_0 not_1 not_2 not_3 not_4 not_5 not_6 not_7 not_r not_8 not_9 not_10 not_11 not_12 not_13 not_14 not_15 not_16 not_17 not_18 = not_12 f s refl
no_other_waits (frame.ContinueCondition f s) h j not_0 not_1 not_2 not_3 not_4 not_5 not_6 not_7 not_r not_8 not_9 not_10 not_11 not_12 not_13 not_14 not_15 not_16 not_17 not_18 = not_13 f s refl
no_other_waits (frame.ContinueValue c s) h j not_0 not_1 not_2 not_3 not_4 not_5 not_6 not_7 not_r not_8 not_9 not_10 not_11 not_12 not_13 not_14 not_15 not_16 not_17 not_18 = not_14 c s refl
no_other_waits (frame.Kept o) h j not_0 not_1 not_2 not_3 not_4 not_5 not_6 not_7 not_r not_8 not_9 not_10 not_11 not_12 not_13 not_14 not_15 not_16 not_17 not_18 = not_15 o refl
no_other_waits (frame.HandlerReturn l q) h j not_0 not_1 not_2 not_3 not_4 not_5 not_6 not_7 not_r not_8 not_9 not_10 not_11 not_12 not_13 not_14 not_15 not_16 not_17 not_18 = not_16 l q refl
no_other_waits (frame.MainForm n) h j not_0 not_1 not_2 not_3 not_4 not_5 not_6 not_7 not_r not_8 not_9 not_10 not_11 not_12 not_13 not_14 not_15 not_16 not_17 not_18 = not_17 n refl
no_other_waits (frame.MainForms l fs n) h j not_0 not_1 not_2 not_3 not_4 not_5 not_6 not_7 not_r not_8 not_9 not_10 not_11 not_12 not_13 not_14 not_15 not_16 not_17 not_18 = not_18 l fs n refl
no_other_waits w h j not_0 not_1 not_2 not_3 not_4 not_5 not_6 not_7 not_r not_8 not_9 not_10 not_11 not_12 not_13 not_14 not_15 not_16 not_17 not_18 = absurd (cc)
