-- Frames pushed, whatever they are.
use Rattle.std.proofs.Common.{◌≡◌, ℕ, true, List, [], ◌∷◌, ◌++◌, refl, ap, ◌∙◌, reverse}
use Rattle.flat_language.specs.FlatForm.{FlatForm}
use Rattle.flat_language.specs.FlatState.{FlatState}
use Rattle.eval_machine.specs.Configuration.{configuration, evaluate}
use Rattle.eval_store.specs.declared.word.Word.{Word}
use Rattle.eval_store.specs.Words.{values_of}
use Rattle.eval_state.specs.declared.slot.Slot.{Slot}
use Rattle.eval_state.specs.declared.situation.Situation.{Situation}
use Rattle.eval_state.specs.declared.situation.Activation.{Activation}
use Rattle.eval_state.specs.declared.frame.ContinuationFrame.{ContinuationFrame}
use Rattle.eval_state.specs.declared.frame.ContinuationFrame.TheVariants as frame
use Rattle.eval_state.specs.Frames.{last_of, others_of, operands_of, activation_below, slots_below, frame_slots, frame_in, frames_in, situation_in}
use Rattle.eval_state.specs.Tops.{IsUnlinked}
use Rattle.eval_state.proofs.Pushes.{one_on, others_none, LinksNothing, stays_below}

-- a frame on top, and those below it
pub on_top : (names : List (List ℕ)) (a : Activation) (operands : List Word) (slots : List Slot) (items : List ContinuationFrame) (w : ContinuationFrame)
    → frames_in names a operands slots (reverse (items ++ w ∷ []))
    ≡ frame_in names a (reverse items) (values_of names (last_of (operands_of w) operands)) (frame_slots names (activation_below a w) (slots_below a slots w)) w
    ∷ frames_in names (activation_below a w) (others_of (operands_of w) operands) (slots_below a slots w) (reverse items)
unfolding frames_in
on_top names a operands slots items w = ap (frames_in names a operands slots) (one_on items w)

-- a form evaluated above a new frame
pub entered : (names : List (List ℕ)) (a : Activation) (operands : List Word) (slots : List Slot) (items after : List ContinuationFrame) (w : ContinuationFrame) (f : FlatForm) (inside : Situation) (z : FlatState)
    → after ≡ items ++ w ∷ []
    → configuration (evaluate f (situation_in names a (reverse after) inside)) (frames_in names a (others_of 0 operands) slots (reverse after)) z
    ≡ configuration (evaluate f (situation_in names a (w ∷ reverse items) inside))
    (frame_in names a (reverse items) (values_of names (last_of (operands_of w) operands)) (frame_slots names (activation_below a w) (slots_below a slots w)) w
    ∷ frames_in names (activation_below a w) (others_of (operands_of w) operands) (slots_below a slots w) (reverse items)) z
entered names a operands slots items after w f inside z e =
    ap (λ is. configuration (evaluate f (situation_in names a (reverse is) inside)) (frames_in names a (others_of 0 operands) slots (reverse is)) z) e
    ∙ ap (λ ws. configuration (evaluate f (situation_in names a ws inside)) (frames_in names a (others_of 0 operands) slots (reverse (items ++ w ∷ []))) z) (one_on items w)
    ∙ ap (λ ns. configuration (evaluate f (situation_in names a (w ∷ reverse items) inside)) ns z)
    (ap (λ xs. frames_in names a xs slots (reverse (items ++ w ∷ []))) (others_none operands) ∙ on_top names a operands slots items w)

-- a frame to which no situation links
pub unlinked_links : (names : List (List ℕ)) (w : ContinuationFrame) → IsUnlinked w ≡ true → LinksNothing names w
unlinked_links names (frame.MainForms l fs n) h = absurd (cc)
unlinked_links names (frame.Block n e o) h = absurd (cc)
unlinked_links names (frame.Catch n t e) h = absurd (cc)
unlinked_links names (frame.Signal n c m e) h = absurd (cc)
unlinked_links names (frame.Tagbody n fs s) h = absurd (cc)
unlinked_links names (frame.Handles w n) h = absurd (cc)
unlinked_links names (frame.Binds bs n m) h = absurd (cc)
unlinked_links names w h = record { own = refl; exit = refl; handler = refl; binding = refl }

pub stays_unlinked : (names : List (List ℕ)) (a : Activation) (ws : List ContinuationFrame) (w : ContinuationFrame) (s : Situation) → IsUnlinked w ≡ true
    → situation_in names a (w ∷ ws) s ≡ situation_in names a ws s
stays_unlinked names a ws w s h = stays_below names a ws w s (unlinked_links names w h)
