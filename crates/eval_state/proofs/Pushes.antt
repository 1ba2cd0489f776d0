-- Frames, and what links to them, once a frame is pushed.
use Rattle.std.proofs.Common.{◌≡◌, ℕ, true, false, List, [], ◌∷◌, ◌++◌, Option, None, refl, ap, ◌∙◌, length, arith}
use Rattle.std.proofs.lemmas.List.{reverse-append}
use Rattle.std.proofs.lemmas.Grind.{common_steps}
use Rattle.std.specs.Prelude.{reverse, nat_lt, if◌then◌else◌}
use Rattle.eval_store.specs.declared.word.Word.{Word}
use Rattle.eval_state.specs.declared.slot.Slot.{Slot}
use Rattle.eval_state.specs.declared.situation.Situation.{Situation}
use Rattle.eval_state.specs.declared.situation.DynamicLinks.{DynamicLinks}
use Rattle.eval_state.specs.declared.situation.Activation.{Activation}
use Rattle.eval_state.specs.declared.frame.ContinuationFrame.{ContinuationFrame}
use Rattle.eval_state.specs.declared.frame.ContinuationFrame.TheVariants as frame
use Rattle.eval_state.specs.Chains.{Linking, chained}
use Rattle.eval_state.specs.Frames.{others_of, frame_in, frames_in, situation_in, around_in, own_in, environment_in, own_link, exit_link, handler_link, binding_link}
use Rattle.eval_state.specs.View.{OnlyWaits}

pub one_on : {X : Type 0} (ws : List X) (w : X) → reverse (ws ++ w ∷ []) ≡ w ∷ reverse ws
one_on ws w = reverse-append ws (w ∷ [])

-- none of the last ones are taken
pub others_none : {X : Type 0} (xs : List X) → others_of 0 xs ≡ xs
others_none xs = grind (arith, common_steps)

-- a plain frame has no operands, and is what it is whatever the operands and the caller's slots
plain_in : (names : List (List ℕ)) (a : Activation) (operands : List Word) (slots : List Slot) (ws : List ContinuationFrame) (w : ContinuationFrame) → OnlyWaits w ≡ true
    → frames_in names a operands slots (w ∷ ws) ≡ frame_in names a ws [] [] w ∷ frames_in names a operands slots ws
unfolding frames_in
plain_in names a operands slots ws (frame.SetLocal p s) h = ap (λ os. frame_in names a ws [] [] (frame.SetLocal p s) ∷ frames_in names a os slots ws) (others_none operands)
plain_in names a operands slots ws (frame.SetGlobal n s) h = ap (λ os. frame_in names a ws [] [] (frame.SetGlobal n s) ∷ frames_in names a os slots ws) (others_none operands)
plain_in names a operands slots ws (frame.DefGlobal n) h = ap (λ os. frame_in names a ws [] [] (frame.DefGlobal n) ∷ frames_in names a os slots ws) (others_none operands)
plain_in names a operands slots ws (frame.Sequence fs n s) h = ap (λ os. frame_in names a ws [] [] (frame.Sequence fs n s) ∷ frames_in names a os slots ws) (others_none operands)
plain_in names a operands slots ws (frame.Clause cs n s) h = ap (λ os. frame_in names a ws [] [] (frame.Clause cs n s) ∷ frames_in names a os slots ws) (others_none operands)
plain_in names a operands slots ws (frame.AppliedFunction l s) h = ap (λ os. frame_in names a ws [] [] (frame.AppliedFunction l s) ∷ frames_in names a os slots ws) (others_none operands)
plain_in names a operands slots ws (frame.AppliedList f s) h = ap (λ os. frame_in names a ws [] [] (frame.AppliedList f s) ∷ frames_in names a os slots ws) (others_none operands)
plain_in names a operands slots ws (frame.WhileTest t b s) h = ap (λ os. frame_in names a ws [] [] (frame.WhileTest t b s) ∷ frames_in names a os slots ws) (others_none operands)
plain_in names a operands slots ws (frame.WhileBody t b s) h = ap (λ os. frame_in names a ws [] [] (frame.WhileBody t b s) ∷ frames_in names a os slots ws) (others_none operands)
plain_in names a operands slots ws (frame.ReturnValue x s) h = ap (λ os. frame_in names a ws [] [] (frame.ReturnValue x s) ∷ frames_in names a os slots ws) (others_none operands)
plain_in names a operands slots ws frame.LastSegment h = ap (λ os. frame_in names a ws [] [] frame.LastSegment ∷ frames_in names a os slots ws) (others_none operands)
plain_in names a operands slots ws (frame.CatchTag b s) h = ap (λ os. frame_in names a ws [] [] (frame.CatchTag b s) ∷ frames_in names a os slots ws) (others_none operands)
plain_in names a operands slots ws (frame.ThrowTag f s) h = ap (λ os. frame_in names a ws [] [] (frame.ThrowTag f s) ∷ frames_in names a os slots ws) (others_none operands)
plain_in names a operands slots ws (frame.ThrowValue t s) h = ap (λ os. frame_in names a ws [] [] (frame.ThrowValue t s) ∷ frames_in names a os slots ws) (others_none operands)
plain_in names a operands slots ws (frame.SetDynamic n s) h = ap (λ os. frame_in names a ws [] [] (frame.SetDynamic n s) ∷ frames_in names a os slots ws) (others_none operands)
plain_in names a operands slots ws (frame.DefDynamic n) h = ap (λ os. frame_in names a ws [] [] (frame.DefDynamic n) ∷ frames_in names a os slots ws) (others_none operands)
plain_in names a operands slots ws (frame.HandlerValue b s) h = ap (λ os. frame_in names a ws [] [] (frame.HandlerValue b s) ∷ frames_in names a os slots ws) (others_none operands)
plain_in names a operands slots ws (frame.SignalCondition f s) h = ap (λ os. frame_in names a ws [] [] (frame.SignalCondition f s) ∷ frames_in names a os slots ws) (others_none operands)
plain_in names a operands slots ws (frame.SignalMark c s) h = ap (λ os. frame_in names a ws [] [] (frame.SignalMark c s) ∷ frames_in names a os slots ws) (others_none operands)
plain_in names a operands slots ws (frame.ContinueCondition f s) h = ap (λ os. frame_in names a ws [] [] (frame.ContinueCondition f s) ∷ frames_in names a os slots ws) (others_none operands)
plain_in names a operands slots ws (frame.ContinueValue c s) h = ap (λ os. frame_in names a ws [] [] (frame.ContinueValue c s) ∷ frames_in names a os slots ws) (others_none operands)
plain_in names a operands slots ws (frame.Kept o) h = ap (λ os. frame_in names a ws [] [] (frame.Kept o) ∷ frames_in names a os slots ws) (others_none operands)
plain_in names a operands slots ws (frame.Methods ms n vs l r) h = ap (λ os. frame_in names a ws [] [] (frame.Methods ms n vs l r) ∷ frames_in names a os slots ws) (others_none operands)
plain_in names a operands slots ws (frame.BeforeMethods r vs l q) h = ap (λ os. frame_in names a ws [] [] (frame.BeforeMethods r vs l q) ∷ frames_in names a os slots ws) (others_none operands)
plain_in names a operands slots ws (frame.PrimaryMethod r vs l q) h = ap (λ os. frame_in names a ws [] [] (frame.PrimaryMethod r vs l q) ∷ frames_in names a os slots ws) (others_none operands)
plain_in names a operands slots ws (frame.HandlerReturn l q) h = ap (λ os. frame_in names a ws [] [] (frame.HandlerReturn l q) ∷ frames_in names a os slots ws) (others_none operands)
plain_in names a operands slots ws (frame.MainForm n) h = ap (λ os. frame_in names a ws [] [] (frame.MainForm n) ∷ frames_in names a os slots ws) (others_none operands)
plain_in names a operands slots ws (frame.Cleans f s) h = ap (λ os. frame_in names a ws [] [] (frame.Cleans f s) ∷ frames_in names a os slots ws) (others_none operands)
plain_in names a operands slots ws (frame.RestoresStack n) h = ap (λ os. frame_in names a ws [] [] (frame.RestoresStack n) ∷ frames_in names a os slots ws) (others_none operands)
plain_in names a operands slots ws (frame.DropsSlots n) h = ap (λ os. frame_in names a ws [] [] (frame.DropsSlots n) ∷ frames_in names a os slots ws) (others_none operands)
plain_in names a operands slots ws (frame.Binding bs n b s) h = absurd (cc)
plain_in names a operands slots ws (frame.Argument o fs n s) h = absurd (cc)
plain_in names a operands slots ws (frame.DynamicValue bs n b s) h = absurd (cc)
plain_in names a operands slots ws (frame.MainForms l fs n) h = absurd (cc)
plain_in names a operands slots ws (frame.Block n e o) h = absurd (cc)
plain_in names a operands slots ws (frame.Catch n t e) h = absurd (cc)
plain_in names a operands slots ws (frame.Signal n c m e) h = absurd (cc)
plain_in names a operands slots ws (frame.Tagbody n fs s) h = absurd (cc)
plain_in names a operands slots ws (frame.RestoresSlots saved) h = absurd (cc)
plain_in names a operands slots ws (frame.Handles w n) h = absurd (cc)
plain_in names a operands slots ws (frame.Binds bs n m) h = absurd (cc)

pub pushed : (names : List (List ℕ)) (a : Activation) (operands : List Word) (slots : List Slot) (items : List ContinuationFrame) (w : ContinuationFrame) → OnlyWaits w ≡ true
    → frames_in names a operands slots (reverse (items ++ w ∷ [])) ≡ frame_in names a (reverse items) [] [] w ∷ frames_in names a operands slots (reverse items)
pushed names a operands slots items w h =
    ap (frames_in names a operands slots) (one_on items w) ∙ plain_in names a operands slots (reverse items) w h

-- a frame to which nothing links is passed over
pub passed_over : {F X : Type 0} (of : F → Option (Linking X)) (w : F) (ws : List F) (n : ℕ) → of w ≡ None → chained of (w ∷ ws) n ≡ chained of ws n
unfolding chained
passed_over of w ws n h =
    rw h (elim (nat_lt (length ws) n) as (λ b. (if b then chained of ws n else chained of ws n) ≡ chained of ws n) [ true ↦ refl | false ↦ refl ])

-- what does not link
pub record LinksNothing (names : List (List ℕ)) (w : ContinuationFrame) : Type 0 where
  pub own : own_link w ≡ None
  pub exit : exit_link names w ≡ None
  pub handler : handler_link names w ≡ None
  pub binding : binding_link names w ≡ None

plain_links : (names : List (List ℕ)) (w : ContinuationFrame) → OnlyWaits w ≡ true → LinksNothing names w
plain_links names (frame.Binding bs n b s) h = absurd (cc)
plain_links names (frame.Argument o fs n s) h = absurd (cc)
plain_links names (frame.DynamicValue bs n b s) h = absurd (cc)
plain_links names (frame.MainForms l fs n) h = absurd (cc)
plain_links names (frame.Block n e o) h = absurd (cc)
plain_links names (frame.Catch n t e) h = absurd (cc)
plain_links names (frame.Signal n c m e) h = absurd (cc)
plain_links names (frame.Tagbody n fs s) h = absurd (cc)
plain_links names (frame.RestoresSlots saved) h = absurd (cc)
plain_links names (frame.Handles w n) h = absurd (cc)
plain_links names (frame.Binds bs n m) h = absurd (cc)
plain_links names w h = record { own = refl; exit = refl; handler = refl; binding = refl }

-- dynamic contexts and situations stay under a frame that links nothing
pub around_stays : (names : List (List ℕ)) (ws : List ContinuationFrame) (w : ContinuationFrame) (s : DynamicLinks) → LinksNothing names w → around_in names (w ∷ ws) s ≡ around_in names ws s
unfolding around_in
around_stays names ws w s l =
    rw (passed_over (binding_link names) w ws s.bindings l.binding, passed_over (handler_link names) w ws s.handlers l.handler, passed_over (exit_link names) w ws s.exits l.exit) refl

pub own_stays : (names : List (List ℕ)) (ws : List ContinuationFrame) (w : ContinuationFrame) (n : ℕ) → LinksNothing names w → own_in (w ∷ ws) n ≡ own_in ws n
unfolding own_in
own_stays names ws w n l = rw (passed_over own_link w ws n l.own) refl

pub stays_below : (names : List (List ℕ)) (a : Activation) (ws : List ContinuationFrame) (w : ContinuationFrame) (s : Situation) → LinksNothing names w
    → situation_in names a (w ∷ ws) s ≡ situation_in names a ws s
unfolding situation_in environment_in
stays_below names a ws w s l = rw (around_stays names ws w s.around l, own_stays names ws w s.own l) refl

pub stays : (names : List (List ℕ)) (a : Activation) (items : List ContinuationFrame) (w : ContinuationFrame) (s : Situation) → OnlyWaits w ≡ true
    → situation_in names a (reverse (items ++ w ∷ [])) s ≡ situation_in names a (reverse items) s
stays names a items w s h =
    ap (λ ws. situation_in names a ws s) (one_on items w) ∙ stays_below names a (reverse items) w s (plain_links names w h)

pub surroundings_stay : (names : List (List ℕ)) (items : List ContinuationFrame) (w : ContinuationFrame) (s : DynamicLinks) → OnlyWaits w ≡ true
    → around_in names (reverse (items ++ w ∷ [])) s ≡ around_in names (reverse items) s
surroundings_stay names items w s h =
    ap (λ ws. around_in names ws s) (one_on items w) ∙ around_stays names (reverse items) w s (plain_links names w h)
