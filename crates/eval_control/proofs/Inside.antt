-- Situations and frames inside blocks, tagbodies and catches.
use Rattle.std.proofs.Common.{Bor, ◌≡◌, ℕ, suc, ◌<◌, List, [], ◌∷◌, ◌++◌, refl, ap, ◌∙◌, length, arith}
use Rattle.std.proofs.lemmas.Grind.{reverse_onto}
use Rattle.base.specs.declared.place.Place.{Place}
use Rattle.lang_meaning.specs.Values.{nil}
use Rattle.lang_meaning.specs.State.{block_exit, catch_exit}
use Rattle.lang_meaning.specs.Meaning.{with_turns}
use Rattle.flat_language.specs.FlatForm.{FlatForm, FlatForms}
use Rattle.flat_language.specs.FlatState.{FlatState, exit_made}
use Rattle.flat_language.specs.model.View.{forms}
use Rattle.eval_machine.specs.Configuration.{Setting, configuration, evaluate, awaits, catches, turns, last_segment, catch_tag}
use Rattle.eval_machine.specs.Configuration as machine
use Rattle.eval_machine.specs.Step.{sequence_step, segments_step, value_step}
use Rattle.eval_store.specs.declared.word.Word.{Word}
use Rattle.eval_store.specs.Words.{value_of_word}
use Rattle.eval_state.specs.declared.slot.Slot.{Slot}
use Rattle.eval_state.specs.declared.situation.Situation.{Situation}
use Rattle.eval_state.specs.declared.situation.Activation.{Activation}
use Rattle.eval_state.specs.declared.frame.ContinuationFrame.{ContinuationFrame}
use Rattle.eval_state.specs.declared.frame.ContinuationFrame.TheVariants as frame
use Rattle.eval_state.specs.Chains.{chained}
use Rattle.eval_state.specs.Frames.{others_of, frames_in, situation_in, around_in, own_in, environment_in, own_link, exit_link, handler_link, binding_link, inside_tagbody}
use Rattle.eval_state.proofs.Linking.{over}
use Rattle.eval_state.proofs.Pushes.{passed_over, others_none}
use Rattle.eval_state.proofs.Tops.{stays_unlinked}
use Rattle.eval_control.specs.Begins.{block_begins}

-- the situation at another place of the file
pub at_site : (names : List (List ℕ)) (a : Activation) (ws : List ContinuationFrame) (s : Situation) (p : Place)
    → situation_in names a ws (record s { around = record s.around { site = p } }) ≡ record (situation_in names a ws s) { around = record (situation_in names a ws s).around { site = p } }
unfolding situation_in around_in
at_site names a ws s p = refl

-- inside a block: one exit more, which the own activation names
block_inside : (names : List (List ℕ)) (a : Activation) (ws : List ContinuationFrame) (s : Situation) (n link : ℕ) → link ≡ suc (length ws)
    → situation_in names a (frame.Block n s.around.exits s.own ∷ ws) (record s { own = link; around = record s.around { exits = link } })
    ≡ record (situation_in names a ws s) {
      environment = record (situation_in names a ws s).environment { exits = (situation_in names a ws s).environment.exits ++ n ∷ [] };
      around = record (situation_in names a ws s).around { exits = record { number = n; kind = block_exit } ∷ (situation_in names a ws s).around.exits };
    }
unfolding situation_in environment_in around_in own_in
block_inside names a ws s n link e =
    let below : length ws < link = omega arith in
    rw (passed_over (binding_link names) (frame.Block n s.around.exits s.own) ws s.around.bindings refl, passed_over (handler_link names) (frame.Block n s.around.exits s.own) ws s.around.handlers refl, over (exit_link names) (frame.Block n s.around.exits s.own) ws link below, over own_link (frame.Block n s.around.exits s.own) ws link below, reverse_onto (chained own_link ws s.own) n []) refl

tagbody_inside : (names : List (List ℕ)) (a : Activation) (ws : List ContinuationFrame) (list : Bor (List FlatForm)) (s : Situation) (n link : ℕ) → link ≡ suc (length ws)
    → situation_in names a (frame.Tagbody n list s ∷ ws) (record s { own = link; around = record s.around { exits = link } })
    ≡ record (inside_tagbody n (situation_in names a ws s)) { around = with_turns n (situation_in names a ws s).around }
unfolding situation_in environment_in around_in own_in
tagbody_inside names a ws list s n link e =
    let below : length ws < link = omega arith in
    rw (passed_over (binding_link names) (frame.Tagbody n list s) ws s.around.bindings refl, passed_over (handler_link names) (frame.Tagbody n list s) ws s.around.handlers refl, over (exit_link names) (frame.Tagbody n list s) ws link below, over own_link (frame.Tagbody n list s) ws link below, reverse_onto (chained own_link ws s.own) n []) refl

-- inside a catch: one exit more, which the own activation does not name
catch_inside : (names : List (List ℕ)) (a : Activation) (ws : List ContinuationFrame) (s : Situation) (n : ℕ) (tag : Word) (link : ℕ) → link ≡ suc (length ws)
    → situation_in names a (frame.Catch n tag s.around.exits ∷ ws) (record s { around = record s.around { exits = link } })
    ≡ record (situation_in names a ws s) {
      around = record (situation_in names a ws s).around { exits = record { number = n; kind = catch_exit (value_of_word names tag) } ∷ (situation_in names a ws s).around.exits };
    }
unfolding situation_in environment_in around_in own_in
catch_inside names a ws s n tag link e =
    let below : length ws < link = omega arith in
    rw (passed_over (binding_link names) (frame.Catch n tag s.around.exits) ws s.around.bindings refl, passed_over (handler_link names) (frame.Catch n tag s.around.exits) ws s.around.handlers refl, over (exit_link names) (frame.Catch n tag s.around.exits) ws link below, passed_over own_link (frame.Catch n tag s.around.exits) ws s.own refl) refl

pub block_entered : (s : Setting) (names : List (List ℕ)) (a : Activation) (ws : List ContinuationFrame) (at within : Situation) (n link : ℕ) (body : FlatForm) (frames : List machine.ContinuationFrame) (z : FlatState)
    → link ≡ suc (length ws) → within ≡ record at { own = link; around = record at.around { exits = link } } → n ≡ z.state.exits
    → configuration (evaluate body (situation_in names a (frame.Block n at.around.exits at.own ∷ ws) within)) (catches n ∷ frames) (exit_made z)
    ≡ block_begins s body (situation_in names a ws at) frames z
block_entered s names a ws at within n link body frames z l w e =
    ap (λ i. configuration (evaluate body (situation_in names a (frame.Block n at.around.exits at.own ∷ ws) i)) (catches n ∷ frames) (exit_made z)) w
    ∙ ap (λ p. configuration (evaluate body p) (catches n ∷ frames) (exit_made z)) (block_inside names a ws at n link l)
    ∙ ap (λ (k : ℕ). configuration (evaluate body (record (situation_in names a ws at) {
      environment = record (situation_in names a ws at).environment { exits = (situation_in names a ws at).environment.exits ++ k ∷ [] };
      around = record (situation_in names a ws at).around { exits = record { number = k; kind = block_exit } ∷ (situation_in names a ws at).around.exits };
    })) (catches k ∷ frames) (exit_made z)) e

pub catch_entered : (s : Setting) (names : List (List ℕ)) (a : Activation) (ws : List ContinuationFrame) (at within : Situation) (n : ℕ) (tag : Word) (link : ℕ) (body : FlatForm) (frames : List machine.ContinuationFrame) (z : FlatState)
    → link ≡ suc (length ws) → within ≡ record at { around = record at.around { exits = link } } → n ≡ z.state.exits
    → configuration (evaluate body (situation_in names a (frame.Catch n tag at.around.exits ∷ ws) within)) (catches n ∷ frames) (exit_made z)
    ≡ value_step s (catch_tag body (situation_in names a ws at)) (value_of_word names tag) frames z
catch_entered s names a ws at within n tag link body frames z l w e =
    ap (λ i. configuration (evaluate body (situation_in names a (frame.Catch n tag at.around.exits ∷ ws) i)) (catches n ∷ frames) (exit_made z)) w
    ∙ ap (λ p. configuration (evaluate body p) (catches n ∷ frames) (exit_made z)) (catch_inside names a ws at n tag link l)
    ∙ ap (λ (k : ℕ). configuration (evaluate body (record (situation_in names a ws at) {
      around = record (situation_in names a ws at).around { exits = record { number = k; kind = catch_exit (value_of_word names tag) } ∷ (situation_in names a ws at).around.exits };
    })) (catches k ∷ frames) (exit_made z)) e

-- the frames of a tagbody, on top
tagbody_frames : (names : List (List ℕ)) (a : Activation) (operands : List Word) (slots : List Slot) (ws : List ContinuationFrame) (list : Bor (List FlatForm)) (at : Situation) (n : ℕ)
    → frames_in names a (others_of 0 operands) slots (frame.LastSegment ∷ frame.Tagbody n list at ∷ ws)
    ≡ awaits last_segment ∷ turns n (forms list.now) (inside_tagbody n (situation_in names a ws at)) ∷ frames_in names a (others_of 0 operands) slots ws
unfolding frames_in
tagbody_frames names a operands slots ws list at n =
    ap (λ os. awaits last_segment ∷ turns n (forms list.now) (inside_tagbody n (situation_in names a ws at)) ∷ frames_in names a os slots ws)
    (others_none (others_of 0 (others_of 0 operands)) ∙ others_none (others_of 0 operands))

pub segments_entered : (s : Setting) (names : List (List ℕ)) (a : Activation) (operands : List Word) (slots : List Slot) (ws : List ContinuationFrame) (list : Bor (List FlatForm)) (at within : Situation) (n link : ℕ) (left : FlatForms) (z : FlatState)
    → link ≡ suc (length ws) → within ≡ record at { own = link; around = record at.around { exits = link } }
    → sequence_step s nil left (situation_in names a (frame.LastSegment ∷ frame.Tagbody n list at ∷ ws) within) (frames_in names a (others_of 0 operands) slots (frame.LastSegment ∷ frame.Tagbody n list at ∷ ws)) z
    ≡ segments_step s n left (forms list.now) (inside_tagbody n (situation_in names a ws at)) (frames_in names a (others_of 0 operands) slots ws) z
segments_entered s names a operands slots ws list at within n link left z l w =
    ap (λ p. sequence_step s nil left p (frames_in names a (others_of 0 operands) slots (frame.LastSegment ∷ frame.Tagbody n list at ∷ ws)) z)
    (stays_unlinked names a (frame.Tagbody n list at ∷ ws) frame.LastSegment within refl ∙ ap (situation_in names a (frame.Tagbody n list at ∷ ws)) w ∙ tagbody_inside names a ws list at n link l)
    ∙ ap (λ fs. sequence_step s nil left (record (inside_tagbody n (situation_in names a ws at)) { around = with_turns n (situation_in names a ws at).around }) fs z)
    (tagbody_frames names a operands slots ws list at n)
