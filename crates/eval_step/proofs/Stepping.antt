-- A step: what the machine is about to do is done.
use Rattle.std.proofs.Common.{◌≡◌, ℕ, ◌+◌, length, MatchOption, option_to_list, arith, List, [], ◌∷◌, ◌++◌, Option, Some, None, refl, ap, sym, ◌∙◌, reverse, subst}
use Rattle.eval_machine.specs.Configuration.{Setting, Configuration, configuration, come_to}
use Rattle.eval_machine.specs.Step.{step, control_step, outcome_step}
use Rattle.eval_store.specs.Words.{values_of}
use Rattle.eval_store.specs.View.{Beside}
use Rattle.eval_state.specs.declared.frame.ContinuationFrame.{ContinuationFrame}
use Rattle.eval_state.specs.declared.frame.Outcome.{Outcome}
use Rattle.eval_state.specs.declared.machine.Machine.{Machine}
use Rattle.eval_state.specs.declared.machine.Control.{Control}
use Rattle.eval_state.specs.declared.machine.Control.TheVariants.{ComeTo}
use Rattle.eval_state.specs.Frames.{last_of, others_of, operands_of, activation_below, slots_below, frame_slots, frame_in, frames_in, outcome_of}
use Rattle.eval_state.specs.Tops.{taken, below, IsPopped}
use Rattle.eval_state.specs.View.{control_of, frames, state, configuration_of}
use Rattle.eval_state.proofs.Pushes.{others_none}
use Rattle.eval_state.proofs.Tops.{on_top}
use Rattle.eval_step.specs.declared.evaluator.Evaluator.{Evaluator}
use Rattle.eval_step.specs.Runs.{Stands, Runs}
use Rattle.eval_step.specs.Stepped.{HasStepped, HasEnded, NoTop, HadTop, IsTopTaken}
use Rattle.eval_step.proofs.Lifting.{beside_another}
use Rattle.eval_step.proofs.Running.{runs_from}

-- what is done next
pub about_to : (m : Machine) (k : Control) → m.control ≡ k → (names : List (List ℕ)) (s : Setting) (b : Beside)
    → step s (configuration_of names m b) ≡ control_step s (control_of names m k) (frames names m 0) (state names m b)
about_to m k e names s b = ap (λ c. control_step s (control_of names m c) (frames names m 0) (state names m b)) e

-- an outcome without a frame is the end
none_left : (names : List (List ℕ)) (m : Machine) → m.frames.items ≡ [] → frames names m 0 ≡ []
unfolding frames_in
none_left names m e = ap (λ is. frames_in names m.current (others_of 0 m.operands.items) m.slots.items (reverse is)) e

-- a machine that is about to go into its frames, where these are the same ones in another place of the host's memory
come_to_items : (names : List (List ℕ)) (m n : Machine) (o : Outcome) (b : Beside) → m.control ≡ ComeTo o → n.frames.items ≡ m.frames.items
    → n ≡ record m { frames = n.frames } → configuration_of names n b ≡ configuration_of names m b
come_to_items names m n o b c e same =
    ap (λ (x : Machine). configuration_of names x b) same
    ∙ ap (λ k. configuration (control_of names (record m { frames = n.frames }) k) (frames names (record m { frames = n.frames }) 0) (state names m b)) c
    ∙ ap (λ ws. configuration (come_to (outcome_of names o)) (frames_in names m.current (others_of 0 m.operands.items) m.slots.items (reverse ws)) (state names m b)) e
    ∙ ap (λ k. configuration (control_of names m k) (frames names m 0) (state names m b)) (sym c)

-- and what stands beside it stands there still
stays_there : (old new : Evaluator) (o : Outcome) → old.machine.control ≡ ComeTo o → NoTop old new → Runs old new (λ names s b. configuration_of names old.machine b)
stays_there old new o e n = record {
  given = ap (λ (x : Evaluator). x.machine.given) n.same;
  ended = ap (λ (x : Evaluator). x.ended) n.same;
  comes = λ names written unread b g st. record {
    beside = b;
    stands = subst (λ x. Stands names x written unread b) (sym n.same)
        (beside_another names old (record old.machine { frames = new.machine.frames }) written unread b st);
    is = come_to_items names old.machine new.machine o b e n.frames (ap (λ (x : Evaluator). x.machine) n.same);
  };
}

pub ended : (old new : Evaluator) (o : Outcome) → old.machine.control ≡ ComeTo o → NoTop old new → HasEnded old new
ended old new o e n = record {
  is_end = λ names s b. about_to old.machine (ComeTo o) e names s b ∙ ap (λ fs. control_step s (come_to (outcome_of names o)) fs (state names old.machine b)) (none_left names old.machine n.none);
  same_configuration = λ names b. come_to_items names old.machine new.machine o b e n.frames (ap (λ (x : Evaluator). x.machine) n.same);
  stays = stays_there old new o e n;
  frames = n.frames;
  same = n.same;
}

-- the frame that was taken away, and those below it
pub popped_off : (names : List (List ℕ)) (old mid : Machine) (w : ContinuationFrame) → IsPopped old mid (Some w) → frames names old 0 ≡ taken names mid w ∷ below names mid w
popped_off names old mid w p =
    ap (λ is. frames_in names old.current (others_of 0 old.operands.items) old.slots.items (reverse is)) p.frames
    ∙ on_top names old.current (others_of 0 old.operands.items) old.slots.items mid.frames.items w
    ∙ ap (λ os. frame_in names old.current (reverse mid.frames.items) (values_of names (last_of (operands_of w) os)) (frame_slots names (activation_below old.current w) (slots_below old.current old.slots.items w)) w
    ∷ frames_in names (activation_below old.current w) (others_of (operands_of w) os) (slots_below old.current old.slots.items w) (reverse mid.frames.items)) (others_none old.operands.items)
    ∙ ap (λ (m : Machine). taken names m w ∷ below names m w) (sym p.same)

pub left : (old mid new : Evaluator) (o : Outcome) (w : ContinuationFrame) → old.machine.control ≡ ComeTo o → HadTop old mid w
    → Runs mid new (λ names s b. outcome_step s (taken names mid.machine w) (outcome_of names o) (below names mid.machine w) (state names mid.machine b))
    → HasStepped old new
left old mid new o w e h x = record {
  next = λ names s b. outcome_step s (taken names mid.machine w) (outcome_of names o) (below names mid.machine w) (state names mid.machine b);
  is_next = λ names s b.
      about_to old.machine (ComeTo o) e names s b
      ∙ ap (λ fs. control_step s (come_to (outcome_of names o)) fs (state names old.machine b)) (popped_off names old.machine mid.machine w h.popped)
      ∙ ap (λ (m : Machine). Some (outcome_step s (taken names mid.machine w) (outcome_of names o) (below names mid.machine w) (state names m b))) (sym h.popped.same);
  comes =
      let f : List (List ℕ) → Setting → Beside → Configuration = λ names s b. outcome_step s (taken names mid.machine w) (outcome_of names o) (below names mid.machine w) (state names mid.machine b) in
      runs_from old mid.machine new f f (ap (λ (m : Machine). m.given) h.popped.same) (subst (λ y. Runs y new f) h.same x) (λ names s b. refl);
}

-- what was done is what was about to be done
pub stepped : (old new : Evaluator) (k : Control) (next : List (List ℕ) → Setting → Beside → Configuration) → old.machine.control ≡ k
    → ((names : List (List ℕ)) (s : Setting) (b : Beside) → control_step s (control_of names old.machine k) (frames names old.machine 0) (state names old.machine b) ≡ Some (next names s b))
    → Runs old new next → HasStepped old new
stepped old new k next e is x = record {
  next = next;
  is_next = λ names s b. about_to old.machine k e names s b ∙ is names s b;
  comes = x;
}

-- the frame on top was taken away, if there is one
nothing : {X : Type 0} (xs : List X) → length xs ≡ 0 → xs ≡ []
nothing [] h = refl
nothing (x ∷ xs) h = absurd (omega arith)

pub top_is : (old new : Evaluator) (r : Option ContinuationFrame) → new ≡ record old { machine = record old.machine { frames = new.machine.frames } }
    → old.machine.frames.items ≡ new.machine.frames.items ++ option_to_list r
    → (n k : ℕ) → n ≡ length old.machine.frames.items → k ≡ length new.machine.frames.items → MatchOption r ((n ≡ 0) × (k ≡ 0)) (λ w. k + 1 ≡ n)
    → IsTopTaken old new r
top_is old new None same items n k long short cases = record {
  none = nothing old.machine.frames.items (sym long ∙ cases.0);
  frames = nothing new.machine.frames.items (sym short ∙ cases.1) ∙ sym (nothing old.machine.frames.items (sym long ∙ cases.0));
  same = same;
}
top_is old new (Some w) same items n k long short cases = record {
  popped = record { frames = items; same = ap (λ (e : Evaluator). e.machine) same };
  same = same ∙ ap (λ m. record old { machine = m }) (sym (ap (λ (e : Evaluator). e.machine) same));
}
