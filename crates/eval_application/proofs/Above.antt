-- A machine goes on above a plain frame, and with operands more.
use Rattle.std.proofs.Common.{◌≡◌, ℕ, ◌+◌, ◌-◌, List, [], ◌∷◌, ◌++◌, length, take, drop, true, ap, sym, ◌∙◌, subst, arith, length-append}
use Rattle.std.specs.Prelude.{reverse}
use Rattle.std.proofs.Math.Seq.{drop-append_seam, take-append_seam}
use Rattle.lang_meaning.specs.Values.{Value}
use Rattle.lang_meaning.specs.State.{DynamicContext}
use Rattle.eval_machine.specs.Configuration.{Setting, Transition}
use Rattle.eval_store.specs.declared.word.Word.{Word}
use Rattle.eval_store.specs.Words.{values_of}
use Rattle.eval_state.specs.declared.frame.ContinuationFrame.{ContinuationFrame}
use Rattle.eval_state.specs.declared.given.Given.{Given}
use Rattle.eval_state.specs.declared.situation.DynamicLinks.{DynamicLinks}
use Rattle.eval_state.specs.declared.machine.Machine.{Machine}
use Rattle.eval_state.specs.Frames.{last_of, others_of, around_in, frames_in}
use Rattle.eval_state.specs.Operands.{IsDropped}
use Rattle.eval_state.specs.Tops.{IsAbove}
use Rattle.eval_state.specs.View.{StepsTo, IsGiven, OnlyWaits, setting_of, waiting_frame_of, state, top, frames, dynamic_context}
use Rattle.eval_application.specs.Methods.{ArePushed}
use Rattle.eval_state.proofs.Doing.{then_dropped}
use Rattle.eval_state.proofs.Pushes.{pushed, surroundings_stay, others_none}

-- a plain frame is pushed
pub then_above : (old mid new : Machine) (w : ContinuationFrame) (n : ℕ) (a : DynamicLinks) (t : List (List ℕ) → Setting → List Value → DynamicContext → Transition) → IsAbove old mid w → OnlyWaits w ≡ true
    → StepsTo mid new (λ names s b. t names s (top names mid n) (dynamic_context names mid a) (frames names mid n) (state names mid b))
    → StepsTo old new (λ names s b. t names s (top names old n) (dynamic_context names old a) (waiting_frame_of names old w ∷ frames names old n) (state names old b))
then_above old mid new w n a t h plain s = record {
  given = s.given ∙ ap (λ (m : Machine). m.given) h.same;
  comes = λ names b g.
      s.comes names b (let P : Given → Type 0 = λ x. IsGiven names x in subst P (sym (ap (λ (m : Machine). m.given) h.same)) g)
      ∙ ap (λ (m : Machine). t names (setting_of names m.given) (top names m n) (dynamic_context names m a) (frames names m n) (state names m b)) h.same
      ∙ ap (λ items. t names (setting_of names old.given) (top names old n) (around_in names (reverse items) a) (frames_in names old.current (others_of n old.operands.items) old.slots.items (reverse items)) (state names old b)) h.frames
      ∙ ap (λ x. t names (setting_of names old.given) (top names old n) x (frames_in names old.current (others_of n old.operands.items) old.slots.items (reverse (old.frames.items ++ w ∷ []))) (state names old b))
      (surroundings_stay names old.frames.items w a plain)
      ∙ ap (λ x. t names (setting_of names old.given) (top names old n) (dynamic_context names old a) x (state names old b))
      (pushed names old.current (others_of n old.operands.items) old.slots.items old.frames.items w plain);
}

-- the operands that were pushed are the last ones
pub last_pushed : {X : Type 0} (xs ys : List X) (n : ℕ) → n ≡ length ys → last_of n (xs ++ ys) ≡ ys
last_pushed xs ys n e =
    let l : length (xs ++ ys) ≡ length xs + length ys = length-append xs ys in
    let d : length (xs ++ ys) - n ≡ length xs = omega arith in
    ap (λ k. drop k (xs ++ ys)) d ∙ drop-append_seam xs ys

pub others_pushed : {X : Type 0} (xs ys : List X) (n : ℕ) → n ≡ length ys → others_of n (xs ++ ys) ≡ xs
others_pushed xs ys n e =
    let l : length (xs ++ ys) ≡ length xs + length ys = length-append xs ys in
    let d : length (xs ++ ys) - n ≡ length xs = omega arith in
    ap (λ k. take k (xs ++ ys)) d ∙ take-append_seam xs ys

-- operands are pushed, which are the arguments
pub then_arguments : (old mid new : Machine) (ws : List Word) (n : ℕ) (a : DynamicLinks) (t : List (List ℕ) → Setting → List Value → DynamicContext → Transition) → ArePushed old mid ws → n ≡ length ws
    → StepsTo mid new (λ names s b. t names s (top names mid n) (dynamic_context names mid a) (frames names mid n) (state names mid b))
    → StepsTo old new (λ names s b. t names s (values_of names ws) (dynamic_context names old a) (frames names old 0) (state names old b))
then_arguments old mid new ws n a t h e s = record {
  given = s.given ∙ ap (λ (m : Machine). m.given) h.same;
  comes = λ names b g.
      s.comes names b (let P : Given → Type 0 = λ x. IsGiven names x in subst P (sym (ap (λ (m : Machine). m.given) h.same)) g)
      ∙ ap (λ (m : Machine). t names (setting_of names m.given) (top names mid n) (dynamic_context names m a) (frames_in names m.current (others_of n mid.operands.items) m.slots.items (reverse m.frames.items)) (state names m b)) h.same
      ∙ ap (λ xs. t names (setting_of names old.given) (values_of names (last_of n xs)) (dynamic_context names old a) (frames_in names old.current (others_of n xs) old.slots.items (reverse old.frames.items)) (state names old b)) h.operands
      ∙ ap (λ xs. t names (setting_of names old.given) (values_of names xs) (dynamic_context names old a) (frames_in names old.current (others_of n (old.operands.items ++ ws)) old.slots.items (reverse old.frames.items)) (state names old b)) (last_pushed old.operands.items ws n e)
      ∙ ap (λ xs. t names (setting_of names old.given) (values_of names ws) (dynamic_context names old a) (frames_in names old.current xs old.slots.items (reverse old.frames.items)) (state names old b))
      (others_pushed old.operands.items ws n e ∙ sym (others_none old.operands.items));
}

-- operands are dropped, where the dynamic context does not count
nowhere : DynamicLinks
nowhere = record { exits = 0; handlers = 0; bindings = 0; site = record { line = 0; column = 0 } }

pub then_fewer : (old mid new : Machine) (n : ℕ) (t : List (List ℕ) → Setting → Transition) → IsDropped old mid n
    → StepsTo mid new (λ names s b. t names s (frames names mid 0) (state names mid b))
    → StepsTo old new (λ names s b. t names s (frames names old n) (state names old b))
then_fewer old mid new n t d s = then_dropped old mid new n nowhere (λ names s around frames z. t names s frames z) d s
