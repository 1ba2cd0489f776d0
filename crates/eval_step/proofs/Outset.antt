-- The evaluator before its first step is at the start.
use Rattle.std.proofs.Common.{Bor, ◌≡◌, ℕ, true, false, List, [], ◌∷◌, ◌++◌, refl, ap, sym, ◌∙◌, drop, length, map, reverse, ◌-◌, arith}
use Rattle.lang_meaning.specs.State.{value}
use Rattle.lang_meaning.specs.Values.{nil}
use Rattle.flat_language.specs.FlatForm.{FlatForm}
use Rattle.eval_machine.specs.Configuration.{configuration, come_to, awaits, main_forms}
use Rattle.eval_store.specs.declared.store.Store.{Store}
use Rattle.eval_store.specs.declared.word.Word.TheVariants.{Nil}
use Rattle.eval_store.specs.NamedValues.{Holds}
use Rattle.eval_store.specs.Spelling.{IsSpelling}
use Rattle.eval_store.specs.View.{Beside, seen}
use Rattle.eval_state.specs.declared.frame.ContinuationFrame.{ContinuationFrame}
use Rattle.eval_state.specs.declared.frame.ContinuationFrame.TheVariants as frame
use Rattle.eval_state.specs.declared.frame.Outcome.TheVariants.{Value}
use Rattle.eval_state.specs.declared.given.Given.{Given}
use Rattle.eval_state.specs.declared.slot.Slot.{Slot}
use Rattle.eval_state.specs.declared.machine.Control.TheVariants.{ComeTo}
use Rattle.eval_state.specs.declared.machine.Machine.{Machine}
use Rattle.eval_state.specs.Frames.{last_of, others_of, slot_of, frames_in}
use Rattle.eval_state.specs.View.{control_of, frames, state}
use Rattle.eval_control.proofs.Leftover.{done}
use Rattle.eval_step.specs.declared.evaluator.Evaluator.{Evaluator}
use Rattle.eval_step.specs.Runs.{Stands}
use Rattle.eval_step.specs.Started.{IsStarted}

-- a machine whose only frame has the main forms, with nothing else in it
pub record IsInitialMachine (given : Given) (store : Store) (level : ℕ) (m : Machine) : Type 0 where
  pub given_is : m.given ≡ given
  pub control : m.control ≡ ComeTo (Value Nil)
  pub main : Bor (List FlatForm)
  pub main_is : main.now ≡ given.program.now.main
  pub frames : m.frames.items ≡ frame.MainForms level main 0 ∷ []
  pub slots : m.slots.items ≡ []
  pub store_is : m.store ≡ store

pub first_of : (given : Given) (store : Store) (level : ℕ) (m : Machine) (main : Bor (List FlatForm)) (before : List ContinuationFrame)
    → m.frames.items ≡ before ++ frame.MainForms level main 0 ∷ [] → before ≡ [] → main.now ≡ given.program.now.main
    → m.given ≡ given → m.control ≡ ComeTo (Value Nil) → m.slots.items ≡ [] → m.store ≡ store → IsInitialMachine given store level m
first_of given store level m main before pushed none main_is given_is control slots store_is = record {
  given_is = given_is;
  control = control;
  main = main;
  main_is = main_is;
  frames = pushed ∙ ap (λ ws. ws ++ frame.MainForms level main 0 ∷ []) none;
  slots = slots;
  store_is = store_is;
}

only_frame : (names : List (List ℕ)) (given : Given) (store : Store) (level : ℕ) (m : Machine) → IsInitialMachine given store level m
    → frames names m 0 ≡ awaits (main_forms level given.program.now.main) ∷ []
unfolding frames_in
only_frame names given store level m f =
    ap (λ is. frames_in names m.current (others_of 0 m.operands.items) m.slots.items (reverse is)) f.frames
    ∙ ap (λ fs. awaits (main_forms level fs) ∷ []) (from_first f.main.now ∙ f.main_is)
  where
    from_first : (xs : List FlatForm) → drop 0 xs ≡ xs
    from_first [] = refl
    from_first (x ∷ xs) = refl

first_state_is : (names : List (List ℕ)) (given : Given) (store : Store) (level : ℕ) (m : Machine) (b : Beside) → IsInitialMachine given store level m
    → state names m b ≡ seen names store (record b { frame = [] })
first_state_is names given store level m b f =
    ap (λ xs. seen names m.store (record b { frame = map (slot_of names) (last_of m.current.slots xs) })) f.slots
    ∙ ap (λ xs. seen names m.store (record b { frame = map (slot_of names) xs })) (let none : List Slot = [] in done none (length none - m.current.slots) (omega arith))
    ∙ ap (λ s. seen names s (record b { frame = [] })) f.store_is

pub started : (given : Given) (store : Store) (level : ℕ) (e : Evaluator) → IsInitialMachine given store level e.machine
    → ((names : List (List ℕ)) → IsSpelling names given.spellings → Holds names e.globals []) → ((names : List (List ℕ)) → IsSpelling names given.spellings → Holds names e.dynamics [])
    → e.printed.items ≡ [] → e.at_start ≡ true → e.ahead.items ≡ [] → e.ended ≡ false → IsStarted given store level e
started given store level e f globals dynamics printed at_start ahead not_ended = record {
  is_given = f.given_is;
  not_ended = not_ended;
  comes = λ names input spelling laid.
      let b : Beside = record { globals = []; dynamics = []; input = input; printed = []; frame = [] } in
      let stands : Stands names e [] input b = record {
        globals = globals names spelling;
        dynamics = dynamics names spelling;
        printed = sym printed;
        at_start = at_start;
        input = sym (ap (λ xs. drop e.taken xs ++ input) ahead ∙ ap (λ xs. xs ++ input) (let none : List ℕ = [] in done none e.taken (omega arith)));
        ended = λ h. absurd (cc);
      } in
      record {
        beside = b;
        stands = stands;
        is =
            ap (λ k. configuration (control_of names e.machine k) (frames names e.machine 0) (state names e.machine b)) f.control
            ∙ ap (λ fs. configuration (come_to (value nil)) fs (state names e.machine b)) (only_frame names given store level e.machine f)
            ∙ ap (λ z. configuration (come_to (value nil)) (awaits (main_forms level given.program.now.main) ∷ []) z) (first_state_is names given store level e.machine b f ∙ laid.objects b);
      };
}
