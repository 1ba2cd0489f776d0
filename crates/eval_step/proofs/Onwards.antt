-- Several steps, from one to the next, up to one in which a form begins.
use Rattle.std.proofs.Common.{◌≡◌, ℕ, zero, suc, ◌+◌, Bool, true, false, if◌then◌else◌, List, [], refl, ap, sym, ◌∙◌, subst, arith}
use Rattle.flat_language.specs.FlatForm.{FlatForm, prim}
use Rattle.eval_machine.specs.Configuration.{Setting, Configuration}
use Rattle.eval_machine.specs.Step.{step}
use Rattle.eval_machine.specs.Run.{steps, next, next_or, form_begins, begins, forms_begun, IsEnd}
use Rattle.eval_store.specs.View.{Beside}
use Rattle.eval_state.specs.declared.given.Given.{Given}
use Rattle.eval_state.specs.declared.machine.Machine.{Machine}
use Rattle.eval_state.specs.declared.machine.Control.{Control as Doing}
use Rattle.eval_state.specs.declared.machine.Control.TheVariants as doing
use Rattle.eval_state.specs.View.{IsGiven, setting_of, control_of, configuration_of}
use Rattle.eval_step.specs.declared.evaluator.Evaluator.{Evaluator}
use Rattle.eval_step.specs.Runs.{IsAtConfiguration}
use Rattle.eval_step.specs.Stepped.{HasStepped, HasEnded, IsStepped}
use Rattle.eval_step.specs.Streams.{form_reads, control_reads, is_fed}
use Rattle.eval_step.specs.Advanced.{HasReached}

-- a step more is one at the end
steps_more : (s : Setting) (n : ℕ) (m : Configuration) → steps s (suc n) m ≡ next s (steps s n m)
steps_more s zero m = refl
steps_more s (suc n) m = steps_more s n (next s m)

pub reached_none : (e : Evaluator) → HasReached e e 0
reached_none e = record {
  given = refl;
  ended = refl;
  comes = λ names written unread b k st. record { beside = b; stands = st; is = refl };
  begun = λ names written unread b k st. refl;
}

-- and so is what begins in it
forms_more : (s : Setting) (n : ℕ) (m : Configuration) → forms_begun s (suc n) m ≡ forms_begun s n m + (if begins (steps s n m).control then 1 else 0)
forms_more s zero m = let e : (if begins m.control then 1 else 0) + 0 ≡ 0 + (if begins m.control then 1 else 0) = omega arith in e
forms_more s (suc n) m =
    let rest : forms_begun s (suc n) (next s m) ≡ forms_begun s n (next s m) + (if begins (steps s n (next s m)).control then 1 else 0) = forms_more s n (next s m) in
    ap (λ k. (if begins m.control then 1 else 0) + k) rest
    ∙ (let e : (if begins m.control then 1 else 0) + (forms_begun s n (next s m) + (if begins (steps s n (next s m)).control then 1 else 0))
    ≡ (if begins m.control then 1 else 0) + forms_begun s n (next s m) + (if begins (steps s n (next s m)).control then 1 else 0) = omega arith in e)

-- where no form begins
none_more : (a b : ℕ) (c : Bool) → a ≡ 0 → c ≡ false → b ≡ a + (if c then 1 else 0) → b ≡ 0
none_more a b true h e q = absurd (cc e)
none_more a b false h e q = omega arith

pub reached_more : (old mid new : Evaluator) (n : ℕ) → HasReached old mid n → ((names : List (List ℕ)) (b : Beside) → begins (configuration_of names mid.machine b).control ≡ false)
    → HasStepped mid new → HasReached old new (suc n)
reached_more old mid new n r quiet h = record {
  given = h.comes.given ∙ r.given;
  ended = h.comes.ended ∙ r.ended;
  comes = λ names written unread b g st.
      let start : Configuration = configuration_of names old.machine b in
      let s : Setting = setting_of names old.machine.given in
      let P : Given → Type 0 = λ y. IsGiven names y in
      let a : IsAtConfiguration names mid written unread (steps s n start) = r.comes names written unread b g st in
      let x : IsAtConfiguration names new written unread (h.next names (setting_of names mid.machine.given) a.beside) =
      h.comes.comes names written unread a.beside (subst P (sym r.given) g) a.stands in
      record {
        beside = x.beside;
        stands = x.stands;
        is =
            x.is
            ∙ ap (λ q. h.next names (setting_of names q) a.beside) r.given
            ∙ sym (ap (next_or (configuration_of names mid.machine a.beside)) (h.is_next names s a.beside))
            ∙ ap (next s) a.is
            ∙ sym (steps_more s n start);
      };
  begun = λ names written unread b g st.
      let start : Configuration = configuration_of names old.machine b in
      let s : Setting = setting_of names old.machine.given in
      let a : IsAtConfiguration names mid written unread (steps s n start) = r.comes names written unread b g st in
      none_more (forms_begun s n start) (forms_begun s (suc n) start) (begins (steps s n start).control) (r.begun names written unread b g st)
      (ap (λ (m : Configuration). begins m.control) (sym a.is) ∙ quiet names a.beside) (forms_more s n start);
}

-- the machine has ended, and stays where it was
pub reached_end : (old mid new : Evaluator) (n : ℕ) → HasReached old mid n → HasEnded mid new → HasReached old new n
reached_end old mid new n r h = record {
  given = h.stays.given ∙ r.given;
  ended = h.stays.ended ∙ r.ended;
  comes = λ names written unread b g st.
      let P : Given → Type 0 = λ y. IsGiven names y in
      let a : IsAtConfiguration names mid written unread (steps (setting_of names old.machine.given) n (configuration_of names old.machine b)) = r.comes names written unread b g st in
      let x : IsAtConfiguration names new written unread (configuration_of names mid.machine a.beside) = h.stays.comes names written unread a.beside (subst P (sym r.given) g) a.stands in
      record { beside = x.beside; stands = x.stands; is = x.is ∙ a.is };
  begun = r.begun;
}

pub stopped : (old new : Evaluator) → HasEnded old new → (names : List (List ℕ)) (s : Setting) (b : Beside) → IsEnd s (configuration_of names new.machine b)
stopped old new h names s b = ap (step s) (h.same_configuration names b) ∙ h.is_end names s b

-- a step that reads begins a form
reading_begins : (f : FlatForm) → form_reads f ≡ true → form_begins f ≡ true
reading_begins (prim which fs) h = refl
reading_begins f h = absurd (cc h)

reading_next : (names : List (List ℕ)) (m : Machine) (b : Beside) (k : Doing) → control_reads k ≡ true → begins (control_of names m k) ≡ true
reading_next names m b (doing.Evaluate f s) h = reading_begins f.now h
reading_next names m b (doing.Again test body s) h = refl
reading_next names m b (doing.Signals c mark level around) h = absurd (cc h)
reading_next names m b (doing.ComeTo o) h = absurd (cc h)

nowhere : Beside
nowhere = record { globals = []; dynamics = []; input = []; printed = []; frame = [] }

pub quiet_next : (e : Evaluator) (r : Bool) → ((names : List (List ℕ)) (b : Beside) → r ≡ begins (configuration_of names e.machine b).control) → r ≡ false
    → control_reads e.machine.control ≡ true → is_fed e ≡ true
quiet_next e r h none reads = absurd (cc (sym (reading_next [] e.machine nowhere e.machine.control reads) ∙ sym (h [] nowhere) ∙ none))

pub no_form : (e : Evaluator) (r : Bool) → ((names : List (List ℕ)) (b : Beside) → r ≡ begins (configuration_of names e.machine b).control) → r ≡ false
    → (names : List (List ℕ)) (b : Beside) → begins (configuration_of names e.machine b).control ≡ false
no_form e r h none names b = sym (h names b) ∙ none

pub a_form : (e : Evaluator) (r : Bool) → ((names : List (List ℕ)) (b : Beside) → r ≡ begins (configuration_of names e.machine b).control) → r ≡ true
    → (names : List (List ℕ)) (b : Beside) → begins (configuration_of names e.machine b).control ≡ true
a_form e r h is names b = sym (h names b) ∙ is

-- whether there was a step
pub went_on : (old new : Evaluator) (w : Bool) → w ≡ true → IsStepped old new w → HasStepped old new
went_on old new w e h = subst (IsStepped old new) e h

pub went_not : (old new : Evaluator) (w : Bool) → w ≡ false → IsStepped old new w → HasEnded old new
went_not old new w e h = subst (IsStepped old new) e h
