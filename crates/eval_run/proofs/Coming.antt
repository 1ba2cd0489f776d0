-- An evaluation on its way comes further: after steps in which no form began, and after one that begins a form.
use Rattle.std.proofs.Common.{◌≡◌, ℕ, zero, suc, ◌+◌, Bool, true, false, if◌then◌else◌, List, [], Option, None, refl, ap, sym, ◌∙◌, subst, arith}
use Rattle.flat_language.specs.FlatState.{FlatState}
use Rattle.eval_machine.specs.Configuration.{Setting, Control, evaluate, signals, come_to, ContinuationFrame, Configuration}
use Rattle.eval_machine.specs.Step.{control_step}
use Rattle.eval_machine.specs.Run.{steps, next, next_or, begins, forms_begun, start}
use Rattle.eval_store.specs.View.{Beside}
use Rattle.eval_state.specs.declared.given.Given.{Given}
use Rattle.eval_state.specs.View.{IsGiven, configuration_of}
use Rattle.eval_state.specs.View as machine
use Rattle.eval_step.specs.declared.evaluator.Evaluator.{Evaluator}
use Rattle.eval_step.specs.Runs.{IsAtConfiguration}
use Rattle.eval_step.specs.Stepped.{HasStepped, IsStepped}
use Rattle.eval_step.specs.Advanced.{HasReached}
use Rattle.lang_meaning.specs.Evaluation.{Evaluation}
use Rattle.eval_run.specs.Moments.{setting_of, configuration_after}
use Rattle.eval_run.specs.UnderWay.{RunsFor, HasCome, UnderWay}
use Rattle.eval_run.proofs.Counting.{steps_sum, forms_sum}

-- a step more is one at the end
steps_more : (s : Setting) (n : ℕ) (m : Configuration) → steps s (suc n) m ≡ next s (steps s n m)
steps_more s zero m = refl
steps_more s (suc n) m = steps_more s n (next s m)

pub forms_more : (s : Setting) (n : ℕ) (m : Configuration) → forms_begun s (suc n) m ≡ forms_begun s n m + (if begins (steps s n m).control then 1 else 0)
forms_more s zero m = let e : (if begins m.control then 1 else 0) + 0 ≡ 0 + (if begins m.control then 1 else 0) = omega arith in e
forms_more s (suc n) m =
    let first : ℕ = if begins m.control then 1 else 0 in
    let last : ℕ = if begins (steps s n (next s m)).control then 1 else 0 in
    let rest : forms_begun s (suc n) (next s m) ≡ forms_begun s n (next s m) + last = forms_more s n (next s m) in
    let joined : first + (forms_begun s n (next s m) + last) ≡ first + forms_begun s n (next s m) + last = omega arith in
    ap (λ k. first + k) rest ∙ joined

-- the program that runs is the same
pub runs_as : (e : Evaluation) (old new : Evaluator) → new.machine.given ≡ old.machine.given → RunsFor e old → RunsFor e new
runs_as e old new is r = record {
  setting = ap (machine.setting_of e.names) is ∙ r.setting;
  given = let P : Given → Type 0 = λ g. IsGiven e.names g in subst P (sym is) r.given;
}

none_more : (a b c n : ℕ) → a ≡ b + c → c ≡ 0 → b ≡ n → a ≡ n
none_more a b c n p q r = omega arith

-- it has reached another configuration, and no form began
pub came : (e : Evaluation) (left left' given given' : Option (List ℕ)) (forms : ℕ) (old new : Evaluator) (n : ℕ) → HasReached old new n
    → UnderWay e left left' given given' forms old → UnderWay e left left' given given' forms new
came e left left' given given' forms old new n r u = record {
  runs = runs_as e old new r.given u.runs;
  taken = u.taken;
  was_taken = u.was_taken;
  all_is = u.all_is ∙ sym r.ended;
  written = u.written;
  was_given = u.was_given;
  count = u.count + n;
  comes = λ input b.
      let s : Setting = setting_of e in
      let first : Configuration = start s input e.levels in
      let own : Setting = machine.setting_of e.names old.machine.given in
      let h : HasCome e u.taken u.written u.count forms old input b = u.comes input b in
      let a : IsAtConfiguration e.names old u.written b.rest (configuration_after e input u.count) = h.is_at in
      let there : Configuration = configuration_of e.names old.machine a.beside in
      let x : IsAtConfiguration e.names new u.written b.rest (steps own n there) = r.comes e.names u.written b.rest a.beside u.runs.given a.stands in
      let quiet : forms_begun own n there ≡ 0 = r.begun e.names u.written b.rest a.beside u.runs.given a.stands in
      record {
        is_at = record {
          beside = x.beside;
          stands = x.stands;
          is = x.is ∙ ap (λ k. steps k n there) u.runs.setting ∙ ap (steps s n) a.is ∙ sym (steps_sum s u.count n first);
        };
        begun = none_more (forms_begun s (u.count + n) first) (forms_begun s u.count first) (forms_begun s n (steps s u.count first)) forms
            (forms_sum s u.count n first) (sym (ap (forms_begun s n) a.is) ∙ sym (ap (λ k. forms_begun k n there) u.runs.setting) ∙ quiet) h.begun;
      };
}

one_more : (a b n : ℕ) (c : Bool) → a ≡ b + (if c then 1 else 0) → c ≡ true → b ≡ n → a ≡ n + 1
one_more a b n true p q r = omega arith
one_more a b n false p q r = absurd (cc q)

-- it has stepped where a form begins
pub began : (e : Evaluation) (left left' given given' : Option (List ℕ)) (forms : ℕ) (old new : Evaluator) → HasStepped old new
    → ((names : List (List ℕ)) (b : Beside) → begins (configuration_of names old.machine b).control ≡ true)
    → UnderWay e left left' given given' forms old → UnderWay e left left' given given' (forms + 1) new
began e left left' given given' forms old new h form u = record {
  runs = runs_as e old new h.comes.given u.runs;
  taken = u.taken;
  was_taken = u.was_taken;
  all_is = u.all_is ∙ sym h.comes.ended;
  written = u.written;
  was_given = u.was_given;
  count = suc u.count;
  comes = λ input b.
      let s : Setting = setting_of e in
      let first : Configuration = start s input e.levels in
      let own : Setting = machine.setting_of e.names old.machine.given in
      let k : HasCome e u.taken u.written u.count forms old input b = u.comes input b in
      let a : IsAtConfiguration e.names old u.written b.rest (configuration_after e input u.count) = k.is_at in
      let there : Configuration = configuration_of e.names old.machine a.beside in
      let x : IsAtConfiguration e.names new u.written b.rest (h.next e.names own a.beside) = h.comes.comes e.names u.written b.rest a.beside u.runs.given a.stands in
      record {
        is_at = record {
          beside = x.beside;
          stands = x.stands;
          is =
              x.is
              ∙ ap (λ q. h.next e.names q a.beside) u.runs.setting
              ∙ sym (ap (next_or there) (h.is_next e.names s a.beside))
              ∙ ap (next s) a.is
              ∙ sym (steps_more s u.count first);
        };
        begun = one_more (forms_begun s (suc u.count) first) (forms_begun s u.count first) forms (begins (steps s u.count first).control)
            (forms_more s u.count first) (ap (λ (m : Configuration). begins m.control) (sym a.is) ∙ form e.names a.beside) k.begun;
      };
}

-- where a form begins there is a next configuration
goes_on : (s : Setting) (c : Control) (frames : List ContinuationFrame) (z : FlatState) → begins c ≡ true → control_step s c frames z ≡ None → ⊥
goes_on s (evaluate f at) frames z form none = absurd (cc none)
goes_on s (signals c mark level around) frames z form none = absurd (cc form)
goes_on s (come_to o) frames z form none = absurd (cc form)

pub nowhere : Beside
nowhere = record { globals = []; dynamics = []; input = []; printed = []; frame = [] }

pub began_so : (e : Evaluation) (left left' given given' : Option (List ℕ)) (forms : ℕ) (old new : Evaluator) (went : Bool) → IsStepped old new went
    → ((names : List (List ℕ)) (b : Beside) → begins (configuration_of names old.machine b).control ≡ true)
    → UnderWay e left left' given given' forms old → UnderWay e left left' given given' (forms + 1) new
began_so e left left' given given' forms old new true h form u = began e left left' given given' forms old new h form u
began_so e left left' given given' forms old new false h form u =
    let m : Configuration = configuration_of [] old.machine nowhere in
    absurd (goes_on (setting_of e) m.control m.frames m.state (form [] nowhere) (h.is_end [] (setting_of e) nowhere))
