-- Variables of names: what stands in the evaluator's tables is what the meaning finds.
use Rattle.std.proofs.Common.{◌≡◌, ℕ, List, ◌∷◌, Option, None, Result, Ok, Err, OnOk, refl, ap, sym, subst, ◌∙◌}
use Rattle.base.specs.declared.datum.Name.{Name}
use Rattle.lang_meaning.specs.Lookup.{text, under_text}
use Rattle.lang_meaning.specs.Values.{Value}
use Rattle.flat_language.specs.FlatState.{gives, on_state}
use Rattle.eval_machine.specs.Applications.{signal_unbound}
use Rattle.eval_machine.specs.Configuration.{Setting, Configuration, Transition, ended, some_or}
use Rattle.eval_machine.specs.Step.{value_step}
use Rattle.eval_store.specs.declared.word.Word.{Word}
use Rattle.eval_store.specs.declared.word.Word.TheVariants.{Symbol}
use Rattle.eval_store.specs.declared.named_values.NamedValues.{NamedValues}
use Rattle.eval_store.specs.Words.{value_of_word}
use Rattle.eval_store.specs.NamedValues.{Holds}
use Rattle.eval_store.specs.View.{Beside}
use Rattle.eval_state.specs.declared.machine.Machine.{Machine}
use Rattle.eval_state.specs.declared.situation.Situation.{Situation}
use Rattle.eval_state.specs.Frames.{situation_in}
use Rattle.eval_state.specs.View.{StepsTo, IsGiven, setting_of, at, frames, state, dynamic_context}
use Rattle.eval_step.specs.declared.evaluator.Evaluator.{Evaluator}
use Rattle.eval_step.specs.declared.named.Table.{Table}
use Rattle.eval_step.specs.declared.named.Table.TheVariants.{Globals, Dynamics}
use Rattle.eval_step.specs.Named.{with_pair, def_named, with_named, IsPut}
use Rattle.eval_step.specs.Runs.{Stands, Runs}
use Rattle.eval_step.proofs.Lifting.{beside_another}

-- the machine alone has gone on, and the tables say where
pub went : (e : Evaluator) (m : Machine) (f g : List (List ℕ) → Setting → Beside → Configuration) → StepsTo e.machine m f
    → ((names : List (List ℕ)) (written unread : List ℕ) (b : Beside) → IsGiven names e.machine.given → Stands names e written unread b
    → f names (setting_of names e.machine.given) b ≡ g names (setting_of names e.machine.given) b)
    → Runs e (record e { machine = m }) g
went e m f g s same = record {
  given = s.given;
  ended = refl;
  comes = λ names written unread b k st. record {
    beside = b;
    stands = beside_another names e m written unread b st;
    is = s.comes names b k ∙ same names written unread b k st;
  };
}

-- a table has changed too
pub went_put : (e mid : Evaluator) (m : Machine) (table : Table) (n : ℕ) (w : Word) (f : Machine → List (List ℕ) → Setting → Beside → Configuration)
    (g : List (List ℕ) → Setting → Beside → Configuration) → IsPut table n w e mid → StepsTo mid.machine m (f mid.machine)
    → ((names : List (List ℕ)) (written unread : List ℕ) (b : Beside) → Stands names e written unread b
    → f e.machine names (setting_of names e.machine.given) (with_named table n w names b) ≡ g names (setting_of names e.machine.given) b)
    → Runs e (record mid { machine = m }) g
went_put e mid m table n w f g put s same =
    let there : StepsTo e.machine m (f e.machine) = subst (λ k. StepsTo k m (f k)) (ap (λ (x : Evaluator). x.machine) put.same) s in
    record {
      given = there.given;
      ended = ap (λ (x : Evaluator). x.ended) put.same;
      comes = λ names written unread b k st. record {
        beside = with_named table n w names b;
        stands = beside_another names mid m written unread (with_named table n w names b) (put.stands names written unread b st);
        is = there.comes names (with_named table n w names b) k ∙ same names written unread b st;
      };
    }

-- what stands beside the machine then
pub global_put : (e : Evaluator) (t : NamedValues) (n : ℕ) (w : Word)
    → ((names : List (List ℕ)) (pairs : List (List ℕ × Value)) → Holds names e.globals pairs → Holds names t ((text names n, value_of_word names w) ∷ pairs))
    → IsPut Globals n w e (record e { globals = t })
global_put e t n w set = record {
  same = refl;
  stands = λ names written unread b s. record {
    globals = set names b.globals s.globals;
    dynamics = s.dynamics;
    printed = s.printed;
    at_start = s.at_start;
    input = s.input;
    ended = s.ended;
  };
}

pub dynamic_put : (e : Evaluator) (t : NamedValues) (n : ℕ) (w : Word)
    → ((names : List (List ℕ)) (pairs : List (List ℕ × Value)) → Holds names e.dynamics pairs → Holds names t ((text names n, value_of_word names w) ∷ pairs))
    → IsPut Dynamics n w e (record e { dynamics = t })
dynamic_put e t n w set = record {
  same = refl;
  stands = λ names written unread b s. record {
    globals = s.globals;
    dynamics = set names b.dynamics s.dynamics;
    printed = s.printed;
    at_start = s.at_start;
    input = s.input;
    ended = s.ended;
  };
}

-- the state then, and what a definition gives
pub state_put : (table : Table) (n : ℕ) (w : Word) (names : List (List ℕ)) (m : Machine) (b : Beside)
    → state names m (with_named table n w names b) ≡ on_state (with_pair table (text names n) (value_of_word names w)) (state names m b)
state_put Globals n w names m b = refl
state_put Dynamics n w names m b = refl

pub defined : (table : Table) (name : Name) (w : Word) (names : List (List ℕ)) (m : Machine) (b : Beside)
    → ended (gives (value_of_word names (Symbol name)) (state names m (with_named table name.0 w names b))) (frames names m 0)
    ≡ value_step (setting_of names m.given) (def_named table name.0) (value_of_word names w) (frames names m 0) (state names m b)
defined Globals name w names m b = refl
defined Dynamics name w names m b = refl

-- a name has no value: that is signalled
pub unbound : {T E : Type 0} (r : Result T E) (e : Evaluator) (m : Machine) (n : ℕ) (q : Situation) (pairs : List (List ℕ) → Beside → List (List ℕ × Value))
    (next : List (List ℕ) → Setting → Value → Transition)
    → ((names : List (List ℕ)) (written unread : List ℕ) (b : Beside) → Stands names e written unread b → under_text (text names n) (pairs names b) ≡ None)
    → OnOk r (StepsTo e.machine m (λ names s b. signal_unbound s (text names n) q.level (dynamic_context names e.machine q.around) (frames names e.machine 0)
    (state names e.machine b)))
    → OnOk r (Runs e (record e { machine = m }) (λ names s b.
    some_or (under_text (text s.names n) (pairs names b)) (signal_unbound s (text s.names n) (at names e.machine q).level (at names e.machine q).around)
    (next names s) (frames names e.machine 0) (state names e.machine b)))
unfolding situation_in
unbound (Err x) e m n q pairs next none s = tt
unbound (Ok x) e m n q pairs next none s =
    went e m _ _ s (λ names written unread b k st.
    sym (ap (λ (o : Option Value). some_or o
    (signal_unbound (setting_of names e.machine.given) (text names n) q.level (dynamic_context names e.machine q.around))
    (next names (setting_of names e.machine.given)) (frames names e.machine 0) (state names e.machine b))
    (none names written unread b st)))
