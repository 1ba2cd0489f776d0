-- Transfers, by the exit that is found.
use Rattle.std.proofs.Common.{◌≡◌, ℕ, true, false, List, [], Option, Some, None, refl, ap, sym, subst, ◌∙◌}
use Rattle.std.specs.Prelude.{reverse, if◌then◌else◌}
use Rattle.lang_meaning.specs.Values.{Value}
use Rattle.lang_meaning.specs.State.{Exit, Landing, DynamicContext, at_segment}
use Rattle.lang_meaning.specs.State as state_of
use Rattle.lang_meaning.specs.Lookup.{passed}
use Rattle.lang_meaning.specs.Signals.{is_continuable}
use Rattle.flat_language.specs.FlatState.{FlatState, charged, leaves}
use Rattle.eval_machine.specs.Configuration.{Setting, ContinuationFrame, Transition, configuration, come_to, ended, some_or, first_that}
use Rattle.eval_machine.specs.Applications.{searched, signal_class, transfer, continue_with}
use Rattle.eval_store.specs.View.{Beside}
use Rattle.eval_store.specs.Words.{value_of_word}
use Rattle.eval_store.specs.declared.word.Word.{Word}
use Rattle.eval_state.specs.declared.situation.DynamicLinks.{DynamicLinks}
use Rattle.eval_state.specs.declared.machine.Machine.{Machine}
use Rattle.eval_state.specs.Chains.{chained}
use Rattle.eval_state.specs.Frames.{exit_link, around_in}
use Rattle.eval_state.specs.View.{StepsTo, IsCharged, IsGiven, setting_of, dynamic_context, frames, state, configuration_of}
use Rattle.eval_control.specs.declared.exits.Sought.{Sought}
use Rattle.eval_control.specs.declared.exits.Sought.TheVariants.{Number, SignalOf}
use Rattle.eval_control.specs.declared.exits.Exit.{Exit as Here}
use Rattle.eval_control.specs.declared.exits.FoundExit.{FoundExit}
use Rattle.eval_control.specs.Exits.{exit_of, meets, IsFound, IsLookedFor, leaving}

-- the exits of a dynamic context
exits_in : (names : List (List ℕ)) (m : Machine) (a : DynamicLinks) → (dynamic_context names m a).exits ≡ chained (exit_link names) (reverse m.frames.items) a.exits
unfolding around_in
exits_in names m a = refl

-- what was looked for is found, once those that were passed are counted
pub counted : (old new : Machine) (sought : Sought) (link : ℕ) (looked : FoundExit)
    → ((names : List (List ℕ)) → IsGiven names old.given → IsLookedFor names sought (reverse old.frames.items) link looked) → IsCharged old new looked.passed
    → IsFound old new sought link looked.found
counted old new sought link looked l c = record {
  same = c.same;
  first = λ names g. (l names g).found;
  counted = λ names b g. c.state_is names b ∙ ap (λ n. charged n (state names old b)) (l names g).passed_so_many;
}

-- what a run is given is given behind a search too
pub still_given : (old mid : Machine) (sought : Sought) (link : ℕ) (found : Option Here) → IsFound old mid sought link found → mid.given ≡ old.given
still_given old mid sought link found f = ap (λ (m : Machine). m.given) f.same

given_behind : (old mid : Machine) (sought : Sought) (link : ℕ) (found : Option Here) (names : List (List ℕ)) → IsFound old mid sought link found → IsGiven names old.given → IsGiven names mid.given
given_behind old mid sought link found names f g = subst (IsGiven names) (sym (still_given old mid sought link found f)) g

-- how many are passed
abbrev pub passed_in : List (List ℕ) → Machine → Sought → ℕ → ℕ
passed_in names m sought link = passed (meets names sought) (chained (exit_link names) (reverse m.frames.items) link)

-- what is done behind a search, seen before it
module _ (old mid : Machine) (sought : Sought) (a : DynamicLinks) (found : Option Here) (f : IsFound old mid sought a.exits found) (names : List (List ℕ)) (b : Beside) (g : IsGiven names old.given) where
  -- a step in the dynamic context
  pub behind : (step : DynamicContext → Transition) → step (dynamic_context names mid a) (frames names mid 0) (state names mid b)
      ≡ step (dynamic_context names old a) (frames names old 0) (charged (passed_in names old sought a.exits) (state names old b))
  behind step =
      ap (λ m. step (dynamic_context names m a) (frames names m 0) (state names mid b)) f.same
      ∙ ap (λ z. step (dynamic_context names old a) (frames names old 0) z) (f.counted names b g)

  -- a search in the dynamic context
  pub searching : (result : Exit → Transition) (otherwise : Transition) (frs : List ContinuationFrame) (z : FlatState)
      → searched (meets names sought) result otherwise (dynamic_context names old a).exits frs z
      ≡ some_or (first_that (meets names sought) (chained (exit_link names) (reverse old.frames.items) a.exits)) otherwise result frs (charged (passed_in names old sought a.exits) z)
  searching result otherwise frs z = ap (λ xs. searched (meets names sought) result otherwise xs frs z) (exits_in names old a)

-- an exit is found: the transfer goes there
pub found_leaves : (old mid new : Machine) (sought : Sought) (w : Word) (landing : Landing) (level : ℕ) (a : DynamicLinks) (e : Here)
    → IsFound old mid sought a.exits (Some e)
    → StepsTo mid new (λ names s b. configuration (come_to (state_of.exit e.number (value_of_word names w) landing)) (frames names mid 0) (state names mid b))
    → StepsTo old new (λ names s b. leaving s (meets names sought) (value_of_word names w) landing level (dynamic_context names old a) (frames names old 0) (state names old b))
found_leaves old mid new sought w landing level a e f s = record {
  given = s.given ∙ still_given old mid sought a.exits (Some e) f;
  comes = λ names b g.
      s.comes names b (given_behind old mid sought a.exits (Some e) names f g)
      ∙ behind old mid sought a (Some e) f names b g (λ around frs z. configuration (come_to (state_of.exit e.number (value_of_word names w) landing)) frs z)
      ∙ sym (searching old mid sought a (Some e) f names b g (λ x rest y. ended (leaves x.number (value_of_word names w) landing y) rest) (signal_class (setting_of names old.given) 22 [] level (dynamic_context names old a)) (frames names old 0) (state names old b)
      ∙ ap (λ o. some_or o (signal_class (setting_of names old.given) 22 [] level (dynamic_context names old a)) (λ (x : Exit) rest y. ended (leaves x.number (value_of_word names w) landing y) rest) (frames names old 0) (charged (passed_in names old sought a.exits) (state names old b))) (f.first names g));
}

-- none is found: a control error
pub none_leaves : (old mid new : Machine) (sought : Sought) (w : Word) (landing : Landing) (level : ℕ) (a : DynamicLinks)
    → IsFound old mid sought a.exits None
    → StepsTo mid new (λ names s b. signal_class s 22 [] level (dynamic_context names mid a) (frames names mid 0) (state names mid b))
    → StepsTo old new (λ names s b. leaving s (meets names sought) (value_of_word names w) landing level (dynamic_context names old a) (frames names old 0) (state names old b))
none_leaves old mid new sought w landing level a f s = record {
  given = s.given ∙ still_given old mid sought a.exits None f;
  comes = λ names b g.
      s.comes names b (given_behind old mid sought a.exits None names f g)
      ∙ ap (λ k. signal_class (setting_of names k) 22 [] level (dynamic_context names mid a) (frames names mid 0) (state names mid b)) (still_given old mid sought a.exits None f)
      ∙ behind old mid sought a None f names b g (λ around. signal_class (setting_of names old.given) 22 [] level around)
      ∙ sym (searching old mid sought a None f names b g (λ x rest y. ended (leaves x.number (value_of_word names w) landing y) rest) (signal_class (setting_of names old.given) 22 [] level (dynamic_context names old a)) (frames names old 0) (state names old b)
      ∙ ap (λ o. some_or o (signal_class (setting_of names old.given) 22 [] level (dynamic_context names old a)) (λ (x : Exit) rest y. ended (leaves x.number (value_of_word names w) landing y) rest) (frames names old 0) (charged (passed_in names old sought a.exits) (state names old b))) (f.first names g));
}

-- a transfer to an exit by its number, if there is one
pub number_leaves : (old new : Machine) (e : ℕ) (exit : Option ℕ) (w : Word) (landing : Landing) (level : ℕ) (a : DynamicLinks) → exit ≡ Some e
    → StepsTo old new (λ names s b. leaving s (meets names (Number e)) (value_of_word names w) landing level (dynamic_context names old a) (frames names old 0) (state names old b))
    → StepsTo old new (λ names s b. transfer s exit (value_of_word names w) landing level (dynamic_context names old a) (frames names old 0) (state names old b))
number_leaves old new e exit w landing level a h s = record {
  given = s.given;
  comes = λ names b g. s.comes names b g
      ∙ ap (λ o. transfer (setting_of names old.given) o (value_of_word names w) landing level (dynamic_context names old a) (frames names old 0) (state names old b)) (sym h);
}

pub nowhere_leaves : (old new : Machine) (exit : Option ℕ) (w : Word) (landing : Landing) (level : ℕ) (a : DynamicLinks) → exit ≡ None
    → StepsTo old new (λ names s b. signal_class s 22 [] level (dynamic_context names old a) (frames names old 0) (state names old b))
    → StepsTo old new (λ names s b. transfer s exit (value_of_word names w) landing level (dynamic_context names old a) (frames names old 0) (state names old b))
nowhere_leaves old new exit w landing level a h s = record {
  given = s.given;
  comes = λ names b g. s.comes names b g
      ∙ ap (λ o. transfer (setting_of names old.given) o (value_of_word names w) landing level (dynamic_context names old a) (frames names old 0) (state names old b)) (sym h);
}

-- what a signal that is continued does with its exit
abbrev pub continued : Setting → Value → (level : ℕ) → DynamicContext → Exit → Transition
continued s v level around x rest y =
    if is_continuable x.kind then ended (leaves x.number v (at_segment 0) y) rest else signal_class s 22 [] level around rest y

module _ (old mid : Machine) (c w : Word) (level : ℕ) (a : DynamicLinks) (found : Option Here) (f : IsFound old mid (SignalOf c) a.exits found) (names : List (List ℕ)) (b : Beside) (g : IsGiven names old.given) where
  -- what is found is continued
  pub continuing : continue_with (setting_of names old.given) (value_of_word names c) (value_of_word names w) level (dynamic_context names old a) (frames names old 0) (state names old b)
      ≡ some_or (first_that (meets names (SignalOf c)) (chained (exit_link names) (reverse old.frames.items) a.exits)) (signal_class (setting_of names old.given) 22 [] level (dynamic_context names old a))
      (continued (setting_of names old.given) (value_of_word names w) level (dynamic_context names old a)) (frames names old 0) (charged (passed_in names old (SignalOf c) a.exits) (state names old b))
  continuing =
      searching old mid (SignalOf c) a found f names b g (continued (setting_of names old.given) (value_of_word names w) level (dynamic_context names old a))
      (signal_class (setting_of names old.given) 22 [] level (dynamic_context names old a)) (frames names old 0) (state names old b)

-- a control error behind the search
error_behind : (old mid new : Machine) (sought : Sought) (level : ℕ) (a : DynamicLinks) (found : Option Here) → IsFound old mid sought a.exits found
    → StepsTo mid new (λ names s b. signal_class s 22 [] level (dynamic_context names mid a) (frames names mid 0) (state names mid b))
    → (names : List (List ℕ)) (b : Beside) → IsGiven names old.given
    → configuration_of names new b ≡ signal_class (setting_of names old.given) 22 [] level (dynamic_context names old a) (frames names old 0) (charged (passed_in names old sought a.exits) (state names old b))
error_behind old mid new sought level a found f s names b g =
    s.comes names b (given_behind old mid sought a.exits found names f g)
    ∙ ap (λ k. signal_class (setting_of names k) 22 [] level (dynamic_context names mid a) (frames names mid 0) (state names mid b)) (still_given old mid sought a.exits found f)
    ∙ behind old mid sought a found f names b g (λ around. signal_class (setting_of names old.given) 22 [] level around)

pub continues : (old mid new : Machine) (c w : Word) (level : ℕ) (a : DynamicLinks) (e : Here) → IsFound old mid (SignalOf c) a.exits (Some e)
    → ((names : List (List ℕ)) → true ≡ is_continuable (exit_of names e).kind)
    → StepsTo mid new (λ names s b. configuration (come_to (state_of.exit e.number (value_of_word names w) (at_segment 0))) (frames names mid 0) (state names mid b))
    → StepsTo old new (λ names s b. continue_with s (value_of_word names c) (value_of_word names w) level (dynamic_context names old a) (frames names old 0) (state names old b))
continues old mid new c w level a e f yes_it s = record {
  given = s.given ∙ still_given old mid (SignalOf c) a.exits (Some e) f;
  comes = λ names b g.
      s.comes names b (given_behind old mid (SignalOf c) a.exits (Some e) names f g)
      ∙ behind old mid (SignalOf c) a (Some e) f names b g (λ around frs z. configuration (come_to (state_of.exit e.number (value_of_word names w) (at_segment 0))) frs z)
      ∙ ap (λ t. (if t then ended (leaves e.number (value_of_word names w) (at_segment 0) (charged (passed_in names old (SignalOf c) a.exits) (state names old b))) (frames names old 0)
      else signal_class (setting_of names old.given) 22 [] level (dynamic_context names old a) (frames names old 0) (charged (passed_in names old (SignalOf c) a.exits) (state names old b)))) (yes_it names)
      ∙ sym (continuing old mid c w level a (Some e) f names b g
      ∙ ap (λ o. some_or o (signal_class (setting_of names old.given) 22 [] level (dynamic_context names old a)) (continued (setting_of names old.given) (value_of_word names w) level (dynamic_context names old a)) (frames names old 0) (charged (passed_in names old (SignalOf c) a.exits) (state names old b))) (f.first names g));
}

pub continues_not : (old mid new : Machine) (c w : Word) (level : ℕ) (a : DynamicLinks) (e : Here) → IsFound old mid (SignalOf c) a.exits (Some e)
    → ((names : List (List ℕ)) → false ≡ is_continuable (exit_of names e).kind)
    → StepsTo mid new (λ names s b. signal_class s 22 [] level (dynamic_context names mid a) (frames names mid 0) (state names mid b))
    → StepsTo old new (λ names s b. continue_with s (value_of_word names c) (value_of_word names w) level (dynamic_context names old a) (frames names old 0) (state names old b))
continues_not old mid new c w level a e f no_it s = record {
  given = s.given ∙ still_given old mid (SignalOf c) a.exits (Some e) f;
  comes = λ names b g.
      error_behind old mid new (SignalOf c) level a (Some e) f s names b g
      ∙ ap (λ t. (if t then ended (leaves e.number (value_of_word names w) (at_segment 0) (charged (passed_in names old (SignalOf c) a.exits) (state names old b))) (frames names old 0)
      else signal_class (setting_of names old.given) 22 [] level (dynamic_context names old a) (frames names old 0) (charged (passed_in names old (SignalOf c) a.exits) (state names old b)))) (no_it names)
      ∙ sym (continuing old mid c w level a (Some e) f names b g
      ∙ ap (λ o. some_or o (signal_class (setting_of names old.given) 22 [] level (dynamic_context names old a)) (continued (setting_of names old.given) (value_of_word names w) level (dynamic_context names old a)) (frames names old 0) (charged (passed_in names old (SignalOf c) a.exits) (state names old b))) (f.first names g));
}

pub continues_nowhere : (old mid new : Machine) (c w : Word) (level : ℕ) (a : DynamicLinks) → IsFound old mid (SignalOf c) a.exits None
    → StepsTo mid new (λ names s b. signal_class s 22 [] level (dynamic_context names mid a) (frames names mid 0) (state names mid b))
    → StepsTo old new (λ names s b. continue_with s (value_of_word names c) (value_of_word names w) level (dynamic_context names old a) (frames names old 0) (state names old b))
continues_nowhere old mid new c w level a f s = record {
  given = s.given ∙ still_given old mid (SignalOf c) a.exits None f;
  comes = λ names b g.
      error_behind old mid new (SignalOf c) level a None f s names b g
      ∙ sym (continuing old mid c w level a None f names b g
      ∙ ap (λ o. some_or o (signal_class (setting_of names old.given) 22 [] level (dynamic_context names old a)) (continued (setting_of names old.given) (value_of_word names w) level (dynamic_context names old a)) (frames names old 0) (charged (passed_in names old (SignalOf c) a.exits) (state names old b))) (f.first names g));
}
