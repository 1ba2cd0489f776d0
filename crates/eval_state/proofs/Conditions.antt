-- Conditions that are made and signalled.
use Rattle.std.proofs.Common.{◌≡◌, ℕ, ◌+◌, ◌<◌, List, [], ◌∷◌, ◌++◌, Option, Some, refl, ap, sym, ◌∙◌, length, take, map, get_or}
use Rattle.std.proofs.lemmas.List.{take_more, map-append}
use Rattle.lang_meaning.specs.Values.{nil}
use Rattle.lang_meaning.specs.Objects.{instance}
use Rattle.lang_meaning.specs.State.{DynamicContext, full}
use Rattle.flat_language.specs.FlatState.{FlatState, FlatEvaluated, gives}
use Rattle.eval_machine.specs.Configuration.{ContinuationFrame, configuration, signals, come_to, then_on}
use Rattle.eval_machine.specs.Applications.{made}
use Rattle.lang_meaning.specs.Primitives.{instance_words}
use Rattle.flat_language.specs.FlatNodes.{tables}
use Rattle.eval_machine.specs.Applications.{signal_class}
use Rattle.std.proofs.lemmas.List.{length-map}
use Rattle.eval_store.specs.View.{Beside}
use Rattle.eval_state.specs.declared.situation.DynamicLinks.{DynamicLinks}
use Rattle.eval_state.specs.declared.machine.Control.TheVariants.{Signals}
use Rattle.eval_state.specs.declared.machine.Machine.{Machine}
use Rattle.eval_state.specs.Building.{IsMade, IsDenied}
use Rattle.eval_state.specs.View.{StepsTo, IsGiven, setting_of, control_of, dynamic_context, frames, state}
use Rattle.eval_store.specs.declared.word.Word.{Word}
use Rattle.eval_store.specs.declared.word.Word.TheVariants.{Nil}
use Rattle.eval_store.specs.declared.object.Instance.{Instance}
use Rattle.eval_store.specs.declared.object.Object.TheVariants as made_as
use Rattle.eval_store.specs.Words.{value_of_word, values_of, slots_of}
use Rattle.eval_store.specs.View.{built, limit_of}

-- one slot more
pub one_slot : (words : List Word) (i : ℕ) (w : Word) → i < length words → w ≡ get_or words i w → map Some (take i words) ++ Some w ∷ [] ≡ map Some (take (i + 1) words)
one_slot words i w h e =
    sym (ap (map Some) (take_more words i w h) ∙ map-append Some (take i words) (get_or words i w ∷ []) ∙ ap (λ x. map Some (take i words) ++ Some x ∷ []) (sym e))

-- values in slots
pub slot_values : (names : List (List ℕ)) (words : List Word) → slots_of names (map Some words) ≡ map Some (values_of names words)
slot_values names [] = refl
slot_values names (w ∷ ws) = ap (λ vs. Some (value_of_word names w) ∷ vs) (slot_values names ws)

-- a condition is made, and then signalled
pub signalled : (names : List (List ℕ)) (limit : Option ℕ) (size class level : ℕ) (words : List Word) (i : Instance) (around : DynamicContext) (frames : List ContinuationFrame) (z after : FlatState) (w : Word)
    → i ≡ record { class = class; slots = map Some words; mark = Nil }
    → built names (limit_of limit) size 0 (made_as.Instance i) z ≡ gives (value_of_word names w) after
    → then_on (made (limit_of limit) size 0 (instance class (map Some (values_of names words)) nil) z) frames (λ c done. configuration (signals c nil level around) frames done)
    ≡ configuration (signals (value_of_word names w) nil level around) frames after
signalled names limit size class level words i around frames z after w e h =
    ap (λ (r : FlatEvaluated). then_on r frames (λ c done. configuration (signals c nil level around) frames done))
    (ap (λ os. made (limit_of limit) size 0 (instance class os nil) z) (sym (slot_values names words))
    ∙ ap (λ (x : Instance). built names (limit_of limit) size 0 (made_as.Instance x) z) (sym e) ∙ h)

-- there is no room for it
pub no_room : (names : List (List ℕ)) (limit : Option ℕ) (size class level asked left : ℕ) (words : List Word) (i : Instance) (around : DynamicContext) (frames : List ContinuationFrame) (z after : FlatState)
    → i ≡ record { class = class; slots = map Some words; mark = Nil }
    → built names (limit_of limit) size 0 (made_as.Instance i) z ≡ record { outcome = full asked left; state = after }
    → then_on (made (limit_of limit) size 0 (instance class (map Some (values_of names words)) nil) z) frames (λ c done. configuration (signals c nil level around) frames done)
    ≡ configuration (come_to (full asked left)) frames after
no_room names limit size class level asked left words i around frames z after e h =
    ap (λ (r : FlatEvaluated). then_on r frames (λ c done. configuration (signals c nil level around) frames done))
    (ap (λ os. made (limit_of limit) size 0 (instance class os nil) z) (sym (slot_values names words))
    ∙ ap (λ (x : Instance). built names (limit_of limit) size 0 (made_as.Instance x) z) (sym e) ∙ h)

-- a machine that makes a condition and is about to signal it, or has no room for it
module _ (old mid : Machine) (class level size count : ℕ) (words : List Word) (i : Instance) (a : DynamicLinks)
    (n : count ≡ length words) (fits : (names : List (List ℕ)) → IsGiven names old.given → size ≡ instance_words (tables old.given.program.now) class count)
    (e : i ≡ record { class = class; slots = map Some words; mark = Nil }) where
  sizes : (names : List (List ℕ)) (b : Beside) → IsGiven names old.given
      → signal_class (setting_of names old.given) class (values_of names words) level (dynamic_context names old a) (frames names old 0) (state names old b)
      ≡ then_on (made (limit_of old.given.limit) size 0 (instance class (map Some (values_of names words)) nil) (state names old b)) (frames names old 0) (λ c done. configuration (signals c nil level (dynamic_context names old a)) (frames names old 0) done)
  sizes names b g =
      ap (λ k. then_on (made (limit_of old.given.limit) k 0 (instance class (map Some (values_of names words)) nil) (state names old b)) (frames names old 0) (λ c done. configuration (signals c nil level (dynamic_context names old a)) (frames names old 0) done))
      (ap (instance_words (tables old.given.program.now) class) (length-map words (value_of_word names) ∙ sym n) ∙ sym (fits names g))

  pub signals_it : (w : Word) → IsMade old mid size 0 (made_as.Instance i) w
      → StepsTo old (record mid { control = Signals w Nil level a }) (λ names s b. signal_class s class (values_of names words) level (dynamic_context names old a) (frames names old 0) (state names old b))
  signals_it w m = record {
    given = ap (λ (x : Machine). x.given) m.same;
    comes = λ names b g.
        ap (λ (x : Machine). configuration (signals (value_of_word names w) nil level (dynamic_context names x a)) (frames names x 0) (state names mid b)) m.same
        ∙ sym (sizes names b g ∙ signalled names old.given.limit size class level words i (dynamic_context names old a) (frames names old 0) (state names old b) (state names mid b) w e (m.state_is names b));
  }

  pub has_no_room : IsDenied old mid size 0 (made_as.Instance i)
      → StepsTo old mid (λ names s b. signal_class s class (values_of names words) level (dynamic_context names old a) (frames names old 0) (state names old b))
  has_no_room m = record {
    given = ap (λ (x : Machine). x.given) m.same;
    comes = λ names b g.
        ap (λ (x : Machine). configuration (control_of names x x.control) (frames names x 0) (state names mid b)) m.same
        ∙ sym (sizes names b g ∙ no_room names old.given.limit size class level m.asked m.left words i (dynamic_context names old a) (frames names old 0) (state names old b) (state names mid b) e (m.state_is names b));
  }
