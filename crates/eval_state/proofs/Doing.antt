-- Something is done to the state of a machine, and then something else.
use Rattle.std.proofs.Common.{◌≡◌, ℕ, ◌+◌, List, Bool, true, false, Option, Some, None, Result, refl, ap, sym, ◌∙◌, subst}
use Rattle.std.specs.Prelude.{OnOk, IfOk, Ok, Err, reverse, if◌then◌else◌}
use Rattle.lang_meaning.specs.Values.{Value, nil}
use Rattle.lang_meaning.specs.State.{DynamicContext, Limit, full, has_room, room_left, with_words}
use Rattle.flat_language.specs.FlatState.{FlatState, FlatEvaluated, gives, on_state, go_on, charged, request}
use Rattle.eval_machine.specs.Configuration.{Setting, Transition, Configuration, configuration, come_to, then_on}
use Rattle.eval_machine.specs.Applications.{requested}
use Rattle.eval_store.specs.declared.word.Word.{Word}
use Rattle.eval_store.specs.declared.word.Word.TheVariants.{Nil}
use Rattle.eval_store.specs.declared.object.Object.{Object}
use Rattle.eval_store.specs.Words.{value_of_word}
use Rattle.eval_store.specs.View.{Beside, built, limit_of}
use Rattle.eval_state.specs.declared.situation.DynamicLinks.{DynamicLinks}
use Rattle.eval_state.specs.declared.given.Given.{Given}
use Rattle.eval_state.specs.declared.frame.Outcome.TheVariants.{Full}
use Rattle.eval_state.specs.declared.machine.Control.TheVariants.{ComeTo}
use Rattle.eval_state.specs.declared.machine.Machine.{Machine}
use Rattle.eval_state.specs.Requests.{IsGranted, IsRequestRefused, IsAsked}
use Rattle.eval_state.specs.Building.{IsBuilt}
use Rattle.eval_state.specs.Operands.{IsDropped}
use Rattle.eval_state.specs.Frames.{others_of, frames_in}
use Rattle.eval_state.specs.View.{StepsTo, IsCharged, IsGiven, setting_of, configuration_of, state, top, frames, dynamic_context}
use Rattle.eval_state.specs.Doing.{Doing, Gives, Fills, GivesWord, IsEffectDone}
use Rattle.eval_state.proofs.Pushes.{others_none}

-- what is ensured of a result that is there
pub over_ok : {T E : Type 0} {P Q : Type 0} (r : Result T E) → (P → Q) → OnOk r P → OnOk r Q
over_ok (Ok x) f p = f p
over_ok (Err e) f p = tt

-- the same is done
pub alike : (old new : Machine) (f g : Doing) (r : Option Word) → ((names : List (List ℕ)) (z : FlatState) → f names z ≡ g names z) → GivesWord old new f r → GivesWord old new g r
alike old new f g (Some w) h d = record { same = d.same; state_is = λ names b. sym (h names (state names old b)) ∙ d.state_is names b }
alike old new f g None h d = record { asked = d.asked; left = d.left; same = d.same; state_is = λ names b. sym (h names (state names old b)) ∙ d.state_is names b }

pub done_alike : (old new : Machine) (f g : Doing) (r : Bool) → ((names : List (List ℕ)) (z : FlatState) → f names z ≡ g names z) → IsEffectDone old new f r → IsEffectDone old new g r
done_alike old new f g true h d = alike old new f g (Some Nil) h d
done_alike old new f g false h d = alike old new f g None h d

-- it is done after what gave a value
pub given_then : (old mid new : Machine) (f : Doing) (w : Word) (g : List (List ℕ) → Value → FlatState → FlatEvaluated) (r : Option Word)
    → Gives old mid f w → GivesWord mid new (λ names z. g names (value_of_word names w) z) r → GivesWord old new (λ names z. go_on (f names z) (g names)) r
given_then old mid new f w g (Some u) a d = record {
  same = d.same ∙ ap (λ (m : Machine). record m { store = new.store }) a.same;
  state_is = λ names b. ap (λ r. go_on r (g names)) (a.state_is names b) ∙ d.state_is names b;
}
given_then old mid new f w g None a d = record {
  asked = d.asked;
  left = d.left;
  same = d.same ∙ ap (λ (m : Machine). record m { control = ComeTo (Full d.asked d.left); store = new.store }) a.same;
  state_is = λ names b. ap (λ r. go_on r (g names)) (a.state_is names b) ∙ d.state_is names b;
}

pub done_then : (old mid new : Machine) (f g : Doing) (r : Bool)
    → Gives old mid f Nil → IsEffectDone mid new g r → IsEffectDone old new (λ names z. go_on (f names z) (λ v y. g names y)) r
done_then old mid new f g true a d = given_then old mid new f Nil (λ names v y. g names y) (Some Nil) a d
done_then old mid new f g false a d = given_then old mid new f Nil (λ names v y. g names y) None a d

-- where words are wanting, nothing is done after it
pub filled_then : (old new : Machine) (f : Doing) (g : List (List ℕ) → Value → FlatState → FlatEvaluated) → Fills old new f → Fills old new (λ names z. go_on (f names z) (g names))
filled_then old new f g d = record {
  asked = d.asked;
  left = d.left;
  same = d.same;
  state_is = λ names b. ap (λ r. go_on r (g names)) (d.state_is names b);
}

-- nothing was done yet
pub nothing_done : (m : Machine) (v : Word) → Gives m m (λ names z. gives (value_of_word names v) z) v
nothing_done m v = record { same = refl; state_is = λ names b. refl }

-- requests, and units
pub granted_gives : (old new : Machine) (heap stack : ℕ) → IsGranted old new heap stack → Gives old new (λ names z. requested (limit_of old.given.limit) heap stack z) Nil
granted_gives old new heap stack a = record { same = a.same; state_is = a.state_is }

pub refused_fills : (old new : Machine) (heap stack : ℕ) → IsRequestRefused old new heap stack → Fills old new (λ names z. requested (limit_of old.given.limit) heap stack z)
refused_fills old new heap stack a = record {
  asked = a.asked;
  left = a.left;
  same = a.same ∙ ap (λ o. record old { control = ComeTo o; store = new.store }) a.is_full;
  state_is = λ names b. rw a.is_full at (a.state_is names b);
}

pub charged_gives : (old new : Machine) (units : ℕ) → IsCharged old new units → Gives old new (λ names z. gives nil (charged units z)) Nil
charged_gives old new units a = record { same = a.same; state_is = λ names b. ap (gives nil) (sym (a.state_is names b)) }

pub request_then : (limit : Limit) (heap stack : ℕ) (z : FlatState) (next : FlatState → FlatEvaluated)
    → go_on (requested limit heap stack z) (λ v y. next y) ≡ request limit heap stack z next
request_then limit heap stack z next =
    elim (has_room limit (z.state.heap + z.state.stack + heap + stack))
    as (λ t. go_on (if t then gives nil (on_state (λ y. with_words heap stack y) z) else record { outcome = full (heap + stack) (room_left limit (z.state.heap + z.state.stack)); state = z }) (λ v y. next y)
    ≡ (if t then next (on_state (λ y. with_words heap stack y) z) else record { outcome = full (heap + stack) (room_left limit (z.state.heap + z.state.stack)); state = z }))
    [ true ↦ refl | false ↦ refl ]

-- whether words were granted, and whether something was done
pub request_granted : (old new : Machine) (heap stack : ℕ) (r : Bool) → IsAsked old new heap stack r → r ≡ true → Gives old new (λ names z. requested (limit_of old.given.limit) heap stack z) Nil
request_granted old new heap stack true a e = granted_gives old new heap stack a
request_granted old new heap stack false a e = absurd (cc)

pub request_refused : (old new : Machine) (heap stack : ℕ) (r : Bool) → IsAsked old new heap stack r → r ≡ false → Fills old new (λ names z. requested (limit_of old.given.limit) heap stack z)
request_refused old new heap stack false a e = refused_fills old new heap stack a
request_refused old new heap stack true a e = absurd (cc)

pub effect_done : (old new : Machine) (f : Doing) (r : Bool) → IsEffectDone old new f r → r ≡ true → Gives old new f Nil
effect_done old new f true d e = d
effect_done old new f false d e = absurd (cc)

pub effect_wanting : (old new : Machine) (f : Doing) (r : Bool) → IsEffectDone old new f r → r ≡ false → Fills old new f
effect_wanting old new f false d e = d
effect_wanting old new f true d e = absurd (cc)

pub does_some : (old new : Machine) (f : Doing) (r : Option Word) (w : Word) → GivesWord old new f r → r ≡ Some w → Gives old new f w
does_some old new f (Some u) w d e =
    let same : u ≡ w = cc in
    let P : Word → Type 0 = λ x. Gives old new f x in subst P same d
does_some old new f None w d e = absurd (cc)

pub does_none : (old new : Machine) (f : Doing) (r : Option Word) → GivesWord old new f r → r ≡ None → Fills old new f
does_none old new f None d e = d
does_none old new f (Some u) d e = absurd (cc)

-- an object is made
pub built_does : (old new : Machine) (size besides : ℕ) (o : Object) (r : Option Word) → IsBuilt old new size besides o r
    → GivesWord old new (λ names z. built names (limit_of old.given.limit) size besides o z) r
built_does old new size besides o (Some w) d = record { same = d.same; state_is = d.state_is }
built_does old new size besides o None d = record { asked = d.asked; left = d.left; same = d.same; state_is = d.state_is }

pub built_ok : {E : Type 0} (old new : Machine) (size besides : ℕ) (o : Object) (r : Result (Option Word) E) → IfOk r (IsBuilt old new size besides o)
    → IfOk r (GivesWord old new (λ names z. built names (limit_of old.given.limit) size besides o z))
built_ok old new size besides o (Ok r) d = built_does old new size besides o r d
built_ok old new size besides o (Err e) d = tt

-- words of the heap are asked for, and then counted
pub heap_given : (old mid new : Machine) (words : ℕ) (r : Bool) → IsAsked old mid words 0 r → r ≡ true → IsCharged mid new words
    → Gives old new (λ names z. request (limit_of old.given.limit) words 0 z (λ entered. gives nil (charged words entered))) Nil
heap_given old mid new words r a e k =
    alike old new _ _ (Some Nil) (λ names z. request_then (limit_of old.given.limit) words 0 z (λ entered. gives nil (charged words entered)))
    (given_then old mid new (λ names z. requested (limit_of old.given.limit) words 0 z) Nil (λ names v y. gives nil (charged words y)) (Some Nil)
    (request_granted old mid words 0 r a e) (charged_gives mid new words k))

pub heap_filled : (old new : Machine) (words : ℕ) (r : Bool) → IsAsked old new words 0 r → r ≡ false
    → Fills old new (λ names z. request (limit_of old.given.limit) words 0 z (λ entered. gives nil (charged words entered)))
heap_filled old new words r a e =
    alike old new _ _ None (λ names z. request_then (limit_of old.given.limit) words 0 z (λ entered. gives nil (charged words entered)))
    (filled_then old new (λ names z. requested (limit_of old.given.limit) words 0 z) (λ names v y. gives nil (charged words y)) (request_refused old new words 0 r a e))

-- a machine goes on with the value of what was done, or has come to an outcome
pub then_given : (old mid new : Machine) (n : ℕ) (a : DynamicLinks) (f : List (List ℕ) → Setting → FlatState → FlatEvaluated) (w : Word) (t : List (List ℕ) → Setting → List Value → DynamicContext → Value → Transition)
    → Gives old mid (λ names z. f names (setting_of names old.given) z) w
    → StepsTo mid new (λ names s b. t names s (top names mid n) (dynamic_context names mid a) (value_of_word names w) (frames names mid n) (state names mid b))
    → StepsTo old new (λ names s b. then_on (f names s (state names old b)) (frames names old n) (λ v after. t names s (top names old n) (dynamic_context names old a) v (frames names old n) after))
then_given old mid new n a f w t d s = record {
  given = s.given ∙ ap (λ (m : Machine). m.given) d.same;
  comes = λ names b g.
      s.comes names b (let P : Given → Type 0 = λ x. IsGiven names x in subst P (sym (ap (λ (m : Machine). m.given) d.same)) g)
      ∙ ap (λ (m : Machine). t names (setting_of names m.given) (top names m n) (dynamic_context names m a) (value_of_word names w) (frames names m n) (state names mid b)) d.same
      ∙ sym (ap (λ r. then_on r (frames names old n) (λ v after. t names (setting_of names old.given) (top names old n) (dynamic_context names old a) v (frames names old n) after)) (d.state_is names b));
}

pub then_filled : (old mid new : Machine) (n : ℕ) (f : List (List ℕ) → Setting → FlatState → FlatEvaluated) (next : List (List ℕ) → Setting → Beside → Value → FlatState → Configuration)
    → Fills old mid (λ names z. f names (setting_of names old.given) z) → IsDropped mid new n
    → StepsTo old new (λ names s b. then_on (f names s (state names old b)) (frames names old n) (next names s b))
then_filled old mid new n f next d x =
    let all : new ≡ record old { control = ComeTo (Full d.asked d.left); operands = new.operands; store = mid.store } =
    x.same ∙ ap (λ (m : Machine). record m { operands = new.operands }) d.same in
    let operands : others_of 0 new.operands.items ≡ others_of n old.operands.items =
    others_none new.operands.items ∙ x.operands ∙ ap (λ (m : Machine). others_of n m.operands.items) d.same in
    record {
      given = ap (λ (m : Machine). m.given) all;
      comes = λ names b g.
          ap (λ (m : Machine). configuration_of names m b) all
          ∙ ap (λ os. configuration (come_to (full d.asked d.left)) (frames_in names old.current os old.slots.items (reverse old.frames.items)) (state names (record old { store = mid.store }) b)) operands
          ∙ ap (λ (m : Machine). configuration (come_to (full d.asked d.left)) (frames names old n) (state names (record m { store = mid.store }) b)) (sym (ap (λ (m : Machine). record m { control = old.control }) d.same))
          ∙ sym (ap (λ r. then_on r (frames names old n) (next names (setting_of names old.given) b)) (d.state_is names b));
    }

-- a machine goes on once operands are dropped
pub then_dropped : (old mid new : Machine) (n : ℕ) (a : DynamicLinks) (t : List (List ℕ) → Setting → DynamicContext → Transition) → IsDropped old mid n
    → StepsTo mid new (λ names s b. t names s (dynamic_context names mid a) (frames names mid 0) (state names mid b))
    → StepsTo old new (λ names s b. t names s (dynamic_context names old a) (frames names old n) (state names old b))
then_dropped old mid new n a t d s =
    let given_is : mid.given ≡ old.given = ap (λ (m : Machine). m.given) d.same in
    record {
      given = s.given ∙ given_is;
      comes = λ names b g.
          s.comes names b (let P : Given → Type 0 = λ x. IsGiven names x in subst P (sym given_is) g)
          ∙ ap (λ (m : Machine). t names (setting_of names m.given) (dynamic_context names m a) (frames names m 0) (state names m b)) d.same
          ∙ ap (λ os. t names (setting_of names old.given) (dynamic_context names old a) (frames_in names old.current os old.slots.items (reverse old.frames.items)) (state names old b))
          (others_none mid.operands.items ∙ d.operands);
    }
