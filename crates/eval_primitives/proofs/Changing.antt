-- What primitives that set a part of an object give.
use Rattle.std.proofs.Common.{◌≡◌, ℕ, ◌<◌, List, [], ◌∷◌, length, Option, Some, None, refl, sym, ◌∙◌, ap}
use Rattle.std.specs.Prelude.{slice_set}
use Rattle.std.proofs.lemmas.List.{length-map}
use Rattle.lang_meaning.specs.declared.primitive.Primitive.{Primitive}
use Rattle.lang_meaning.specs.declared.primitive.Primitive.TheVariants as p
use Rattle.lang_meaning.specs.declared.program.ProgramRows.{ProgramRows}
use Rattle.lang_meaning.specs.Values.{Value}
use Rattle.lang_meaning.specs.State.{State}
use Rattle.lang_meaning.specs.Classes.{fetch}
use Rattle.lang_meaning.specs.Objects.{cons, string, vector, instance}
use Rattle.lang_meaning.specs.Primitives.{primitive, as_character, as_cons, as_string, as_vector, as_instance, change}
use Rattle.flat_language.specs.FlatState.{FlatState, on_state}
use Rattle.eval_store.specs.declared.word.Word.{Word}
use Rattle.eval_store.specs.declared.store.Store.{Store}
use Rattle.eval_store.specs.declared.object.Instance.{Instance}
use Rattle.eval_store.specs.Words.{value_of_word, values_of, value_or_none}
use Rattle.eval_store.specs.View.{Beside, state_of, seen}
use Rattle.eval_primitives.specs.declared.answer.Answer.{Answer}
use Rattle.eval_primitives.specs.declared.answer.Answer.TheVariants.{Gives, DomainError}
use Rattle.eval_primitives.specs.Answers.{told}
use Rattle.eval_primitives.specs.Objects.{pair_of, instance_parts, HasCons, HasString, HasVector}
use Rattle.eval_primitives.specs.Words.{IsPlace, IsNoPlace}
use Rattle.eval_primitives.specs.Reading.{IsRead, IsSlotAt, IsNoSlot}
use Rattle.eval_primitives.specs.Setting.{IsSet}

-- what is read leaves the store as it was
pub read_set : (which : Primitive) (ws : List Word) (s : Store) (a : Answer) → IsRead which ws s a → IsSet which ws s s a
read_set which ws s a x = record { told = x.told; besides = λ names b. refl }

-- the store after the meaning's change
pub changed_set : (which : Primitive) (ws : List Word) (s t : Store) (a : Answer) (f : List (List ℕ) → State → State)
    → ((names : List (List ℕ)) (b : Beside) → seen names t b ≡ on_state (f names) (seen names s b))
    → ((names : List (List ℕ)) (rows : ProgramRows) (b : Beside) → primitive names rows which (values_of names ws) (state_of names s b) ≡ told names a (f names (state_of names s b)))
    → IsSet which ws s t a
changed_set which ws s t a f after answer = record {
  told = λ names rows b. answer names rows b ∙ ap (λ (z : FlatState). told names a z.state) (sym (after names b));
  besides = λ names b. after names b ∙ ap (λ (z : FlatState). record (seen names s b) { state = z.state }) (sym (after names b));
}

pub car_is_set : (s t : Store) (v w : Word) (x : Word × Word) → HasCons s w (Some x)
    → ((names : List (List ℕ)) (b : Beside) (c : Value × Value) → as_cons (fetch (seen names s b).state (value_of_word names w)) ≡ Some c
    → seen names t b ≡ on_state (λ y. change (value_of_word names w) (cons (value_of_word names v) c.1) y) (seen names s b))
    → IsSet p.SetCar (v ∷ w ∷ []) s t (Gives v)
car_is_set s t v w x h after =
    changed_set p.SetCar (v ∷ w ∷ []) s t (Gives v) (λ names y. change (value_of_word names w) (cons (value_of_word names v) (value_of_word names x.1)) y)
    (λ names b. after names b (pair_of names x) (h.seen names b)) (λ names rows b. rw (h.seen names b) refl)

pub no_car_set : (s : Store) (v w : Word) → HasCons s w None → IsSet p.SetCar (v ∷ w ∷ []) s s (DomainError w 9)
no_car_set s v w h = record { told = λ names rows b. rw (h.seen names b) refl; besides = λ names b. refl }

pub cdr_is_set : (s t : Store) (v w : Word) (x : Word × Word) → HasCons s w (Some x)
    → ((names : List (List ℕ)) (b : Beside) (c : Value × Value) → as_cons (fetch (seen names s b).state (value_of_word names w)) ≡ Some c
    → seen names t b ≡ on_state (λ y. change (value_of_word names w) (cons c.0 (value_of_word names v)) y) (seen names s b))
    → IsSet p.SetCdr (v ∷ w ∷ []) s t (Gives v)
cdr_is_set s t v w x h after =
    changed_set p.SetCdr (v ∷ w ∷ []) s t (Gives v) (λ names y. change (value_of_word names w) (cons (value_of_word names x.0) (value_of_word names v)) y)
    (λ names b. after names b (pair_of names x) (h.seen names b)) (λ names rows b. rw (h.seen names b) refl)

pub no_cdr_set : (s : Store) (v w : Word) → HasCons s w None → IsSet p.SetCdr (v ∷ w ∷ []) s s (DomainError w 9)
no_cdr_set s v w h = record { told = λ names rows b. rw (h.seen names b) refl; besides = λ names b. refl }

-- the characters of a string
pub char_is_set : (s t : Store) (v w place : Word) (c n at : ℕ) (bytes : List ℕ) → ((names : List (List ℕ)) → as_character (value_of_word names v) ≡ Some c)
    → HasString s w (Some bytes) → n ≡ length bytes → IsPlace place n at
    → ((names : List (List ℕ)) (b : Beside) (x : List ℕ) → as_string (fetch (seen names s b).state (value_of_word names w)) ≡ Some x → at < length x
    → seen names t b ≡ on_state (λ y. change (value_of_word names w) (string (slice_set x at c)) y) (seen names s b))
    → IsSet p.SetCharAt (v ∷ w ∷ place ∷ []) s t (Gives v)
char_is_set s t v w place c n at bytes k h len x after =
    changed_set p.SetCharAt (v ∷ w ∷ place ∷ []) s t (Gives v) (λ names y. change (value_of_word names w) (string (slice_set bytes at c)) y)
    (λ names b. after names b bytes (h.seen names b) (rw (← len) x.inside))
    (λ names rows b. rw (k names, h.seen names b, ← len) (x.seen names (state_of names s b) _))

pub no_character_set : (s : Store) (v w place : Word) → ((names : List (List ℕ)) → as_character (value_of_word names v) ≡ None)
    → IsSet p.SetCharAt (v ∷ w ∷ place ∷ []) s s (DomainError v 5)
no_character_set s v w place k = record { told = λ names rows b. rw (k names) refl; besides = λ names b. refl }

pub no_string_set : (s : Store) (v w place : Word) (c : ℕ) → ((names : List (List ℕ)) → as_character (value_of_word names v) ≡ Some c) → HasString s w None
    → IsSet p.SetCharAt (v ∷ w ∷ place ∷ []) s s (DomainError w 4)
no_string_set s v w place c k h = record { told = λ names rows b. rw (k names, h.seen names b) refl; besides = λ names b. refl }

pub no_place_set : (s : Store) (v w place : Word) (c n : ℕ) (bytes : List ℕ) (a : Answer) → ((names : List (List ℕ)) → as_character (value_of_word names v) ≡ Some c)
    → HasString s w (Some bytes) → n ≡ length bytes → IsNoPlace place n a → IsSet p.SetCharAt (v ∷ w ∷ place ∷ []) s s a
no_place_set s v w place c n bytes a k h len x = record {
  told = λ names rows b. rw (k names, h.seen names b, ← len) (x.seen names (state_of names s b) _);
  besides = λ names b. refl;
}

-- the elements of a vector
pub element_is_set : (s t : Store) (v w place : Word) (n at : ℕ) (ws : List Word) → HasVector s w (Some ws) → n ≡ length ws → IsPlace place n at
    → ((names : List (List ℕ)) (b : Beside) (x : List Value) → as_vector (fetch (seen names s b).state (value_of_word names w)) ≡ Some x → at < length x
    → seen names t b ≡ on_state (λ y. change (value_of_word names w) (vector (slice_set x at (value_of_word names v))) y) (seen names s b))
    → IsSet p.SetVectorRef (v ∷ w ∷ place ∷ []) s t (Gives v)
element_is_set s t v w place n at ws h len x after =
    changed_set p.SetVectorRef (v ∷ w ∷ place ∷ []) s t (Gives v) (λ names y. change (value_of_word names w) (vector (slice_set (values_of names ws) at (value_of_word names v))) y)
    (λ names b. after names b (values_of names ws) (h.seen names b) (rw (length-map ws (value_of_word names), ← len) x.inside))
    (λ names rows b. rw (h.seen names b, length-map ws (value_of_word names), ← len) (x.seen names (state_of names s b) _))

pub no_vector_set : (s : Store) (v w place : Word) → HasVector s w None → IsSet p.SetVectorRef (v ∷ w ∷ place ∷ []) s s (DomainError w 3)
no_vector_set s v w place h = record { told = λ names rows b. rw (h.seen names b) refl; besides = λ names b. refl }

pub no_element_set : (s : Store) (v w place : Word) (n : ℕ) (ws : List Word) (a : Answer) → HasVector s w (Some ws) → n ≡ length ws → IsNoPlace place n a
    → IsSet p.SetVectorRef (v ∷ w ∷ place ∷ []) s s a
no_element_set s v w place n ws a h len x = record {
  told = λ names rows b. rw (h.seen names b, length-map ws (value_of_word names), ← len) (x.seen names (state_of names s b) _);
  besides = λ names b. refl;
}

-- the slots of an instance
pub slot_is_set : (s t : Store) (v w place : Word) (i : Instance) (at : ℕ) → IsSlotAt w place s i at
    → ((names : List (List ℕ)) (b : Beside) (x : ℕ × List (Option Value) × Value) → as_instance (fetch (seen names s b).state (value_of_word names w)) ≡ Some x → at < length x.1
    → seen names t b ≡ on_state (λ y. change (value_of_word names w) (instance x.0 (slice_set x.1 at (Some (value_of_word names v))) x.2) y) (seen names s b))
    → IsSet p.SlotSet (v ∷ w ∷ place ∷ []) s t (Gives v)
slot_is_set s t v w place i at x after =
    changed_set p.SlotSet (v ∷ w ∷ place ∷ []) s t (Gives v)
    (λ names y. change (value_of_word names w) (instance (instance_parts names i).0 (slice_set (instance_parts names i).1 at (Some (value_of_word names v))) (instance_parts names i).2) y)
    (λ names b. after names b (instance_parts names i) (x.there.seen names b) (rw (length-map i.slots (value_or_none names)) x.inside))
    (λ names rows b. x.seen names b _)

pub no_slot_set : (s : Store) (v w place : Word) (a : Answer) → IsNoSlot w place s a → IsSet p.SlotSet (v ∷ w ∷ place ∷ []) s s a
no_slot_set s v w place a x = record { told = λ names rows b. x.seen names b _; besides = λ names b. refl }
