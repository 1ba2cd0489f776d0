-- New variables are made one by one.
use Rattle.std.proofs.Common.{◌≡◌, ℕ, zero, suc, ◌+◌, ◌-◌, ◌≤◌, length, List, [], ◌∷◌, ◌++◌, Some, None, refl, ap, sym, ◌∙◌, drop, map, append_assoc, length-append, arith}
use Rattle.std.specs.Prelude.{slice_get, OnOk, Result, Ok, Err}
use Rattle.std.proofs.lemmas.List.{append-nil, drop_all, map-append, drop-append-le}
use Rattle.base.specs.model.DataRest.{rest_at}
use Rattle.lang_meaning.specs.Values.{Value}
use Rattle.flat_language.specs.declared.place.Home.{Home}
use Rattle.flat_language.specs.declared.place.Home.TheVariants.{Slot, Boxed}
use Rattle.flat_language.specs.FlatState.{FlatState, holds_box, with_slots, with_values}
use Rattle.eval_store.specs.declared.word.Word.{Word}
use Rattle.eval_store.specs.declared.store.Store.{Store}
use Rattle.eval_store.specs.Words.{value_of_word, values_of}
use Rattle.eval_store.specs.View.{Beside, seen, Becomes}
use Rattle.eval_state.specs.declared.slot.Slot.{Slot as Here}
use Rattle.eval_state.specs.declared.slot.Slot.TheVariants as slot
use Rattle.eval_state.specs.declared.machine.Machine.{Machine}
use Rattle.eval_state.specs.Frames.{last_of, slot_of, frame_slots}
use Rattle.eval_state.specs.View.{state}
use Rattle.eval_state.specs.Variables.{AreSlotted, IsSlotted}

get_past : {X : Type 0} (xs : List X) (k at : ℕ) → slice_get (drop k xs) at ≡ slice_get xs (k + at)
get_past xs zero at = let e : 0 + at ≡ at = omega arith in ap (slice_get xs) (sym e)
get_past [] (suc k) at = refl
get_past (x ∷ xs) (suc k) at = let e : suc k + at ≡ suc (k + at) = omega arith in get_past xs k at ∙ ap (slice_get (x ∷ xs)) (sym e)

-- the first one, and then the others
pub slots_more : (h : Home) (hs : List Home) (v : Value) (vs : List Value) (z : FlatState) → with_slots (h ∷ hs) (v ∷ vs) z ≡ with_slots hs vs (with_slots (h ∷ []) (v ∷ []) z)
slots_more Slot hs v vs z = simp (append-nil, append_assoc)
slots_more Boxed hs v vs z = simp (append_assoc, length-append)

pub no_home : (vs : List Value) (z : FlatState) → with_slots [] vs z ≡ z
no_home vs z = simp append-nil

pub no_value : (hs : List Home) (z : FlatState) → with_slots hs [] z ≡ z
no_value [] z = no_home [] z
no_value (h ∷ hs) z = simp append-nil

-- a slot more of a frame
pub frame_more : (names : List (List ℕ)) (k n : ℕ) (xs : List Here) (x : Here) → n ≡ k + 1
    → map (slot_of names) (last_of n (xs ++ x ∷ [])) ≡ map (slot_of names) (last_of k xs) ++ slot_of names x ∷ []
frame_more names k n xs x e =
    let l : length (xs ++ x ∷ []) ≡ length xs + 1 = length-append xs (x ∷ []) in
    let d : length (xs ++ x ∷ []) - n ≡ length xs - k = omega arith in
    ap (λ m. map (slot_of names) (drop m (xs ++ x ∷ []))) d
    ∙ ap (map (slot_of names)) (drop-append-le (length xs - k) xs (x ∷ []) (omega arith))
    ∙ map-append (slot_of names) (drop (length xs - k) xs) (x ∷ [])

-- a slot with a box
box_slotted : (old new : Machine) (n : ℕ) (w : Word) (t : Store) → new.slots.items ≡ old.slots.items ++ slot.Boxed n ∷ [] → new.current.slots ≡ old.current.slots + 1
    → new ≡ record old { slots = new.slots; current = record old.current { slots = new.current.slots }; store = t }
    → ((names : List (List ℕ)) (b : Beside) → n ≡ length (seen names old.store b).state.variables)
    → Becomes old.store t (λ names b z. with_values (value_of_word names w ∷ []) z) → IsSlotted old new Boxed w
box_slotted old new n w t s c e l v = record {
  slot = slot.Boxed n;
  slots = s;
  count = c;
  same = e ∙ ap (λ (u : Store). record old { slots = new.slots; current = record old.current { slots = new.current.slots }; store = u }) (sym (ap (λ (m : Machine). m.store) e));
  state_is = λ names b.
      ap (λ (m : Machine). state names m b) e
      ∙ ap (λ xs. seen names t (record b { frame = xs }))
      (ap (λ xs. map (slot_of names) (last_of new.current.slots xs)) s ∙ frame_more names old.current.slots new.current.slots old.slots.items (slot.Boxed n) c)
      ∙ v names (record b { frame = frame_slots names old.current old.slots.items ++ holds_box n ∷ [] })
      ∙ ap (λ m. record (with_values (value_of_word names w ∷ []) (state names old b)) { frame = frame_slots names old.current old.slots.items ++ holds_box m ∷ [] }) (l names (record b { frame = frame_slots names old.current old.slots.items }));
}

pub box_made : {E : Type 0} (old new : Machine) (h : Home) (n : ℕ) (w : Word) (t : Store) (r : Result Unit E) → h ≡ Boxed
    → OnOk r (new.slots.items ≡ old.slots.items ++ slot.Boxed n ∷ []) → OnOk r (new.current.slots ≡ old.current.slots + 1)
    → OnOk r (new ≡ record old { slots = new.slots; current = record old.current { slots = new.current.slots }; store = t })
    → ((names : List (List ℕ)) (b : Beside) → n ≡ length (seen names old.store b).state.variables)
    → Becomes old.store t (λ names b z. with_values (value_of_word names w ∷ []) z) → OnOk r (IsSlotted old new h w)
box_made old new Boxed n w t (Ok x) is s c e l v = box_slotted old new n w t s c e l v
box_made old new Slot n w t (Ok x) is s c e l v = absurd (cc)
box_made old new h n w t (Err x) is s c e l v = tt

-- one of the last operands
pub from_last : {X : Type 0} (xs : List X) (count at i : ℕ) (x : X) → count ≤ length xs → i ≡ length xs - count + at → slice_get xs i ≡ Some x → slice_get (last_of count xs) at ≡ Some x
from_last xs count at i x h e g = get_past xs (length xs - count) at ∙ ap (slice_get xs) (sym e) ∙ g

-- how far the variables are made
pub record Filling (old now : Machine) (hs : List Home) (ws : List Word) (at : ℕ) : Type 0 where
  pub more : List Here
  pub slots : now.slots.items ≡ old.slots.items ++ more
  pub count : now.current.slots ≡ old.current.slots + length more
  pub same : now ≡ record old { slots = now.slots; current = record old.current { slots = now.current.slots }; store = now.store }
  pub left : (names : List (List ℕ)) (b : Beside) → with_slots (drop at hs) (values_of names (drop at ws)) (state names now b) ≡ with_slots hs (values_of names ws) (state names old b)

pub none_made : (m : Machine) (hs : List Home) (ws : List Word) → Filling m m hs ws 0
none_made m hs ws = record {
  more = [];
  slots = sym (append-nil m.slots.items);
  count = omega arith;
  same = refl;
  left = λ names b. refl;
}

pub one_made : (old now new : Machine) (hs : List Home) (ws : List Word) (at : ℕ) (h : Home) (w : Word) → slice_get hs at ≡ Some h → slice_get ws at ≡ Some w
    → Filling old now hs ws at → IsSlotted now new h w → Filling old new hs ws (at + 1)
one_made old now new hs ws at h w e k f s = record {
  more = f.more ++ s.slot ∷ [];
  slots = s.slots ∙ ap (λ xs. xs ++ s.slot ∷ []) f.slots ∙ append_assoc old.slots.items f.more (s.slot ∷ []);
  count = omega (arith, f.count, s.count, length-append f.more (s.slot ∷ []));
  same = s.same ∙ ap (λ (m : Machine). record m { slots = new.slots; current = record m.current { slots = new.current.slots }; store = new.store }) f.same;
  left = λ names b.
      ap (with_slots (drop (at + 1) hs) (values_of names (drop (at + 1) ws))) (s.state_is names b)
      ∙ sym (slots_more h (drop (at + 1) hs) (value_of_word names w) (values_of names (drop (at + 1) ws)) (state names now b))
      ∙ ap (λ xs. with_slots xs (value_of_word names w ∷ values_of names (drop (at + 1) ws)) (state names now b)) (sym (rest_at hs at h e))
      ∙ ap (λ xs. with_slots (drop at hs) (values_of names xs) (state names now b)) (sym (rest_at ws at w k))
      ∙ f.left names b;
}

finished : (old now : Machine) (hs : List Home) (ws : List Word) (at : ℕ) → Filling old now hs ws at
    → ((names : List (List ℕ)) (b : Beside) → with_slots (drop at hs) (values_of names (drop at ws)) (state names now b) ≡ state names now b) → AreSlotted old now hs ws
finished old now hs ws at f h = record {
  more = f.more;
  slots = f.slots;
  count = f.count;
  same = f.same;
  state_is = λ names b. sym (h names b) ∙ f.left names b;
}

pub all_made : (old now : Machine) (hs : List Home) (ws : List Word) (at : ℕ) → length ws ≤ at → Filling old now hs ws at → AreSlotted old now hs ws
all_made old now hs ws at h f =
    finished old now hs ws at f (λ names b.
    ap (λ xs. with_slots (drop at hs) (values_of names xs) (state names now b)) (drop_all at ws h) ∙ no_value (drop at hs) (state names now b))

none_past : (hs : List Home) (at : ℕ) → slice_get hs at ≡ None → drop at hs ≡ []
none_past [] at e = drop_all at [] (omega arith)
none_past (h ∷ hs) zero e = absurd (cc)
none_past (h ∷ hs) (suc at) e = none_past hs at e

pub no_home_left : (old now : Machine) (hs : List Home) (ws : List Word) (at : ℕ) → slice_get hs at ≡ None → Filling old now hs ws at → AreSlotted old now hs ws
no_home_left old now hs ws at e f =
    finished old now hs ws at f (λ names b.
    ap (λ xs. with_slots xs (values_of names (drop at ws)) (state names now b)) (none_past hs at e) ∙ no_home (values_of names (drop at ws)) (state names now b))
