-- What primitives that read give.
use Rattle.std.proofs.Common.{◌≡◌, ℕ, ◌%◌, true, false, ℤ, pos, List, [], ◌∷◌, length, Option, Some, None, refl, sym, ◌∙◌, ap}
use Rattle.std.specs.Prelude.{option_map, slice_get, slice_index_or}
use Rattle.std.proofs.lemmas.List.{length-map}
use Rattle.std.proofs.lemmas.Option.{slice_get-map, get_or_from_slice_get}
use Rattle.base.specs.declared.datum.Name.{Name}
use Rattle.lang_meaning.specs.declared.primitive.Primitive.{Primitive}
use Rattle.lang_meaning.specs.declared.primitive.Primitive.TheVariants as p
use Rattle.lang_meaning.specs.Values.{nil}
use Rattle.lang_meaning.specs.Primitives.{as_integer, as_character, byte_of}
use Rattle.eval_store.specs.declared.word.Word.{Word}
use Rattle.eval_store.specs.declared.word.Word.TheVariants as word
use Rattle.eval_store.specs.declared.store.Store.{Store}
use Rattle.eval_store.specs.declared.object.Instance.{Instance}
use Rattle.eval_store.specs.Words.{value_of_word, values_of, value_or_none, slots_of}
use Rattle.eval_store.specs.View.{state_of}
use Rattle.eval_primitives.specs.declared.answer.Answer.{Answer}
use Rattle.eval_primitives.specs.declared.answer.Answer.TheVariants.{Gives, Fails, DomainError}
use Rattle.eval_primitives.specs.declared.words.Spelt.TheVariants as spelt
use Rattle.eval_primitives.specs.Answers.{IsTold, IsCount, IsSaid}
use Rattle.eval_primitives.specs.Objects.{instance_parts, HasCons, HasString, HasVector, HasInstance}
use Rattle.eval_primitives.specs.Words.{HasSymbol, IsPlace, IsNoPlace}
use Rattle.eval_primitives.specs.Reading.{IsRead, IsSlotAt, IsNoSlot}

-- what asks for its arguments alone reads
pub told_read : (which : Primitive) (ws : List Word) (s : Store) (a : Answer) → IsTold which ws a → IsRead which ws s a
told_read which ws s a x = record { told = λ names rows b. x.told names rows (state_of names s b) }

-- conses
pub car_there : (s : Store) (w a d : Word)
    → HasCons s w (Some (a, d))
    → IsRead p.Car (w ∷ []) s (Gives a)
car_there s w a d h = record { told = λ names rows b. rw (h.seen names b) refl }

pub cdr_there : (s : Store) (w a d : Word)
    → HasCons s w (Some (a, d))
    → IsRead p.Cdr (w ∷ []) s (Gives d)
cdr_there s w a d h = record { told = λ names rows b. rw (h.seen names b) refl }

pub no_car : (s : Store) (w : Word)
    → HasCons s w None
    → IsRead p.Car (w ∷ []) s (DomainError w 9)
no_car s w h = record { told = λ names rows b. rw (h.seen names b) refl }

pub no_cdr : (s : Store) (w : Word)
    → HasCons s w None
    → IsRead p.Cdr (w ∷ []) s (DomainError w 9)
no_cdr s w h = record { told = λ names rows b. rw (h.seen names b) refl }

-- characters
pub code_there : (w : Word) (c : ℕ) → ((names : List (List ℕ)) → as_character (value_of_word names w) ≡ Some c) → IsTold p.CharCode (w ∷ []) (Gives (word.Integer (pos c)))
code_there w c h = record { told = λ names rows z. rw (h names) refl }

pub no_code : (w : Word) → ((names : List (List ℕ)) → as_character (value_of_word names w) ≡ None) → IsTold p.CharCode (w ∷ []) (DomainError w 5)
no_code w h = record { told = λ names rows z. rw (h names) refl }

pub char_there : (w : Word) (n : ℤ) (c : ℕ) → ((names : List (List ℕ)) → as_integer (value_of_word names w) ≡ Some n) → byte_of n ≡ Some c
    → IsTold p.CodeChar (w ∷ []) (Gives (word.Character c))
char_there w n c h e = record { told = λ names rows z. rw (h names, e) refl }

pub no_char : (w : Word) (n : ℤ) → ((names : List (List ℕ)) → as_integer (value_of_word names w) ≡ Some n) → byte_of n ≡ None
    → IsTold p.CodeChar (w ∷ []) (DomainError w 13)
no_char w n h e = record { told = λ names rows z. rw (h names, e) refl }

pub no_number : (w : Word) → ((names : List (List ℕ)) → as_integer (value_of_word names w) ≡ None) → IsTold p.CodeChar (w ∷ []) (DomainError w 13)
no_number w h = record { told = λ names rows z. rw (h names) refl }

-- symbols
pub serial_there : (s : Store) (w : Word) (n : ℕ)
    → HasSymbol s w (Some (spelt.Fresh n))
    → IsRead p.SymbolSerial (w ∷ []) s (Gives (word.Integer (pos (n % 536870912))))
serial_there s w n h = record { told = λ names rows b. rw (h.seen names b) refl }

pub named_serial : (s : Store) (w : Word) (n : Name) → HasSymbol s w (Some (spelt.Named n)) → IsRead p.SymbolSerial (w ∷ []) s (Gives word.Nil)
named_serial s w n h = record { told = λ names rows b. rw (h.seen names b) refl }

pub truth_serial : (s : Store) (w : Word) → HasSymbol s w (Some spelt.Truth) → IsRead p.SymbolSerial (w ∷ []) s (Gives word.Nil)
truth_serial s w h = record { told = λ names rows b. rw (h.seen names b) refl }

pub nil_serial : (s : Store) (w : Word) → HasSymbol s w (Some spelt.Nothing) → IsRead p.SymbolSerial (w ∷ []) s (Gives word.Nil)
nil_serial s w h = record { told = λ names rows b. rw (h.seen names b) refl }

pub no_symbol : (s : Store) (w : Word)
    → HasSymbol s w None
    → IsRead p.SymbolSerial (w ∷ []) s (DomainError w 10)
no_symbol s w h = record { told = λ names rows b. rw (h.seen names b) refl }

-- lengths
pub count_told : (n : ℕ) (m : ℤ) → m ≡ pos n → IsCount n (Gives (word.Integer m))
count_told n m e = record { told = λ names z. rw e refl }

pub length_of_string : (s : Store) (w : Word) (bytes : List ℕ) (n : ℕ) (a : Answer) → HasString s w (Some bytes) → n ≡ length bytes → IsCount n a → IsRead p.StringLength (w ∷ []) s a
length_of_string s w bytes n a h e x = record { told = λ names rows b. rw (h.seen names b, ← e) (sym (x.told names (state_of names s b))) }

pub length_of_vector : (s : Store) (w : Word) (ws : List Word) (n : ℕ) (a : Answer) → HasVector s w (Some ws) → n ≡ length ws → IsCount n a → IsRead p.VectorLength (w ∷ []) s a
length_of_vector s w ws n a h e x = record { told = λ names rows b. rw (h.seen names b, length-map ws (value_of_word names), ← e) (sym (x.told names (state_of names s b))) }

pub length_of_slots : (s : Store) (w : Word) (i : Instance) (n : ℕ) (a : Answer) → HasInstance s w (Some i) → n ≡ length i.slots → IsCount n a → IsRead p.SlotCount (w ∷ []) s a
length_of_slots s w i n a h e x = record { told = λ names rows b. rw (h.seen names b, length-map i.slots (value_or_none names), ← e) (sym (x.told names (state_of names s b))) }

pub no_string : (s : Store) (w : Word) → HasString s w None → IsRead p.StringLength (w ∷ []) s (DomainError w 4)
no_string s w h = record { told = λ names rows b. rw (h.seen names b) refl }

pub no_vector : (s : Store) (w : Word) → HasVector s w None → IsRead p.VectorLength (w ∷ []) s (DomainError w 3)
no_vector s w h = record { told = λ names rows b. rw (h.seen names b) refl }

pub no_slots : (s : Store) (w : Word) → HasInstance s w None → IsRead p.SlotCount (w ∷ []) s (DomainError w 17)
no_slots s w h = record { told = λ names rows b. rw (h.seen names b) refl }

-- elements
pub char_at_there : (s : Store) (w place : Word) (bytes : List ℕ) (n at c : ℕ) → HasString s w (Some bytes) → n ≡ length bytes → IsPlace place n at → slice_get bytes at ≡ Some c
    → IsRead p.CharAt (w ∷ place ∷ []) s (Gives (word.Character c))
char_at_there s w place bytes n at c h len x e = record {
  told = λ names rows b.
      rw (h.seen names b, ← len) (x.seen names (state_of names s b) _ ∙ rw (get_or_from_slice_get bytes at c 0 e) refl);
}

pub char_at_wrong : (s : Store) (w place : Word) (bytes : List ℕ) (n : ℕ) (a : Answer) → HasString s w (Some bytes) → n ≡ length bytes → IsNoPlace place n a
    → IsRead p.CharAt (w ∷ place ∷ []) s a
char_at_wrong s w place bytes n a h len x = record { told = λ names rows b. rw (h.seen names b, ← len) (x.seen names (state_of names s b) _) }

pub char_at_none : (s : Store) (w place : Word) → HasString s w None → IsRead p.CharAt (w ∷ place ∷ []) s (DomainError w 4)
char_at_none s w place h = record { told = λ names rows b. rw (h.seen names b) refl }

-- an element as a value
element_told : (names : List (List ℕ)) (ws : List Word) (at : ℕ) (x : Word) → slice_get ws at ≡ Some x → slice_index_or (values_of names ws) at nil ≡ value_of_word names x
element_told names ws at x e = get_or_from_slice_get (values_of names ws) at (value_of_word names x) nil (slice_get-map (value_of_word names) ws at ∙ ap (option_map (value_of_word names)) e)

pub vector_ref_there : (s : Store) (w place : Word) (ws : List Word) (n at : ℕ) (x : Word) → HasVector s w (Some ws) → n ≡ length ws → IsPlace place n at → slice_get ws at ≡ Some x
    → IsRead p.VectorRef (w ∷ place ∷ []) s (Gives x)
vector_ref_there s w place ws n at x h len i e = record {
  told = λ names rows b.
      rw (h.seen names b, length-map ws (value_of_word names), ← len) (i.seen names (state_of names s b) _ ∙ rw (element_told names ws at x e) refl);
}

pub vector_ref_wrong : (s : Store) (w place : Word) (ws : List Word) (n : ℕ) (a : Answer) → HasVector s w (Some ws) → n ≡ length ws → IsNoPlace place n a
    → IsRead p.VectorRef (w ∷ place ∷ []) s a
vector_ref_wrong s w place ws n a h len i = record { told = λ names rows b. rw (h.seen names b, length-map ws (value_of_word names), ← len) (i.seen names (state_of names s b) _) }

pub vector_ref_none : (s : Store) (w place : Word) → HasVector s w None → IsRead p.VectorRef (w ∷ place ∷ []) s (DomainError w 3)
vector_ref_none s w place h = record { told = λ names rows b. rw (h.seen names b) refl }

-- slots
pub slot_there : (s : Store) (w place : Word) (i : Instance) (n at : ℕ) → HasInstance s w (Some i) → n ≡ length i.slots → IsPlace place n at → IsSlotAt w place s i at
slot_there s w place i n at h len x = record {
  there = h;
  inside = rw (← len) x.inside;
  seen = λ names b next. rw (h.seen names b, length-map i.slots (value_or_none names), ← len) (x.seen names (state_of names s b) (λ k. next (instance_parts names i) k));
}

pub slot_wrong : (s : Store) (w place : Word) (i : Instance) (n : ℕ) (a : Answer) → HasInstance s w (Some i) → n ≡ length i.slots → IsNoPlace place n a → IsNoSlot w place s a
slot_wrong s w place i n a h len x = record {
  seen = λ names b next. rw (h.seen names b, length-map i.slots (value_or_none names), ← len) (x.seen names (state_of names s b) (λ k. next (instance_parts names i) k));
}

pub slot_none : (s : Store) (w place : Word) → HasInstance s w None → IsNoSlot w place s (DomainError w 17)
slot_none s w place h = record { seen = λ names b next. rw (h.seen names b) refl }

-- a slot as a value
slot_told : (names : List (List ℕ)) (i : Instance) (at : ℕ) (o : Option Word) → slice_get i.slots at ≡ Some o → slice_get (slots_of names i.slots) at ≡ Some (value_or_none names o)
slot_told names i at o e = slice_get-map (value_or_none names) i.slots at ∙ ap (option_map (value_or_none names)) e

pub slot_ref_there : (s : Store) (w place : Word) (i : Instance) (at : ℕ) (x : Word) → IsSlotAt w place s i at → slice_get i.slots at ≡ Some (Some x)
    → IsRead p.SlotRef (w ∷ place ∷ []) s (Gives x)
slot_ref_there s w place i at x h e = record { told = λ names rows b. h.seen names b _ ∙ rw (slot_told names i at (Some x) e) refl }

pub slot_ref_empty : (s : Store) (w place : Word) (i : Instance) (at : ℕ) → IsSlotAt w place s i at → slice_get i.slots at ≡ Some None
    → IsRead p.SlotRef (w ∷ place ∷ []) s (Fails 24)
slot_ref_empty s w place i at h e = record { told = λ names rows b. h.seen names b _ ∙ rw (slot_told names i at None e) refl }

pub slot_ref_wrong : (s : Store) (w place : Word) (a : Answer) → IsNoSlot w place s a → IsRead p.SlotRef (w ∷ place ∷ []) s a
slot_ref_wrong s w place a h = record { told = λ names rows b. h.seen names b _ }

pub slot_bound_there : (s : Store) (w place : Word) (i : Instance) (at : ℕ) (x : Word) (a : Answer) → IsSlotAt w place s i at → slice_get i.slots at ≡ Some (Some x) → IsSaid true a
    → IsRead p.SlotBound (w ∷ place ∷ []) s a
slot_bound_there s w place i at x a h e y = record { told = λ names rows b. h.seen names b _ ∙ rw (slot_told names i at (Some x) e) (y.told names (state_of names s b)) }

pub slot_bound_empty : (s : Store) (w place : Word) (i : Instance) (at : ℕ) (a : Answer) → IsSlotAt w place s i at → slice_get i.slots at ≡ Some None → IsSaid false a
    → IsRead p.SlotBound (w ∷ place ∷ []) s a
slot_bound_empty s w place i at a h e y = record { told = λ names rows b. h.seen names b _ ∙ rw (slot_told names i at None e) (y.told names (state_of names s b)) }

pub slot_bound_wrong : (s : Store) (w place : Word) (a : Answer) → IsNoSlot w place s a → IsRead p.SlotBound (w ∷ place ∷ []) s a
slot_bound_wrong s w place a h = record { told = λ names rows b. h.seen names b _ }
