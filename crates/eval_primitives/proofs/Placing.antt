-- What primitives come to that make objects.
use Rattle.std.proofs.Common.{◌≡◌, ℕ, zero, suc, map, ◌+◌, ◌^◌, ◌≤◌, ◌/◌, arith, true, false, ℤ, List, [], ◌∷◌, length, replicate, Option, Some, None, Result, Ok, Err, refl, sym, ◌∙◌, ap, subst}
use Rattle.std.specs.Prelude.{if◌then◌else◌}
use Rattle.std.proofs.lemmas.List.{length-replicate}
use Rattle.lang_meaning.specs.declared.primitive.Primitive.{Primitive}
use Rattle.lang_meaning.specs.declared.primitive.Primitive.TheVariants as p
use Rattle.lang_meaning.specs.Values.{Value, nil, object}
use Rattle.lang_meaning.specs.State.{State, Limit, has_room, room_left, with_words, full, value, stored}
use Rattle.lang_meaning.specs.State as base
use Rattle.lang_meaning.specs.Objects as objects
use Rattle.lang_meaning.specs.Primitives.{primitive, as_integer, as_character, length_of, makes, makes_string, makes_vector}
use Rattle.lang_meaning.specs.Primitives as meaning
use Rattle.flat_language.specs.FlatState.{FlatState, FlatEvaluated, gives, request, make, on_state, charged}
use Rattle.eval_store.specs.declared.word.Word.{Word}
use Rattle.eval_store.specs.declared.word.Word.TheVariants as word
use Rattle.eval_store.specs.declared.object.Object.{Object}
use Rattle.eval_store.specs.declared.object.Object.TheVariants.{Cons, Text, Vector}
use Rattle.eval_store.specs.declared.object.Object.TheVariants as made
use Rattle.eval_store.specs.declared.store.Store.{Store}
use Rattle.eval_store.specs.declared.store.Halt.{Halt}
use Rattle.eval_store.specs.declared.store.Halt.TheVariants.{NoMemory, Spent, Full}
use Rattle.eval_store.specs.Words.{value_of_word, value_or_none, object_of, captured_by}
use Rattle.eval_store.specs.View.{Beside, state_of, seen, limit_of, requested, placed, built, symbol_built, ComesTo}
use Rattle.eval_primitives.specs.declared.answer.Answer.{Answer}
use Rattle.eval_primitives.specs.declared.answer.Answer.TheVariants.{Gives, Fails, DomainError}
use Rattle.eval_primitives.specs.Answers.{told, carried, evaluated, to_signal, to_signal_domain, AnswersAs, carried_out, IsTold}
use Rattle.eval_primitives.specs.Reading.{IsRead}
use Rattle.eval_primitives.specs.Setting.{IsSet}
use Rattle.eval_primitives.specs.Done.{IsPrimitiveDone, Brings, IsStored, ObjectIsStored, answer_of, unbound}

-- what was answered, carried out
pub carried_told : (names : List (List ℕ)) (limit : Limit) (a : Answer) (z after : FlatState) → after ≡ record z { state = after.state }
    → carried_out limit (told names a after.state) z ≡ carried names a after
carried_told names limit (Gives w) z after e = ap (λ y. evaluated (gives (value_of_word names w) y)) (sym e)
carried_told names limit (Fails c) z after e = ap (λ y. to_signal c [] y) (sym e)
carried_told names limit (DomainError w c) z after e = ap (λ y. to_signal_domain (value_of_word names w) c y) (sym e)

pub set_done : (limit : Option ℕ) (which : Primitive) (ws : List Word) (s t : Store) (a : Answer) → IsSet which ws s t a → IsPrimitiveDone limit which ws s t (Ok a)
set_done limit which ws s t a x = record {
  comes = λ names rows b. ap (λ y. carried_out (limit_of limit) y (seen names s b)) (x.told names rows b) ∙ carried_told names (limit_of limit) a (seen names s b) (seen names t b) (x.besides names b);
}

pub read_done : (limit : Option ℕ) (which : Primitive) (ws : List Word) (s : Store) (a : Answer) → IsRead which ws s a → IsPrimitiveDone limit which ws s s (Ok a)
read_done limit which ws s a x = set_done limit which ws s s a (record { told = x.told; besides = λ names b. refl })

pub told_done : (limit : Option ℕ) (which : Primitive) (ws : List Word) (s : Store) (a : Answer) → IsTold which ws a → IsPrimitiveDone limit which ws s s (Ok a)
told_done limit which ws s a x = read_done limit which ws s a (record { told = λ names rows b. x.told names rows (state_of names s b) })

-- an object is made at once
comes_of : (names : List (List ℕ)) (r : Result Word Halt) (z : FlatState) (e : FlatEvaluated) → ComesTo r (value_of_word names) z e → AnswersAs names (answer_of r) z (evaluated e)
comes_of names (Ok w) z e h = ap evaluated h
comes_of names (Err NoMemory) z e h = tt
comes_of names (Err Spent) z e h = h
comes_of names (Err (Full asked left)) z e h = ap evaluated h

pub cons_made : (limit : Option ℕ) (a d : Word) (s t : Store) (r : Result Word Halt)
    → ((names : List (List ℕ)) (b : Beside) → ComesTo r (value_of_word names) (seen names t b) (built names (limit_of limit) 2 0 (Cons a d) (seen names s b)))
    → IsPrimitiveDone limit p.Cons (a ∷ d ∷ []) s t (answer_of r)
cons_made limit a d s t r h = record { comes = λ names rows b. comes_of names r (seen names t b) (built names (limit_of limit) 2 0 (Cons a d) (seen names s b)) (h names b) }

pub symbol_made : (limit : Option ℕ) (s t : Store) (r : Result Word Halt)
    → ((names : List (List ℕ)) (b : Beside) → ComesTo r (value_of_word names) (seen names t b) (symbol_built names (limit_of limit) (seen names s b)))
    → IsPrimitiveDone limit p.Gensym [] s t (answer_of r)
symbol_made limit s t r h = record { comes = λ names rows b. comes_of names r (seen names t b) (symbol_built names (limit_of limit) (seen names s b)) (h names b) }

-- an object is kept for which words were granted
apart : (asked left : ℕ) (v : Value) → full asked left ≡ value v → ⊥
apart asked left v e = cc

granted : (limit : Limit) (size : ℕ) (z after : FlatState) (next : FlatState → FlatEvaluated) → requested limit size 0 z ≡ gives nil after → request limit size 0 z next ≡ next after
granted limit size z after next =
    elim (has_room limit (z.state.heap + z.state.stack + size + 0)) as (λ b. (if b then gives nil (on_state (λ y. with_words size 0 y) z) else record { outcome = full (size + 0) (room_left limit (z.state.heap + z.state.stack)); state = z }) ≡ gives nil after
    → (if b then next (on_state (λ y. with_words size 0 y) z) else record { outcome = full (size + 0) (room_left limit (z.state.heap + z.state.stack)); state = z }) ≡ next after) [
      | true ↦ λ e. ap (λ (r : FlatEvaluated). next r.state) e
      | false ↦ λ e. absurd (apart (size + 0) (room_left limit (z.state.heap + z.state.stack)) nil (ap (λ (r : FlatEvaluated). r.outcome) e))
    ]

-- words were not granted
refused : (limit : Limit) (size asked left : ℕ) (z after : FlatState) (next : FlatState → FlatEvaluated) → requested limit size 0 z ≡ record { outcome = full asked left; state = after }
    → request limit size 0 z next ≡ record { outcome = full asked left; state = after }
refused limit size asked left z after next =
    elim (has_room limit (z.state.heap + z.state.stack + size + 0)) as (λ b. (if b then gives nil (on_state (λ y. with_words size 0 y) z) else record { outcome = full (size + 0) (room_left limit (z.state.heap + z.state.stack)); state = z }) ≡ record { outcome = full asked left; state = after }
    → (if b then next (on_state (λ y. with_words size 0 y) z) else record { outcome = full (size + 0) (room_left limit (z.state.heap + z.state.stack)); state = z }) ≡ record { outcome = full asked left; state = after }) [
      | true ↦ λ e. absurd (apart asked left nil (sym (ap (λ (r : FlatEvaluated). r.outcome) e)))
      | false ↦ λ e. e
    ]

-- what the counts come to
abbrev total : FlatEvaluated → ℕ
total r = r.state.state.peak + r.state.state.units + r.state.state.symbols + 1

spent_more : (limit : Limit) (size besides : ℕ) (o : objects.Object) (z : FlatState) → 2 ^ 64 ≤ total (requested limit size 0 z)
    → 2 ^ 64 ≤ total (make limit size besides o z (λ v after. gives v after))
spent_more limit size besides o z =
    elim (has_room limit (z.state.heap + z.state.stack + size + 0)) as (λ b. 2 ^ 64 ≤ total (if b then gives nil (on_state (λ y. with_words size 0 y) z) else record { outcome = full (size + 0) (room_left limit (z.state.heap + z.state.stack)); state = z })
    → 2 ^ 64 ≤ total (if b then gives (object (length z.state.store)) (on_state (λ y. stored o (base.charged (size + besides) y)) (on_state (λ y. with_words size 0 y) z)) else record { outcome = full (size + 0) (room_left limit (z.state.heap + z.state.stack)); state = z })) [
      | true ↦ λ h. omega arith
      | false ↦ λ h. h
    ]

-- the object is placed and counted
abbrev placing : (size besides : ℕ) → objects.Object → FlatState → FlatEvaluated
placing size besides o z = gives (object (length z.state.store)) (on_state (λ y. stored o (base.charged (size + besides) y)) z)

pub not_granted : {T : Type 0} (v : List (List ℕ) → T → Value) (limit : Option ℕ) (size besides : ℕ) (o : List (List ℕ) → objects.Object) (answer : List (List ℕ) → State → meaning.Answer) (s t : Store) (h : Halt)
    → ((names : List (List ℕ)) (z : State) → answer names z ≡ makes size besides (o names) z)
    → ((names : List (List ℕ)) (b : Beside) → ComesTo (Err h) (v names) (seen names t b) (requested (limit_of limit) size 0 (seen names s b)))
    → Brings limit answer s t (Err h)
not_granted v limit size besides o answer s t (Full asked left) form x = record {
  comes = λ names b. rw (form names (state_of names s b)) (ap evaluated (refused (limit_of limit) size asked left (seen names s b) (seen names t b) (placing size besides (o names)) (x names b)));
}
not_granted v limit size besides o answer s t Spent form x = record {
  comes = λ names b. rw (form names (state_of names s b)) (spent_more (limit_of limit) size besides (o names) (seen names s b) (x names b));
}
not_granted v limit size besides o answer s t NoMemory form x = record { comes = λ names b. tt }

pub no_memory : (limit : Option ℕ) (answer : List (List ℕ) → State → meaning.Answer) (s t : Store) → Brings limit answer s t (Err NoMemory)
no_memory limit answer s t = record { comes = λ names b. tt }

-- an object is kept
pub kept : (s r t : Store) (size besides n : ℕ) (o : Object)
    → ((names : List (List ℕ)) (b : Beside) → gives nil (charged (size + besides) (seen names s b)) ≡ gives nil (seen names r b))
    → ((names : List (List ℕ)) (b : Beside) → n ≡ length (seen names r b).state.store)
    → ((names : List (List ℕ)) (b : Beside) → seen names t b ≡ placed names o (seen names r b))
    → IsStored size besides o s t (word.Object n)
kept s r t size besides n o counted number after = record {
  number = λ names b. ap object (number names b ∙ ap (λ (e : FlatEvaluated). length e.state.state.store) (sym (counted names b)));
  after = λ names b. after names b ∙ ap (λ (e : FlatEvaluated). placed names o e.state) (sym (counted names b));
}

-- and it is what the meaning makes
brought : (limit : Option ℕ) (size besides : ℕ) (o : Object) (answer : List (List ℕ) → State → meaning.Answer) (s r t : Store) (k : Result Word Halt)
    → ((names : List (List ℕ)) (z : State) → answer names z ≡ makes size besides (object_of names o) z)
    → ((names : List (List ℕ)) → captured_by names o ≡ None)
    → ((names : List (List ℕ)) (b : Beside) → requested (limit_of limit) size 0 (seen names s b) ≡ gives nil (seen names r b))
    → ObjectIsStored size besides o r t k → Brings limit answer s t (answer_of k)
brought limit size besides o answer s r t (Ok w) form none given x = record {
  comes = λ names b.
      rw (form names (state_of names s b))
      (ap evaluated
      (granted (limit_of limit) size (seen names s b) (seen names r b) (placing size besides (object_of names o)) (given names b)
      ∙ rw (x.number names b, x.after names b, none names) refl));
}
brought limit size besides o answer s r t (Err (Full asked left)) form none given x = absurd x
brought limit size besides o answer s r t (Err Spent) form none given x = record {
  comes = λ names b.
      rw (form names (state_of names s b))
      (rw (granted (limit_of limit) size (seen names s b) (seen names r b) (placing size besides (object_of names o)) (given names b))
      (let h : 2 ^ 64 ≤ (seen names r b).state.units + (size + besides) = x names b in omega arith));
}
brought limit size besides o answer s r t (Err NoMemory) form none given x = record { comes = λ names b. tt }

map_replicate : {X Y : Type 0} (f : X → Y) (n : ℕ) (x : X) → map f (replicate n x) ≡ replicate n (f x)
map_replicate f zero x = refl
map_replicate f (suc n) x = ap (λ xs. f x ∷ xs) (map_replicate f n x)

vector_form : (names : List (List ℕ)) (count : ℕ) (e : Word) (z : State)
    → makes_vector (replicate count (value_of_word names e)) z ≡ makes (2 + count) 0 (object_of names (Vector (replicate count e))) z
vector_form names count e z = rw (length-replicate count (value_of_word names e), map_replicate (value_of_word names) count e) refl

string_form : (count c : ℕ) (z : State) → makes_string (replicate count c) z ≡ makes (2 + (count + 3) / 4) count (objects.string (replicate count c)) z
string_form count c z = rw (length-replicate count c) refl

pub vector_brought : (limit : Option ℕ) (count : ℕ) (e : Word) (ws : List Word) (s r t : Store) (k : Result Word Halt)
    → ((names : List (List ℕ)) (b : Beside) → requested (limit_of limit) (2 + count) 0 (seen names s b) ≡ gives nil (seen names r b))
    → ws ≡ replicate count e → ObjectIsStored (2 + count) 0 (Vector ws) r t k
    → Brings limit (λ names. makes_vector (replicate count (value_of_word names e))) s t (answer_of k)
vector_brought limit count e ws s r t k given same x =
    brought limit (2 + count) 0 (Vector (replicate count e)) (λ names. makes_vector (replicate count (value_of_word names e))) s r t k
    (λ names z. vector_form names count e z) (λ names. refl) given (let P : List Word → Type 0 = λ us. ObjectIsStored (2 + count) 0 (Vector us) r t k in subst P same x)

pub repeated_brought : (limit : Option ℕ) (count c : ℕ) (bytes : List ℕ) (s r t : Store) (k : Result Word Halt)
    → ((names : List (List ℕ)) (b : Beside) → requested (limit_of limit) (2 + (count + 3) / 4) 0 (seen names s b) ≡ gives nil (seen names r b))
    → bytes ≡ replicate count c → ObjectIsStored (2 + (count + 3) / 4) count (Text bytes) r t k
    → Brings limit (λ names. makes_string (replicate count c)) s t (answer_of k)
repeated_brought limit count c bytes s r t k given same x =
    brought limit (2 + (count + 3) / 4) count (Text (replicate count c)) (λ names. makes_string (replicate count c)) s r t k
    (λ names z. string_form count c z) (λ names. refl) given (let P : List ℕ → Type 0 = λ us. ObjectIsStored (2 + (count + 3) / 4) count (Text us) r t k in subst P same x)

pub text_brought : (limit : Option ℕ) (n : ℕ) (text bytes : List ℕ) (s r t : Store) (k : Result Word Halt) → n ≡ length text
    → ((names : List (List ℕ)) (b : Beside) → requested (limit_of limit) (2 + (n + 3) / 4) 0 (seen names s b) ≡ gives nil (seen names r b))
    → bytes ≡ text → ObjectIsStored (2 + (n + 3) / 4) n (Text bytes) r t k
    → Brings limit (λ names. makes_string text) s t (answer_of k)
text_brought limit n text bytes s r t k len given same x =
    brought limit (2 + (n + 3) / 4) n (Text text) (λ names. makes_string text) s r t k
    (λ names z. rw len refl) (λ names. refl) given (let P : List ℕ → Type 0 = λ us. ObjectIsStored (2 + (n + 3) / 4) n (Text us) r t k in subst P same x)

-- strings and vectors
pub string_done : (limit : Option ℕ) (v w : Word) (n : ℤ) (c count : ℕ) (s t : Store) (x : Result Answer Halt)
    → ((names : List (List ℕ)) → as_integer (value_of_word names v) ≡ Some n) → ((names : List (List ℕ)) → as_character (value_of_word names w) ≡ Some c)
    → length_of n ≡ Some count → Brings limit (λ names. makes_string (replicate count c)) s t x
    → IsPrimitiveDone limit p.MakeString (v ∷ w ∷ []) s t x
string_done limit v w n c count s t x h k e brings = record { comes = λ names rows b. rw (h names, k names, e) (brings.comes names b) }

pub no_string_length : (limit : Option ℕ) (v w : Word) (s : Store) → ((names : List (List ℕ)) → as_integer (value_of_word names v) ≡ None)
    → IsPrimitiveDone limit p.MakeString (v ∷ w ∷ []) s s (Ok (DomainError v 13))
no_string_length limit v w s h = told_done limit p.MakeString (v ∷ w ∷ []) s (DomainError v 13) (record { told = λ names rows z. rw (h names) refl })

pub no_string_character : (limit : Option ℕ) (v w : Word) (n : ℤ) (s : Store) → ((names : List (List ℕ)) → as_integer (value_of_word names v) ≡ Some n)
    → ((names : List (List ℕ)) → as_character (value_of_word names w) ≡ None)
    → IsPrimitiveDone limit p.MakeString (v ∷ w ∷ []) s s (Ok (DomainError w 5))
no_string_character limit v w n s h k = told_done limit p.MakeString (v ∷ w ∷ []) s (DomainError w 5) (record { told = λ names rows z. rw (h names, k names) refl })

pub negative_string : (limit : Option ℕ) (v w : Word) (n : ℤ) (c : ℕ) (s : Store) → ((names : List (List ℕ)) → as_integer (value_of_word names v) ≡ Some n)
    → ((names : List (List ℕ)) → as_character (value_of_word names w) ≡ Some c) → length_of n ≡ None
    → IsPrimitiveDone limit p.MakeString (v ∷ w ∷ []) s s (Ok (DomainError v 13))
negative_string limit v w n c s h k e = told_done limit p.MakeString (v ∷ w ∷ []) s (DomainError v 13) (record { told = λ names rows z. rw (h names, k names, e) refl })

pub vector_done : (limit : Option ℕ) (v w : Word) (n : ℤ) (count : ℕ) (s t : Store) (x : Result Answer Halt)
    → ((names : List (List ℕ)) → as_integer (value_of_word names v) ≡ Some n)
    → length_of n ≡ Some count → Brings limit (λ names. makes_vector (replicate count (value_of_word names w))) s t x
    → IsPrimitiveDone limit p.MakeVector (v ∷ w ∷ []) s t x
vector_done limit v w n count s t x h e brings = record { comes = λ names rows b. rw (h names, e) (brings.comes names b) }

pub no_vector_length : (limit : Option ℕ) (v w : Word) (s : Store) → ((names : List (List ℕ)) → as_integer (value_of_word names v) ≡ None)
    → IsPrimitiveDone limit p.MakeVector (v ∷ w ∷ []) s s (Ok (DomainError v 13))
no_vector_length limit v w s h = told_done limit p.MakeVector (v ∷ w ∷ []) s (DomainError v 13) (record { told = λ names rows z. rw (h names) refl })

pub negative_vector : (limit : Option ℕ) (v w : Word) (n : ℤ) (s : Store) → ((names : List (List ℕ)) → as_integer (value_of_word names v) ≡ Some n)
    → length_of n ≡ None
    → IsPrimitiveDone limit p.MakeVector (v ∷ w ∷ []) s s (Ok (DomainError v 13))
negative_vector limit v w n s h e = told_done limit p.MakeVector (v ∷ w ∷ []) s (DomainError v 13) (record { told = λ names rows z. rw (h names, e) refl })

-- words for strings and vectors were not granted
pub vector_refused : {T : Type 0} (v : List (List ℕ) → T → Value) (limit : Option ℕ) (count : ℕ) (e : Word) (s t : Store) (h : Halt)
    → ((names : List (List ℕ)) (b : Beside) → ComesTo (Err h) (v names) (seen names t b) (requested (limit_of limit) (2 + count) 0 (seen names s b)))
    → Brings limit (λ names. makes_vector (replicate count (value_of_word names e))) s t (Err h)
vector_refused v limit count e s t h x =
    not_granted v limit (2 + count) 0 (λ names. objects.vector (replicate count (value_of_word names e))) (λ names. makes_vector (replicate count (value_of_word names e))) s t h
    (λ names z. rw (length-replicate count (value_of_word names e)) refl) x

pub repeated_refused : {T : Type 0} (v : List (List ℕ) → T → Value) (limit : Option ℕ) (count c : ℕ) (s t : Store) (h : Halt)
    → ((names : List (List ℕ)) (b : Beside) → ComesTo (Err h) (v names) (seen names t b) (requested (limit_of limit) (2 + (count + 3) / 4) 0 (seen names s b)))
    → Brings limit (λ names. makes_string (replicate count c)) s t (Err h)
repeated_refused v limit count c s t h x =
    not_granted v limit (2 + (count + 3) / 4) count (λ names. objects.string (replicate count c)) (λ names. makes_string (replicate count c)) s t h
    (λ names z. string_form count c z) x

pub text_refused : {T : Type 0} (v : List (List ℕ) → T → Value) (limit : Option ℕ) (n : ℕ) (text : List ℕ) (s t : Store) (h : Halt) → n ≡ length text
    → ((names : List (List ℕ)) (b : Beside) → ComesTo (Err h) (v names) (seen names t b) (requested (limit_of limit) (2 + (n + 3) / 4) 0 (seen names s b)))
    → Brings limit (λ names. makes_string text) s t (Err h)
text_refused v limit n text s t h len x =
    not_granted v limit (2 + (n + 3) / 4) n (λ names. objects.string text) (λ names. makes_string text) s t h (λ names z. rw len refl) x

-- instances
pub instance_brought : (limit : Option ℕ) (words class count : ℕ) (slots : List (Option Word)) (s r t : Store) (k : Result Word Halt)
    → ((names : List (List ℕ)) (b : Beside) → requested (limit_of limit) words 0 (seen names s b) ≡ gives nil (seen names r b))
    → slots ≡ replicate count None → ObjectIsStored words 0 (made.Instance (record { class = class; slots = slots; mark = word.Nil })) r t k
    → Brings limit (λ names. makes words 0 (unbound class count)) s t (answer_of k)
instance_brought limit words class count slots s r t k given same x =
    brought limit words 0 (made.Instance (record { class = class; slots = replicate count None; mark = word.Nil })) (λ names. makes words 0 (unbound class count)) s r t k
    (λ names z. rw (map_replicate (value_or_none names) count None) refl) (λ names. refl) given
    (let P : List (Option Word) → Type 0 = λ us. ObjectIsStored words 0 (made.Instance (record { class = class; slots = us; mark = word.Nil })) r t k in subst P same x)

pub instance_refused : {T : Type 0} (v : List (List ℕ) → T → Value) (limit : Option ℕ) (words class count : ℕ) (s t : Store) (h : Halt)
    → ((names : List (List ℕ)) (b : Beside) → ComesTo (Err h) (v names) (seen names t b) (requested (limit_of limit) words 0 (seen names s b)))
    → Brings limit (λ names. makes words 0 (unbound class count)) s t (Err h)
instance_refused v limit words class count s t h x =
    not_granted v limit words 0 (λ names. unbound class count) (λ names. makes words 0 (unbound class count)) s t h (λ names z. refl) x
