-- What a store is seen as once an object is placed in it, and once it is made of words that were asked for.
use Rattle.std.proofs.Common.{◌≡◌, ℕ, ◌+◌, ◌^◌, ◌≤◌, true, false, List, length, Option, Ok, Err, refl, sym, ◌∙◌, ap, zero-add, arith}
use Rattle.std.specs.Prelude.{option_map, slice_get, if◌then◌else◌}
use Rattle.std.proofs.lemmas.List.{length-map}
use Rattle.std.proofs.lemmas.Option.{slice_get-map}
use Rattle.lang_meaning.specs.Values.{object}
use Rattle.lang_meaning.specs.State.{State, Limit, Outcome, value, exit, full, more, has_room, room_left, charged, with_words}
use Rattle.flat_language.specs.FlatState.{FlatState, FlatEvaluated, on_state, gives, go_on, under}
use Rattle.eval_store.specs.declared.word.Word.{Word}
use Rattle.eval_store.specs.declared.word.Word.TheVariants as word
use Rattle.eval_store.specs.declared.object.Object.{Object}
use Rattle.eval_store.specs.declared.object.Object.TheVariants.{FreshSymbol}
use Rattle.eval_store.specs.declared.store.Store.{Store}
use Rattle.eval_store.specs.declared.store.Halt.{Halt}
use Rattle.eval_store.specs.declared.store.Halt.TheVariants.{NoMemory, Spent, Full}
use Rattle.eval_store.specs.Words.{value_of_word, object_of}
use Rattle.eval_store.specs.View.{Beside, seen, state_of, limit_of, ComesTo, placed, built, symbol_built, IsFetched, captured_in}
use Rattle.eval_store.specs.Requests.{IsAdmitted, IsPlaced, IsSame}
use Rattle.eval_store.proofs.Capturing.{mapped_push, captured_push, under_at}

pub length_of : (names : List (List ℕ)) (s : Store) (b : Beside) → length (state_of names s b).store ≡ length s.objects.items
length_of names s b = length-map s.objects.items (object_of names)

pub placed_seen : (names : List (List ℕ)) (b : Beside) (s t : Store) (o : Object) → IsPlaced s o t
    → seen names t b ≡ placed names o (seen names s b)
placed_seen names b s t o x =
    rw (x.besides, x.objects, mapped_push (object_of names) s.objects.items o, captured_push names 0 s.objects.items o, zero-add (length s.objects.items), ← length_of names s b) refl

pub same_seen : (names : List (List ℕ)) (b : Beside) (s t : Store) → IsSame s t → seen names t b ≡ seen names s b
same_seen names b s t x = rw (x.besides, x.objects) refl

pub fetched : (s : Store) (i : ℕ) (r : Option Object) → r ≡ slice_get s.objects.items i → IsFetched s (word.Object i) r
fetched s i r e = record {
  object = λ names b. slice_get-map (object_of names) s.objects.items i ∙ ap (option_map (object_of names)) (sym e);
  captured = λ names b. ap (λ k. under k (seen names s b).captured) (sym (zero-add i)) ∙ under_at names 0 i s.objects.items ∙ ap (captured_in names) (sym e);
}

-- an object is made of words that fit
pub made_seen : (names : List (List ℕ)) (b : Beside) (limit : Option ℕ) (size besides : ℕ) (o : Object) (s r t : Store) (n peak units : ℕ)
    → IsAdmitted s limit size 0 (Ok peak) → units ≡ s.units + (size + besides) → n ≡ length s.objects.items → IsPlaced s o r
    → t ≡ record r { units = units; heap = r.heap + size; stack = r.stack + 0; peak = peak }
    → built names (limit_of limit) size besides o (seen names s b) ≡ gives (object n) (seen names t b)
made_seen names b limit size besides o s r t n peak units a u e x last =
    rw (a.0, last, u, e, a.1, x.besides, x.objects, mapped_push (object_of names) s.objects.items o, captured_push names 0 s.objects.items o, zero-add (length s.objects.items), ← length_of names s b) refl

-- one symbol more counts no less
no_less : (o : Outcome) (z : FlatState) → 2 ^ 64 ≤ z.state.peak + z.state.units + z.state.symbols + 1
    → 2 ^ 64 ≤ (go_on (record { outcome = o; state = z }) (λ v after. gives v (on_state (λ (y : State). record y { symbols = y.symbols + 1 }) after))).state.state.peak
    + (go_on (record { outcome = o; state = z }) (λ v after. gives v (on_state (λ (y : State). record y { symbols = y.symbols + 1 }) after))).state.state.units
    + (go_on (record { outcome = o; state = z }) (λ v after. gives v (on_state (λ (y : State). record y { symbols = y.symbols + 1 }) after))).state.state.symbols + 1
no_less (value v) z h = omega arith
no_less (exit e v landing) z h = h
no_less (full asked left) z h = h
no_less more z h = h

-- a symbol is made: it has the next serial, which is counted
built_symbols : (names : List (List ℕ)) (limit : Limit) (size besides : ℕ) (o : Object) (z : FlatState) → (built names limit size besides o z).state.state.symbols ≡ z.state.symbols
built_symbols names limit size besides o z =
    elim (has_room limit (z.state.heap + z.state.stack + size + 0))
    as (λ t. (if t then gives (object (length z.state.store)) (placed names o (on_state (λ y. charged (size + besides) y) (on_state (λ y. with_words size 0 y) z))) else record { outcome = full (size + 0) (room_left limit (z.state.heap + z.state.stack)); state = z }).state.state.symbols ≡ z.state.symbols)
    [ true ↦ refl | false ↦ refl ]

pub symbol_seen : (names : List (List ℕ)) (b : Beside) (limit : Option ℕ) (s t : Store) (w : Word) (next : ℕ)
    → built names (limit_of limit) 2 0 (FreshSymbol s.symbols) (seen names s b) ≡ gives (value_of_word names w) (seen names t b) → next ≡ s.symbols + 1
    → symbol_built names (limit_of limit) (seen names s b) ≡ gives (value_of_word names w) (seen names (record t { symbols = next }) b)
symbol_seen names b limit s t w next h n =
    let e : t.symbols ≡ s.symbols = sym (ap (λ (r : FlatEvaluated). r.state.state.symbols) h) ∙ built_symbols names (limit_of limit) 2 0 (FreshSymbol s.symbols) (seen names s b) in
    ap (λ r. go_on r (λ v after. gives v (on_state (λ (y : State). record y { symbols = y.symbols + 1 }) after))) h
    ∙ ap (λ k. gives (value_of_word names w) (seen names (record t { symbols = k }) b)) (ap (λ k. k + 1) e ∙ sym n)

pub symbol_fails : (names : List (List ℕ)) (b : Beside) (limit : Option ℕ) (s t : Store) (h : Halt)
    → ComesTo (Err h) (value_of_word names) (seen names t b) (built names (limit_of limit) 2 0 (FreshSymbol s.symbols) (seen names s b))
    → ComesTo (Err h) (value_of_word names) (seen names t b) (symbol_built names (limit_of limit) (seen names s b))
symbol_fails names b limit s t (Full asked left) c = ap (λ r. go_on r (λ v after. gives v (on_state (λ (y : State). record y { symbols = y.symbols + 1 }) after))) c
symbol_fails names b limit s t Spent c = no_less (built names (limit_of limit) 2 0 (FreshSymbol s.symbols) (seen names s b)).outcome (built names (limit_of limit) 2 0 (FreshSymbol s.symbols) (seen names s b)).state c
symbol_fails names b limit s t NoMemory c = c
