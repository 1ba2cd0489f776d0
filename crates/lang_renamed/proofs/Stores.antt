-- What is found in a renamed store: the same classes, and objects renamed.
use Rattle.std.specs.Prelude.{◌≡◌, ℕ, zero, suc, ◌+◌, List, [], ◌∷◌, Option, Some, None, length, option_map, slice_get, refl}
use Rattle.std.proofs.Common.{ap, sym, ◌∙◌}
use Rattle.std.proofs.lemmas.List.{map-append, map-set}
use mathlib.Core.Path.{fun_ext}
use Rattle.lang_meaning.specs.Values.{Value, integer, character, symbol, nil, object}
use Rattle.lang_meaning.specs.Objects.{Object, cons, string, vector, instance, function, closure, generic_function, class_object, input_stream, output_stream, fresh_symbol}
use Rattle.lang_meaning.specs.State.{State, stored, changed}
use Rattle.lang_meaning.specs.Classes.{class_of_object, fetch, class_of}
use Rattle.lang_meaning.specs.Primitives.{as_cons, as_string, as_vector, as_class, as_instance, as_stream, fresh_in, as_symbol, is_function, is_generic, change}
use Rattle.lang_meaning.specs.Signals.{marked, marked_at}
use Rattle.lang_meaning.specs.Meaning.{Spread, spread_at, spread, class_in, End, ended_value, ended_unhandled, ended_full, ended_more, by_class, ending_of}
use Rattle.lang_renamed.specs.RenamedRuns.{object_by, store_by, state_by}
use Rattle.lang_renamed.proofs.Lists.{get_by, length_by}

module _ (r : ℕ → ℕ) where
  -- what is asked of an object sees no names
  module _ {X : Type 0} (f : Option Object → X) (e : (required : List ℕ) (rest : Option ℕ) (body : _) (env : _) → f (Some (object_by r (closure required rest body env))) ≡ f (Some (closure required rest body env))) where
    pub asked : (o : Option Object) → f (option_map (object_by r) o) ≡ f o
    asked None = refl
    asked (Some (cons a d)) = refl
    asked (Some (string bytes)) = refl
    asked (Some (vector vs)) = refl
    asked (Some (instance c slots mark)) = refl
    asked (Some (function p)) = refl
    asked (Some (closure required rest body env)) = e required rest body env
    asked (Some (generic_function g)) = refl
    asked (Some (class_object c)) = refl
    asked (Some input_stream) = refl
    asked (Some output_stream) = refl
    asked (Some (fresh_symbol s)) = refl

  -- the object of a value
  pub fetch_by : (z : State) (v : Value) → fetch (state_by r z) v ≡ option_map (object_by r) (fetch z v)
  fetch_by z (object i) = get_by (object_by r) z.store i
  fetch_by z (integer n) = refl
  fetch_by z (character c) = refl
  fetch_by z (symbol s) = refl
  fetch_by z nil = refl

  class_of_object_by : (o : Option Object) → class_of_object (option_map (object_by r) o) ≡ class_of_object o
  class_of_object_by = asked class_of_object (λ required rest body env. refl)

  pub class_of_by : (z : State) (v : Value) → class_of (state_by r z) v ≡ class_of z v
  class_of_by z (integer n) = refl
  class_of_by z (character c) = refl
  class_of_by z (symbol s) = refl
  class_of_by z nil = refl
  class_of_by z (object i) = ap class_of_object (get_by (object_by r) z.store i) ∙ class_of_object_by (slice_get z.store i)

  pub class_in_by : (os : List Object) (v : Value) → class_in (store_by r os) v ≡ class_in os v
  class_in_by os (object i) = ap class_of_object (get_by (object_by r) os i) ∙ class_of_object_by (slice_get os i)
  class_in_by os (integer n) = refl
  class_in_by os (character c) = refl
  class_in_by os (symbol s) = refl
  class_in_by os nil = refl

  -- arguments as what they are to be
  pub cons_by : (z : State) (v : Value) → as_cons (fetch (state_by r z) v) ≡ as_cons (fetch z v)
  cons_by z v = ap as_cons (fetch_by z v) ∙ asked as_cons (λ required rest body env. refl) (fetch z v)

  pub string_by : (z : State) (v : Value) → as_string (fetch (state_by r z) v) ≡ as_string (fetch z v)
  string_by z v = ap as_string (fetch_by z v) ∙ asked as_string (λ required rest body env. refl) (fetch z v)

  pub vector_by : (z : State) (v : Value) → as_vector (fetch (state_by r z) v) ≡ as_vector (fetch z v)
  vector_by z v = ap as_vector (fetch_by z v) ∙ asked as_vector (λ required rest body env. refl) (fetch z v)

  pub class_object_by : (z : State) (v : Value) → as_class (fetch (state_by r z) v) ≡ as_class (fetch z v)
  class_object_by z v = ap as_class (fetch_by z v) ∙ asked as_class (λ required rest body env. refl) (fetch z v)

  pub instance_by : (z : State) (v : Value) → as_instance (fetch (state_by r z) v) ≡ as_instance (fetch z v)
  instance_by z v = ap as_instance (fetch_by z v) ∙ asked as_instance (λ required rest body env. refl) (fetch z v)

  pub stream_by : (z : State) (v : Value) → as_stream (fetch (state_by r z) v) ≡ as_stream (fetch z v)
  stream_by z v = ap as_stream (fetch_by z v) ∙ asked as_stream (λ required rest body env. refl) (fetch z v)

  pub function_by_value : (z : State) (v : Value) → is_function (fetch (state_by r z) v) ≡ is_function (fetch z v)
  function_by_value z v = ap is_function (fetch_by z v) ∙ asked is_function (λ required rest body env. refl) (fetch z v)

  pub generic_by_value : (z : State) (v : Value) → is_generic (fetch (state_by r z) v) ≡ is_generic (fetch z v)
  generic_by_value z v = ap is_generic (fetch_by z v) ∙ asked is_generic (λ required rest body env. refl) (fetch z v)

  pub symbol_by_value : (z : State) (v : Value) → as_symbol (state_by r z) v ≡ as_symbol z v
  symbol_by_value z (object i) = ap fresh_in (get_by (object_by r) z.store i) ∙ asked fresh_in (λ required rest body env. refl) (slice_get z.store i)
  symbol_by_value z (integer n) = refl
  symbol_by_value z (character c) = refl
  symbol_by_value z (symbol s) = refl
  symbol_by_value z nil = refl

  -- an object more, and one that is changed
  pub stored_by : (o : Object) (z : State) → stored (object_by r o) (state_by r z) ≡ state_by r (stored o z)
  stored_by o z = ap (λ os. record z { store = os }) (sym (map-append (object_by r) z.store (o ∷ [])))

  pub changed_by : (i : ℕ) (o : Object) (z : State) → changed i (object_by r o) (state_by r z) ≡ state_by r (changed i o z)
  changed_by i o z = ap (λ os. record z { store = os }) (sym (map-set (object_by r) z.store i o))

  pub change_by : (v : Value) (o : Object) (z : State) → change v (object_by r o) (state_by r z) ≡ state_by r (change v o z)
  change_by (object i) o z = changed_by i o z
  change_by (integer n) o z = refl
  change_by (character c) o z = refl
  change_by (symbol s) o z = refl
  change_by nil o z = refl

  marked_at_by : (v mark : Value) (o : Option Object) (z : State) → marked_at v mark (option_map (object_by r) o) (state_by r z) ≡ state_by r (marked_at v mark o z)
  marked_at_by (object i) mark (Some (instance class slots old)) z = changed_by i (instance class slots mark) z
  marked_at_by (object i) mark (Some (cons a d)) z = refl
  marked_at_by (object i) mark (Some (string bytes)) z = refl
  marked_at_by (object i) mark (Some (vector vs)) z = refl
  marked_at_by (object i) mark (Some (function p)) z = refl
  marked_at_by (object i) mark (Some (closure required rest body env)) z = refl
  marked_at_by (object i) mark (Some (generic_function g)) z = refl
  marked_at_by (object i) mark (Some (class_object c)) z = refl
  marked_at_by (object i) mark (Some input_stream) z = refl
  marked_at_by (object i) mark (Some output_stream) z = refl
  marked_at_by (object i) mark (Some (fresh_symbol s)) z = refl
  marked_at_by (object i) mark None z = refl
  marked_at_by (integer n) mark o z = refl
  marked_at_by (character c) mark o z = refl
  marked_at_by (symbol s) mark o z = refl
  marked_at_by nil mark o z = refl

  pub marked_by : (c mark : Value) (z : State) → marked c mark (state_by r z) ≡ state_by r (marked c mark z)
  marked_by c mark z = ap (λ o. marked_at c mark o (state_by r z)) (fetch_by z c) ∙ marked_at_by c mark (fetch z c) z

  -- the elements of a list
  spread_at_by : (others : ℕ → Value → Spread) (seen : List ℕ) (v : Value) (o : Option Object) → spread_at others seen v (option_map (object_by r) o) ≡ spread_at others seen v o
  spread_at_by others seen v = asked (spread_at others seen v) (closures v)
    where
      closures : (v : Value) (required : List ℕ) (rest : Option ℕ) (body : _) (env : _) → spread_at others seen v (Some (object_by r (closure required rest body env))) ≡ spread_at others seen v (Some (closure required rest body env))
      closures (object i) required rest body env = refl
      closures (integer n) required rest body env = refl
      closures (character c) required rest body env = refl
      closures (symbol s) required rest body env = refl
      closures nil required rest body env = refl

  spread_by_steps : (n : ℕ) (z : State) (seen : List ℕ) (v : Value) → spread n (state_by r z) seen v ≡ spread n z seen v
  spread_by_steps zero z seen v = refl
  spread_by_steps (suc n) z seen v =
      ap (λ (others : ℕ → Value → Spread). spread_at others seen v (fetch (state_by r z) v)) (fun_ext (λ i. fun_ext (λ d. spread_by_steps n z (i ∷ seen) d)))
      ∙ ap (spread_at (λ i d. spread n z (i ∷ seen) d) seen v) (fetch_by z v)
      ∙ spread_at_by (λ i d. spread n z (i ∷ seen) d) seen v (fetch z v)

  pub spread_by : (z : State) (v : Value) → spread (length (store_by r z.store) + 1) (state_by r z) [] v ≡ spread (length z.store + 1) z [] v
  spread_by z v = ap (λ (n : ℕ). spread (n + 1) (state_by r z) [] v) (length_by (object_by r) z.store) ∙ spread_by_steps (length z.store + 1) z [] v

  -- how a program ended
  pub ending_by : (end : End) (os : List Object) → ending_of end (store_by r os) ≡ ending_of end os
  ending_by (ended_value v) os = refl
  ending_by (ended_unhandled c place) os = ap (λ n. by_class n place) (class_in_by os c)
  ending_by (ended_full asked left) os = refl
  ending_by ended_more os = refl
