-- Being later in a flat run is kept by each step.
use Rattle.std.proofs.Common.{◌≡◌, ◌≤◌, ◌<◌, ℕ, ◌+◌, Bool, List, [], ◌∷◌, ◌++◌, refl, sym, ap, subst, ◌∙◌, Some, length, take, length-append, append_assoc, arith, le_refl, le_trans}
use Rattle.std.proofs.lemmas.List.{length-take-le}
use Rattle.std.specs.Prelude.{slice_get, slice_set, if◌then◌else◌}
use Rattle.lang_meaning.specs.Values.{Value}
use Rattle.lang_meaning.specs.Objects.{Object, function}
use Rattle.lang_meaning.specs.State.{State, with_words, stored, changed}
use Rattle.lang_meaning.specs.State as base
use Rattle.lang_meaning.specs.Prefixes.{IsLastOf}
use Rattle.lang_meaning.specs.Primitives.{other_bytes}
use Rattle.lang_meaning.proofs.Steps.{GrowsAnew, anew_kept}
use Rattle.flat_language.specs.FlatState.{FrameSlot, Captured, FlatState, on_state, under}
use Rattle.flat_language.proofs.Lists.{equal_or_not, length-changed}
use Rattle.flat_laws.specs.Blanks.{blank}
use Rattle.flat_laws.specs.FlatLater.{MakesNewFunctions, FlatLater}
use Rattle.flat_laws.proofs.Blanks.{still_there, blank_set}
use Rattle.flat_laws.proofs.Keeps.{last_of_itself, last_of_rest}
use Rattle.flat_laws.proofs.Steps.{IsKeptByFlatRules}

last_of_last : {xs ys zs : List ℕ} → IsLastOf ys xs → IsLastOf zs ys → IsLastOf zs xs
last_of_last {xs} {ys} {zs} b c = record {
  front = b.front ++ c.front;
  is = append_assoc b.front c.front zs ∙ ap (λ us. b.front ++ us) c.is ∙ b.is;
}

-- no function is new
no_functions : (store : List Object) (captured : List (ℕ × List Captured)) → MakesNewFunctions store captured captured
no_functions store captured = record { new = []; kept = refl; same = λ i h. refl }

more_functions : {store later : List Object} {a b c : List (ℕ × List Captured)} → length store ≤ length later
    → MakesNewFunctions store a b → MakesNewFunctions later b c → MakesNewFunctions store a c
more_functions {store} {later} {a} {b} {c} l x y = record {
  new = y.new ++ x.new;
  kept = y.kept ∙ ap (λ fs. y.new ++ fs) x.kept ∙ sym (append_assoc y.new x.new a);
  same = λ i h. y.same i (omega (arith, h, l)) ∙ x.same i h;
}

-- a function has a number that no object had
not_new : (i : ℕ) (store : List Object) (cs : List Captured) (fs : List (ℕ × List Captured)) → i < length store
    → under i ((length store, cs) ∷ fs) ≡ under i fs
not_new i store cs fs h =
    equal_or_not i (length store)
    (λ e t. absurd (omega (arith, h, e)))
    (λ f. ap (λ (b : Bool). if b then Some cs else under i fs) f)

new_function : (store : List Object) (cs : List Captured) (fs : List (ℕ × List Captured))
    → MakesNewFunctions store fs ((length store, cs) ∷ fs)
new_function store cs fs = record { new = (length store, cs) ∷ []; kept = refl; same = λ i h. not_new i store cs fs h }

-- the part that is known of core forms too
anew : {a b : FlatState} → FlatLater a b → GrowsAnew a.state b.state
anew g = record { later = g.later; exits = g.exits }

both_later : {a b c : FlatState} → FlatLater a b → FlatLater b c → FlatLater a c
both_later {a} {b} {c} x y =
    let g : GrowsAnew a.state c.state = anew_kept.both (anew x) (anew y) in record {
      later = g.later;
      exits = g.exits;
      input = last_of_last x.input y.input;
      heap = le_trans x.heap y.heap;
      stack = y.stack ∙ x.stack;
      store = le_trans x.store y.store;
      objects = λ i h. y.objects i (omega (arith, h, x.store)) ∙ x.objects i h;
      variables = le_trans x.variables y.variables;
      functions = more_functions x.store x.functions y.functions;
      frame = y.frame ∙ x.frame;
    }

-- a step that leaves store, stack, functions and slots
stays : {a b : FlatState} → GrowsAnew a.state b.state → IsLastOf b.state.input a.state.input → a.state.heap ≤ b.state.heap
    → length a.state.variables ≤ length b.state.variables → b.state.stack ≡ a.state.stack → b.state.store ≡ a.state.store
    → b.captured ≡ a.captured → length b.frame ≡ length a.frame → FlatLater a b
stays {a} {b} g i h v k s c f = record {
  later = g.later;
  exits = g.exits;
  input = i;
  heap = h;
  stack = k;
  store = subst (λ (os : List Object). length a.state.store ≤ length os) (sym s) (le_refl (length a.state.store));
  objects = λ j l. ap (λ (os : List Object). blank (slice_get os j)) s;
  variables = v;
  functions = subst (λ (fs : List (ℕ × List Captured)). MakesNewFunctions a.state.store a.captured fs) (sym c) (no_functions a.state.store a.captured);
  frame = f;
}

-- a step on the state, which leaves input, heap and variables too
steps : (f : State → State) (z : FlatState) → GrowsAnew z.state (f z.state) → (f z.state).input ≡ z.state.input → (f z.state).heap ≡ z.state.heap
    → (f z.state).variables ≡ z.state.variables → (f z.state).stack ≡ z.state.stack → (f z.state).store ≡ z.state.store
    → FlatLater z (on_state f z)
steps f z g i h v k s =
    stays g
    (subst (λ xs. IsLastOf xs z.state.input) (sym i) (last_of_itself z.state.input))
    (subst (λ n. z.state.heap ≤ n) (sym h) (le_refl z.state.heap))
    (subst (λ (vs : List Value). length z.state.variables ≤ length vs) (sym v) (le_refl (length z.state.variables)))
    k s refl refl

-- an object is made
stored_later : (o : Object) (z : FlatState) (captured : List (ℕ × List Captured)) → MakesNewFunctions z.state.store z.captured captured
    → FlatLater z (record z { state = stored o z.state; captured = captured })
stored_later o z captured m = record {
  later = (anew_kept.store o z.state).later;
  exits = (anew_kept.store o z.state).exits;
  input = last_of_itself z.state.input;
  heap = le_refl z.state.heap;
  stack = refl;
  store = omega (arith, length-append z.state.store (o ∷ []));
  objects = λ i h. ap blank (still_there z.state.store (o ∷ []) i h);
  variables = le_refl (length z.state.variables);
  functions = m;
  frame = refl;
}

-- an object is changed
changed_later : (i : ℕ) (o : Object) (z : FlatState) → blank (slice_get z.state.store i) ≡ blank (Some o)
    → FlatLater z (on_state (λ y. changed i o y) z)
changed_later i o z h = record {
  later = (anew_kept.change i o z.state).later;
  exits = (anew_kept.change i o z.state).exits;
  input = last_of_itself z.state.input;
  heap = le_refl z.state.heap;
  stack = refl;
  store = let e : length (slice_set z.state.store i o) ≡ length z.state.store = length-changed z.state.store i o in omega (arith, e);
  objects = λ j l. blank_set z.state.store i o h j;
  variables = le_refl (length z.state.variables);
  functions = no_functions z.state.store z.captured;
  frame = refl;
}

words_later : (n : ℕ) (z : FlatState) → FlatLater z (on_state (λ y. with_words n 0 y) z)
words_later n z =
    let e : z.state.stack + 0 ≡ z.state.stack = omega arith in
    stays (anew_kept.words n 0 z.state) (last_of_itself z.state.input) (omega arith) (le_refl (length z.state.variables)) e refl refl refl

-- what follows a body: the words of the stack, the slots and the frame are those of before
given_back_later : (n : ℕ) (z r : FlatState) → FlatLater (on_state (λ y. with_words 0 n y) z) r
    → FlatLater z (on_state (λ (y : State). record y { stack = z.state.stack }) r)
given_back_later n z r x =
    let g : GrowsAnew z.state (record r.state { stack = z.state.stack }) =
    anew_kept.both (anew_kept.both (anew_kept.words 0 n z.state) (anew x)) (anew_kept.stack z.state.stack r.state) in record {
      later = g.later;
      exits = g.exits;
      input = x.input;
      heap = omega (arith, x.heap);
      stack = refl;
      store = x.store;
      objects = x.objects;
      variables = x.variables;
      functions = x.functions;
      frame = x.frame;
    }

slots_later : (new : List FrameSlot) (z r : FlatState) → FlatLater (record z { frame = z.frame ++ new }) r
    → FlatLater z (record r { frame = take (length z.frame) r.frame })
slots_later new z r x = record {
  later = x.later;
  exits = x.exits;
  input = x.input;
  heap = x.heap;
  stack = x.stack;
  store = x.store;
  objects = x.objects;
  variables = x.variables;
  functions = x.functions;
  frame = length-take-le (length z.frame) r.frame (omega (arith, x.frame, length-append z.frame new));
}

own_frame_later : (frame : List FrameSlot) (z r : FlatState) → FlatLater (record z { frame = frame }) r → FlatLater z (record r { frame = z.frame })
own_frame_later frame z r x = record {
  later = x.later;
  exits = x.exits;
  input = x.input;
  heap = x.heap;
  stack = x.stack;
  store = x.store;
  objects = x.objects;
  variables = x.variables;
  functions = x.functions;
  frame = refl;
}

pub later_kept : IsKeptByFlatRules FlatLater
later_kept = record {
  none = λ z. steps (λ y. y) z (anew_kept.none z.state) refl refl refl refl refl;
  both = both_later;
  charge = λ n z. steps (λ y. base.charged n y) z (anew_kept.charge n z.state) refl refl refl refl refl;
  words = words_later;
  store = λ o z. stored_later o z z.captured (no_functions z.state.store z.captured);
  function = λ procedure cs z. stored_later (function procedure) z _ (new_function z.state.store cs z.captured);
  change = changed_later;
  print = λ c z. steps (λ (y : State). record y { printed = y.printed ++ c ∷ [] }) z (anew_kept.print c z.state) refl refl refl refl refl;
  exit = λ z. steps (λ y. base.exit_made y) z (anew_kept.exit z.state) refl refl refl refl refl;
  symbol = λ z. steps (λ (y : State). record y { symbols = y.symbols + 1 }) z (anew_kept.symbol z.state) refl refl refl refl refl;
  input = λ z. stays (anew_kept.input (other_bytes z.state.input) z.state) (last_of_rest z.state.input) (le_refl z.state.heap)
      (le_refl (length z.state.variables)) refl refl refl refl;
  values = λ vs z. stays (anew_kept.values vs z.state) (last_of_itself z.state.input) (le_refl z.state.heap)
      (omega (arith, length-append z.state.variables vs)) refl refl refl refl;
  set = λ i v z.
      let e : length (slice_set z.state.variables i v) ≡ length z.state.variables = length-changed z.state.variables i v in
      stays (anew_kept.set i v z.state) (last_of_itself z.state.input) (le_refl z.state.heap) (omega (arith, e)) refl refl refl refl;
  globals = λ now z. steps (λ (y : State). record y { globals = now }) z (anew_kept.globals now z.state) refl refl refl refl refl;
  dynamics = λ now z. steps (λ (y : State). record y { dynamics = now }) z (anew_kept.dynamics now z.state) refl refl refl refl refl;
  slot = λ n s z. stays (anew_kept.none z.state) (last_of_itself z.state.input) (le_refl z.state.heap)
      (le_refl (length z.state.variables)) refl refl refl (length-changed z.frame n s);
  given_back = given_back_later;
  slots = slots_later;
  own_frame = own_frame_later;
}
