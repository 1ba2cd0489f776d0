-- A new box: a word is requested, and the value is stored there.
use Rattle.std.proofs.Common.{◌≡◌, ◌⊎◌, inl, inr, ℕ, zero, suc, ◌+◌, ◌<◌, ◌≤◌, List, [], ◌∷◌, ◌++◌, length, Some, refl, sym, ap, ◌∙◌, subst, length-append, arith}
use Rattle.std.specs.Prelude.{slice_get, slice_index_or}
use Rattle.std.proofs.lemmas.Option.{slice_get_within}
use Rattle.base.specs.Names.{slice_get-front, slice_get-behind, slice_get-push}
use Rattle.lang_meaning.specs.Counts.{unit_cost}
use Rattle.lang_meaning.specs.Lookup.{value_at}
use Rattle.lang_meaning.specs.State.{Limit, words, unlimited, with_words}
use Rattle.lang_meaning.specs.Values.{Value, nil}
use Rattle.flat_language.specs.FlatNodes.{tables}
use Rattle.flat_language.specs.FlatState.{FlatState, on_state, charged}
use Rattle.mid_code.specs.Arena.{begin_of, stack_from, left}
use Rattle.mid_code.specs.State.{MidState}
use Rattle.mid_arena.specs.Growing.{Grows}
use Rattle.mid_arena.specs.Places.{Spot, Owner, of_other, spot_of, with_other, word_of}
use Rattle.mid_arena.specs.Standing.{SameWords}
use Rattle.mid_arena.proofs.Growing.{spot_below, words_grown}
use Rattle.mid_arena.proofs.Making.{begun_heap, begun_blocks, begun_word}
use Rattle.mid_arena.proofs.Memory.{room_below}
use Rattle.mid_arena.proofs.OwnWords.{begun_state, begun_state_grows, represents_begun, old_spot_beside}
use Rattle.mid_arena.proofs.Representing.{represents_same}
use Rattle.back_lowering.specs.ControlWords.{current_address, link_address, handlers_address, bindings_address, end_address}
use Rattle.back_relation.specs.Setting.{Setting, spots_at_start}
use Rattle.back_relation.specs.Placed.{IsPlaced}
use Rattle.back_relation.specs.Worlds.{World, BoxPlace, on_heap, on_stack, gone, Later, BoxesApart}
use Rattle.back_relation.specs.Things.{Things, WithinLimit, BoxStands}
use Rattle.back_relation.specs.Ends.{WorldKept, Around}
use Rattle.back_relation.proofs.Fresh.{fresh_from}
use Rattle.back_relation.proofs.Worlds.{word_later}
use Rattle.back_values.specs.Boxes.{Clean, extended}
use Rattle.back_values.proofs.Moved.{KeepsBox, box_moves, method_moves, functions_move, literals_move, symbols_move, further_moves, control_moves, word_moves, serials_move, globals_move, dynamics_move}

-- the state of the meaning where a word of a box was asked for
abbrev pub box_asked : FlatState → FlatState
box_asked z = charged 1 (on_state (λ x. with_words 1 0 x) z)

item_front : {X : Type 0} (xs : List X) (x e : X) (i : ℕ) → i < length xs → slice_index_or (xs ++ x ∷ []) i e ≡ slice_index_or xs i e
item_front [] x e i h = absurd (omega arith)
item_front (y ∷ xs) x e zero h = refl
item_front (y ∷ xs) x e (suc i) h = item_front xs x e i (omega arith)

item_behind : {X : Type 0} (xs : List X) (x e : X) → slice_index_or (xs ++ x ∷ []) (length xs) e ≡ x
item_behind [] x e = refl
item_behind (y ∷ xs) x e = item_behind xs x e

-- there are at least the spots of the start
pub others_late : (setting : Setting) {w : World} {z : FlatState} {y : MidState} → Things setting w z y → spots_at_start setting.further ≤ length w.places.others
others_late setting {w} t = by setting.further (λ i word e. (t.further i word e).0)
  where
    by :
        (ws : List ℕ) → ((i word : ℕ) → slice_get ws i ≡ Some word → spot_of w.places (of_other 2) ≡ Some (record { address = setting.further_at; words = length setting.further; tag = 0 }))
        → spots_at_start ws ≤ length w.places.others
    by [] h = let there = slice_get_within w.places.others 1 _ t.control in omega (arith, there)
    by (x ∷ ws) h = let there = slice_get_within w.places.others 2 _ (h 0 x refl) in omega (arith, there)

module _ (setting : Setting) (placed : IsPlaced setting) {w : World} {y : MidState} (vs : List Value) (z : FlatState) (t : Things setting w (extended vs z) y) (clean : Clean w y)
    (v : Value) (word cost : ℕ) (is : word_of w.places v ≡ Some word) (room : 1 ≤ left y.arena) (within : WithinLimit setting.limit (box_asked z).state)
    (cheap : cost ≤ unit_cost) where
  abbrev pub box_spot : Spot
  box_spot = record { address = y.arena.heap_to; words = 1; tag = 0 }

  abbrev pub box_world : World
  box_world = record w { places = with_other box_spot w.places; boxes = w.boxes ++ on_heap y.arena.heap_to ∷ [] }

  abbrev pub box_state : MidState
  box_state = begun_state y 1 (word ∷ []) (y.cost + cost)

  grows : Grows y.arena box_state.arena
  grows = begun_state_grows setting.names (tables setting.program) w.places (extended vs z).state y t.represents 1 (word ∷ []) room (omega arith) (y.cost + cost)

  stack_stays : stack_from box_state.arena ≡ stack_from y.arena
  stack_stays = ap (λ n. begin_of n box_state.arena.blocks) grows.heap.size ∙ ap (begin_of (length y.arena.memory)) (begun_blocks 1 (word ∷ []) y.arena)

  later : Later w box_world
  later = record {
    spots = λ p s e. old_spot_beside box_spot w.places p s e;
    boxes = λ i a e. slice_get-front w.boxes (on_heap y.arena.heap_to ∷ []) i (on_heap a) e;
    methods = λ i m e. e;
    exit_forms = λ x o e. e;
    none_new = λ i a e. old i a (slice_get-push w.boxes (on_heap y.arena.heap_to) i (on_stack a) e);
  }
    where
      old :
          (i a : ℕ) → (slice_get w.boxes i ≡ Some (on_stack a)) ⊎ ((i ≡ length w.boxes) × (on_heap y.arena.heap_to ≡ on_stack a))
          → slice_get w.boxes i ≡ Some (on_stack a)
      old i a (inl e) = e
      old i a (inr e) = absurd (cc e.1)

  abbrev All : Owner → Type 0
  All p = Unit {0}

  same : (p : Owner) (s : Spot) → All p → spot_of w.places p ≡ Some s → SameWords y.arena box_state.arena s
  same p s stays e = words_grown y.arena box_state.arena s grows.heap t.represents.arena (t.represents.spots p s e)

  -- an old box is in front of the new one
  in_front : (i a : ℕ) → slice_get w.boxes i ≡ Some (on_heap a) → a < y.arena.heap_to
  in_front i a e =
      let taken = (t.boxes i (on_heap a) e).1 in
      let below = spot_below t.represents.arena (t.represents.spots (of_other taken.number) _ taken.there) in
      omega (arith, below)

  abbrev Pushed : ℕ → ℕ → Type 0
  Pushed i a = (slice_get w.boxes i ≡ Some (on_heap a)) ⊎ ((i ≡ length w.boxes) × (on_heap y.arena.heap_to ≡ on_heap a))

  apart : BoxesApart box_world
  apart = record {
    heap = λ i j a e f. heap_apart i j a (slice_get-push w.boxes (on_heap y.arena.heap_to) i (on_heap a) e) (slice_get-push w.boxes (on_heap y.arena.heap_to) j (on_heap a) f);
    stack = λ i j a e f. t.boxes_apart.stack i j a (later.none_new i a e) (later.none_new j a f);
  }
    where
      heap_apart : (i j a : ℕ) → Pushed i a → Pushed j a → i ≡ j
      heap_apart i j a (inl e) (inl f) = t.boxes_apart.heap i j a e f
      heap_apart i j a (inl e) (inr f) = let at : y.arena.heap_to ≡ a = cc (f.1) in let low = in_front i a e in absurd (omega (arith, at, low))
      heap_apart i j a (inr e) (inl f) = let at : y.arena.heap_to ≡ a = cc (e.1) in let low = in_front j a f in absurd (omega (arith, at, low))
      heap_apart i j a (inr e) (inr f) = e.0 ∙ sym f.0

  abbrev all : List Value
  all = vs ++ v ∷ []

  abbrev z' : FlatState
  z' = extended all (box_asked z)

  keeps : (i : ℕ) (b : BoxPlace) → slice_get w.boxes i ≡ Some b → KeepsBox setting box_state t later All same b
  keeps i (on_heap x) e = λ k. tt
  keeps i (on_stack x) e = let low = clean i x e in grows.stack x low (omega (arith, low, stack_stays))
  keeps i gone e = tt

  new_box : BoxStands setting box_world z'.state box_state.arena (length w.boxes) (on_heap y.arena.heap_to)
  new_box = (
    record {
      word = word;
      of_value = ap (word_of box_world.places) here ∙ later_word;
      stands = begun_word 1 (word ∷ []) y.arena.heap_to 0 word t.represents.arena room (omega arith) (omega arith) refl;
    },
    record { number = length w.places.others; late = others_late setting t; there = slice_get-behind w.places.others box_spot },
  )
    where
      here : value_at (Some (length w.boxes)) z'.state ≡ v
      here = ap (λ n. slice_index_or all n nil) t.box_count ∙ item_behind vs v nil

      later_word : word_of box_world.places v ≡ Some word
      later_word = word_later later v word is

  box_stands : (i : ℕ) (b : BoxPlace) → slice_get box_world.boxes i ≡ Some b → BoxStands setting box_world z'.state box_state.arena i b
  box_stands i b e = by (slice_get-push w.boxes (on_heap y.arena.heap_to) i b e)
    where
      by :
          (slice_get w.boxes i ≡ Some b) ⊎ ((i ≡ length w.boxes) × (on_heap y.arena.heap_to ≡ b))
          → BoxStands setting box_world z'.state box_state.arena i b
      by (inl f) =
          let few = slice_get_within w.boxes i b f in
          box_moves setting box_state t later All same i b z'.state (item_front vs v nil i (omega (arith, few, t.box_count))) (keeps i b f) (t.boxes i b f)
      by (inr f) =
          subst (λ c. BoxStands setting box_world z'.state box_state.arena i c) f.1
          (subst (λ j. BoxStands setting box_world z'.state box_state.arena j (on_heap y.arena.heap_to)) (sym f.0) new_box)

  pub things_boxed : Things setting box_world z' box_state
  things_boxed = record {
    represents =
        represents_same setting.names (tables setting.program) box_world.places (extended vs z).state z'.state box_state refl refl refl refl
        (represents_begun setting.names (tables setting.program) w.places (extended vs z).state y t.represents 1 (word ∷ []) room (omega arith) (y.cost + cost) 0 (omega arith) (omega arith));
    within_limit = limit setting.limit within;
    control = control_moves setting box_state t later All same;
    further = λ i x e. further_moves setting box_state t later All same i x tt e;
    serials = let s = t.serials in (s.0, serials_move setting box_state t later All same tt s.0 s.1, s.2, s.3);
    globals = λ n has. globals_move setting box_state t later All same tt placed n has;
    dynamics = λ n has. dynamics_move setting box_state t later All same tt placed n has;
    literals = literals_move setting box_state t later All same;
    symbols = symbols_move setting box_state t later All same;
    laid_symbols = t.laid_symbols;
    fresh_symbols = fresh_from (λ i serial e. e) refl grows.heap.heap_to t.fresh_symbols;
    box_count = length-append w.boxes (on_heap y.arena.heap_to ∷ []) ∙ ap (λ n. n + 1) t.box_count ∙ sym (length-append vs (v ∷ []));
    boxes_apart = apart;
    boxes = box_stands;
    methods = λ i a called e. method_moves setting box_state t later All same a called (λ k late f. tt) (t.methods i a called e);
    exit_forms = t.exit_forms;
    functions = λ i p s e f. functions_move setting box_state t later All same (λ i. tt) i p s e f;
    captured = t.captured;
    generics = t.generics;
  }
    where
      limit : (l : Limit) → WithinLimit l (box_asked z).state → WithinLimit l z'.state
      limit unlimited h = tt
      limit (words m) h = h

  pub world_boxed : WorldKept setting w box_world (extended vs z) z' y box_state
  world_boxed = record {
    later = later;
    things = things_boxed;
    stack = record {
      words = λ x low high plain. grows.stack x low high;
      bindings = λ i a e low high. slice_get-front w.boxes (on_heap y.arena.heap_to ∷ []) i (on_stack a) e;
    };
    end = λ n e. word_moves setting box_state t later All same tt end_address n (omega arith) (omega arith) e;
    more_exits = omega arith;
    same_size = grows.heap.size;
  }

  pub around_boxed : Around setting 0 (extended vs z) z' y box_state
  around_boxed = record {
    control = record {
      current = λ n e. word_moves setting box_state t later All same tt current_address n (omega arith) (omega arith) e;
      link = λ n e. word_moves setting box_state t later All same tt link_address n (omega arith) (omega arith) e;
      handlers = λ n e. word_moves setting box_state t later All same tt handlers_address n (omega arith) (omega arith) e;
      bindings = λ n e. word_moves setting box_state t later All same tt bindings_address n (omega arith) (omega arith) e;
    };
    blocks = begun_blocks 1 (word ∷ []) y.arena;
    charged =
        let heap = begun_heap 1 (word ∷ []) y.arena in
        let below = room_below 1 t.represents.arena room in
        omega (arith, stack_stays, heap, below);
    paid = omega (arith, cheap);
  }

  pub clean_boxed : Clean box_world box_state
  clean_boxed i a e = let low = clean i a (later.none_new i a e) in omega (arith, low, stack_stays)

  pub box_is : slice_get box_world.boxes (length vs) ≡ Some (on_heap y.arena.heap_to)
  box_is = ap (slice_get box_world.boxes) (sym t.box_count) ∙ slice_get-behind w.boxes (on_heap y.arena.heap_to)
