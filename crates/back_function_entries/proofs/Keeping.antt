-- The call of a method is kept: its words are requested and stored, and all stands with one call more.
use Rattle.std.proofs.Common.{◌≡◌, ◌⊎◌, inl, inr, ℕ, zero, suc, ◌+◌, ◌*◌, ◌<◌, ◌≤◌, List, [], ◌∷◌, ◌++◌, length, Some, refl, ap, ◌∙◌, subst, arith}
use Rattle.std.specs.Prelude.{slice_get, slice_index_or}
use Rattle.base.specs.Names.{slice_get-front, slice_get-behind, slice_get-push}
use Rattle.lang_meaning.specs.Objects.{Called}
use Rattle.lang_meaning.specs.State.{with_words}
use Rattle.lang_meaning.specs.Values.{Value, nil}
use Rattle.flat_language.specs.FlatNodes.{tables}
use Rattle.flat_language.specs.FlatState.{FlatState, on_state, charged}
use Rattle.mid_code.specs.Arena.{Arena, begin_of, stack_from, left, word_at}
use Rattle.mid_code.specs.State.{MidState}
use Rattle.mid_arena.specs.Growing.{Grows}
use Rattle.mid_arena.specs.Places.{Spot, Places, Owner, spot_of, with_other, WordsOf}
use Rattle.mid_arena.specs.Standing.{ValueAt, SameWords}
use Rattle.mid_arena.proofs.Growing.{words_grown}
use Rattle.mid_arena.proofs.Keeping.{as_many_words}
use Rattle.mid_arena.proofs.Making.{begun_heap, begun_blocks, begun_word}
use Rattle.mid_arena.proofs.Memory.{room_below}
use Rattle.mid_arena.proofs.OwnWords.{begun_state, begun_state_grows, represents_begun, old_spot_beside}
use Rattle.mid_arena.proofs.Representing.{represents_same}
use Rattle.back_lowering.specs.ControlWords.{current_address, link_address, handlers_address, bindings_address, end_address}
use Rattle.back_relation.specs.Setting.{Setting}
use Rattle.back_relation.specs.Chains.{ChainAt, ChainTakes}
use Rattle.back_relation.specs.Placed.{IsPlaced}
use Rattle.back_relation.specs.Worlds.{World, BoxPlace, on_heap, on_stack, gone, Later}
use Rattle.back_relation.specs.Things.{Things, WithinLimit, BoxStands, MethodStands}
use Rattle.back_relation.specs.Ends.{ControlBack, ChargedFrom, WorldKept}
use Rattle.back_relation.proofs.Cuts.{later_cut}
use Rattle.back_relation.proofs.Fresh.{fresh_from}
use Rattle.back_relation.proofs.Worlds.{word_later}
use Rattle.back_relation.proofs.Boxes.{stack_stays}
use Rattle.back_values.proofs.Cleaning.{cleaned, is_clean, things_cleaned}
use Rattle.back_values.proofs.Moved.{KeepsBox, box_moves, method_moves, functions_move, literals_move, symbols_move, further_moves, control_moves, word_moves, serials_move, globals_move, dynamics_move}
use Rattle.back_values.proofs.NewBoxes.{others_late}

-- the words of values stand where each word is stored
value_stored :
    (places : Places) (a : Arena) (address : ℕ) (vs : List Value) (ws : List ℕ) (i : ℕ) → WordsOf places vs ws → i < length vs
    → ((w : ℕ) → slice_get ws i ≡ Some w → word_at a address ≡ Some w) → ValueAt places a address (slice_index_or vs i nil)
value_stored places a address [] ws i h low stand = absurd (omega arith)
value_stored places a address (v ∷ vs) [] i h low stand = absurd h
value_stored places a address (v ∷ vs) (w ∷ ws) zero h low stand = record { word = w; of_value = h.0; stands = stand w refl }
value_stored places a address (v ∷ vs) (w ∷ ws) (suc i) h low stand = value_stored places a address vs ws i h.1 (omega arith) stand

-- the state of the meaning where so many words were charged
abbrev pub kept_charged : ℕ → FlatState → FlatState
kept_charged size z = charged size (on_state (λ x. with_words size 0 x) z)

module _ (setting : Setting) (placed : IsPlaced setting) {w : World} {z : FlatState} {y : MidState} (t : Things setting w z y) (c : Called) (chain : ℕ) (ws : List ℕ)
    (chain_at : ChainAt setting chain c.rest) (takes : ChainTakes setting (length c.arguments) c.rest) (are : WordsOf w.places c.arguments ws) (cost : ℕ)
    (room : 2 + length c.arguments ≤ left y.arena) (within : WithinLimit setting.limit (kept_charged (2 + length c.arguments) z).state) where
  abbrev pub size : ℕ
  size = 2 + length c.arguments

  abbrev pub kept_words : List ℕ
  kept_words = chain ∷ length c.arguments ∷ ws

  abbrev pub kept_spot : Spot
  kept_spot = record { address = y.arena.heap_to; words = size; tag = 0 }

  abbrev pub kept_world : World
  kept_world = record (cleaned setting t) { places = with_other kept_spot w.places; methods = w.methods ++ (y.arena.heap_to, c) ∷ [] }

  abbrev pub kept_state : MidState
  kept_state = begun_state y size kept_words (y.cost + cost)

  abbrev z' : FlatState
  z' = kept_charged size z

  few : length kept_words ≤ size
  few = let many = as_many_words w.places c.arguments ws are in omega (arith, many)

  pub kept_grows : Grows y.arena kept_state.arena
  kept_grows = begun_state_grows setting.names (tables setting.program) w.places z.state y t.represents size kept_words room few (y.cost + cost)

  pub kept_blocks : kept_state.arena.blocks ≡ y.arena.blocks
  kept_blocks = begun_blocks size kept_words y.arena

  stack_same : stack_from kept_state.arena ≡ stack_from y.arena
  stack_same = ap (λ n. begin_of n kept_state.arena.blocks) kept_grows.heap.size ∙ ap (begin_of (length y.arena.memory)) kept_blocks

  t1 : Things setting (cleaned setting t) z y
  t1 = things_cleaned setting t

  later1 : Later (cleaned setting t) kept_world
  later1 = record {
    spots = λ p s e. old_spot_beside kept_spot w.places p s e;
    boxes = λ i a e. e;
    methods = λ i m e. slice_get-front w.methods ((y.arena.heap_to, c) ∷ []) i m e;
    exit_forms = λ x o e. e;
    none_new = λ i a e. e;
  }

  later : Later w kept_world
  later =
      let cut = later_cut (stack_from y.arena) w in
      record { spots = later1.spots; boxes = cut.boxes; methods = later1.methods; exit_forms = λ x o e. e; none_new = cut.none_new }

  abbrev All : Owner → Type 0
  All p = Unit {0}

  same : (p : Owner) (s : Spot) → All p → spot_of w.places p ≡ Some s → SameWords y.arena kept_state.arena s
  same p s stays e = words_grown y.arena kept_state.arena s kept_grows.heap t.represents.arena (t.represents.spots p s e)

  keeps : (i : ℕ) (b : BoxPlace) → slice_get (cleaned setting t).boxes i ≡ Some b → KeepsBox setting kept_state t1 later1 All same b
  keeps i (on_heap x) e = λ k. tt
  keeps i (on_stack x) e = let low = is_clean setting t i x e in kept_grows.stack x low (omega (arith, low, stack_same))
  keeps i gone e = tt

  box_stands : (i : ℕ) (b : BoxPlace) → slice_get kept_world.boxes i ≡ Some b → BoxStands setting kept_world z'.state kept_state.arena i b
  box_stands i b e = box_moves setting kept_state t1 later1 All same i b z'.state refl (keeps i b e) (t1.boxes i b e)

  new_method : MethodStands setting kept_world kept_state.arena y.arena.heap_to c
  new_method = record {
    spot = record { number = length w.places.others; late = others_late setting t; there = slice_get-behind w.places.others kept_spot };
    chain = chain;
    chain_word = begun_word size kept_words y.arena.heap_to 0 chain t.represents.arena room few (omega arith) refl;
    chain_stands = chain_at;
    takes = takes;
    count = begun_word size kept_words (y.arena.heap_to + 4) 1 (length c.arguments) t.represents.arena room few (omega arith) refl;
    arguments = λ i inside.
        let old = value_stored w.places kept_state.arena (y.arena.heap_to + 8 + 4 * i) c.arguments ws i are inside
        (λ word found. begun_word size kept_words (y.arena.heap_to + 8 + 4 * i) (suc (suc i)) word t.represents.arena room few (omega arith) found) in
        record { word = old.word; of_value = word_later later (slice_index_or c.arguments i nil) old.word old.of_value; stands = old.stands };
  }

  method_stands : (i a : ℕ) (called : Called) → slice_get kept_world.methods i ≡ Some (a, called) → MethodStands setting kept_world kept_state.arena a called
  method_stands i a called e = by (slice_get-push w.methods (y.arena.heap_to, c) i (a, called) e)
    where
      by : (slice_get w.methods i ≡ Some (a, called)) ⊎ ((i ≡ length w.methods) × ◌≡◌ {A = ℕ × Called} (y.arena.heap_to, c) (a, called)) → MethodStands setting kept_world kept_state.arena a called
      by (inl f) = method_moves setting kept_state t1 later1 All same a called (λ k late there. tt) (t1.methods i a called f)
      by (inr f) = subst (λ (m : ℕ × Called). MethodStands setting kept_world kept_state.arena m.0 m.1) f.1 new_method

  pub kept_things : Things setting kept_world z' kept_state
  kept_things = record {
    represents =
        represents_same setting.names (tables setting.program) kept_world.places z.state z'.state kept_state refl refl refl refl
        (represents_begun setting.names (tables setting.program) w.places z.state y t.represents size kept_words room few (y.cost + cost) 0 (omega arith) (omega arith));
    within_limit = within;
    control = control_moves setting kept_state t1 later1 All same;
    further = λ i x e. further_moves setting kept_state t1 later1 All same i x tt e;
    serials = let s = t1.serials in (s.0, serials_move setting kept_state t1 later1 All same tt s.0 s.1, s.2, s.3);
    globals = λ n has. globals_move setting kept_state t1 later1 All same tt placed n has;
    dynamics = λ n has. dynamics_move setting kept_state t1 later1 All same tt placed n has;
    literals = literals_move setting kept_state t1 later1 All same;
    symbols = symbols_move setting kept_state t1 later1 All same;
    laid_symbols = t.laid_symbols;
    fresh_symbols = fresh_from (λ i serial e. e) refl kept_grows.heap.heap_to t.fresh_symbols;
    box_count = t1.box_count;
    boxes_apart = record { heap = λ i j a e f. t1.boxes_apart.heap i j a e f; stack = λ i j a e f. t1.boxes_apart.stack i j a e f };
    boxes = box_stands;
    methods = method_stands;
    exit_forms = t1.exit_forms;
    functions = λ i p s e f. functions_move setting kept_state t1 later1 All same (λ i. tt) i p s e f;
    captured = t1.captured;
    generics = t1.generics;
  }

  pub kept_whole : WorldKept setting w kept_world z z' y kept_state
  kept_whole = record {
    later = later;
    things = kept_things;
    stack = record {
      words = λ x low high plain. kept_grows.stack x low high;
      bindings = λ i a e low high. stack_stays (stack_from y.arena) i a w.boxes e low;
    };
    end = λ n e. word_moves setting kept_state t1 later1 All same tt end_address n (omega arith) (omega arith) e;
    more_exits = omega arith;
    same_size = kept_grows.heap.size;
  }

  pub kept_control : ControlBack y kept_state
  kept_control = record {
    current = λ n e. word_moves setting kept_state t1 later1 All same tt current_address n (omega arith) (omega arith) e;
    link = λ n e. word_moves setting kept_state t1 later1 All same tt link_address n (omega arith) (omega arith) e;
    handlers = λ n e. word_moves setting kept_state t1 later1 All same tt handlers_address n (omega arith) (omega arith) e;
    bindings = λ n e. word_moves setting kept_state t1 later1 All same tt bindings_address n (omega arith) (omega arith) e;
  }

  pub kept_taken : ChargedFrom z y z' kept_state
  kept_taken =
      let heap = begun_heap size kept_words y.arena in
      let below = room_below size t.represents.arena room in
      omega (arith, stack_same, heap, below)
