-- The value in a dynamic binding is another one.
use Rattle.std.proofs.Common.{◌≡◌, ℕ, ◌+◌, ◌*◌, ◌/◌, ◌<◌, ◌≤◌, Bool, true, false, length, Some, None, refl, sym, ap, ◌∙◌, subst, arith}
use Rattle.std.specs.Prelude.{slice_get, if◌then◌else◌}
use Rattle.std.proofs.lemmas.Bool.{ne_eqb}
use Rattle.std.proofs.Math.ListN.{length-set}
use Rattle.lang_meaning.specs.Lookup.{set_at, value_at}
use Rattle.lang_meaning.specs.Values.{Value}
use Rattle.lang_meaning.specs.State.{Limit, words, unlimited}
use Rattle.flat_language.specs.FlatNodes.{tables}
use Rattle.flat_language.specs.FlatState.{FlatState, on_state}
use Rattle.mid_code.specs.Arena.{begin_of, stack_from, is_lent, word_in, word_at, with_word}
use Rattle.mid_code.specs.State.{MidState, with_arena}
use Rattle.mid_code.specs.State.{charged as mid_charged}
use Rattle.mid_arena.specs.Growing.{HeapGrows}
use Rattle.mid_arena.specs.Places.{Spot, Owner, spot_of, word_of}
use Rattle.mid_arena.specs.Standing.{ValueAt}
use Rattle.mid_arena.proofs.Growing.{spot_below}
use Rattle.mid_arena.proofs.Memory.{word_here, word_elsewhere}
use Rattle.mid_arena.proofs.Representing.{represents_same, represents_grown}
use Rattle.back_lowering.specs.ControlWords.{current_address, link_address, handlers_address, bindings_address, end_address}
use Rattle.back_relation.specs.Setting.{Setting}
use Rattle.back_relation.specs.Placed.{IsPlaced}
use Rattle.back_relation.specs.Worlds.{World, BoxPlace, on_heap, on_stack, gone}
use Rattle.back_relation.specs.Things.{Things, WithinLimit, BoxStands}
use Rattle.back_relation.specs.Ends.{WorldKept, Around}
use Rattle.back_relation.proofs.Worlds.{later_same}
use Rattle.back_values.specs.Boxes.{Clean}
use Rattle.back_values.proofs.Moved.{KeepsBox, method_moves, functions_move, further_moves, word_moves, serials_move, globals_move, dynamics_move}
use Rattle.back_values.proofs.SetBoxes.{boxes_stand}
use Rattle.back_conditions.proofs.Frames.{IsThere, word_there}

module _ (setting : Setting) (placed : IsPlaced setting) {w : World} {z : FlatState} {y : MidState} (t : Things setting w z y) (clean : Clean w y) (i x : ℕ)
    (box : slice_get w.boxes i ≡ Some (on_stack x)) (v : Value) (word cost : ℕ) (is : word_of w.places v ≡ Some word) where
  old : ValueAt w.places y.arena x (value_at (Some i) z.state)
  old = t.boxes i (on_stack x) box

  there : IsThere y.arena x
  there = word_there y.arena x old.word t.represents.arena old.stands

  pub cell_lent : is_lent y.arena x ≡ true
  cell_lent = by (is_lent y.arena x) old.stands
    where
      by : (b : Bool) → (if b then word_in (slice_get y.arena.memory (x / 4)) else None) ≡ Some old.word → b ≡ true
      by true e = refl
      by false e = absurd (cc e)

  above : y.arena.heap_to ≤ x
  above = let from = clean i x box in omega (arith, from, t.represents.arena.room)

  abbrev pub bound_state : MidState
  bound_state = with_arena (with_word x word y.arena) (mid_charged cost y)

  abbrev pub bound_meant : FlatState
  bound_meant = on_state (λ s. set_at (Some i) v s) z

  elsewhere : (q : ℕ) → (x ≡ q → ⊥) → word_at bound_state.arena q ≡ word_at y.arena q
  elsewhere q other = word_elsewhere y.arena x word q there.aligned (ne_eqb x q other)

  same_size : length bound_state.arena.memory ≡ length y.arena.memory
  same_size = length-set y.arena.memory (x / 4) (Some word)

  same_stack : stack_from bound_state.arena ≡ stack_from y.arena
  same_stack = ap (λ n. begin_of n y.arena.blocks) same_size

  heap_grows : HeapGrows y.arena bound_state.arena
  heap_grows = record {
    size = same_size;
    laid_from = refl;
    laid_to = refl;
    heap_from = refl;
    heap_to = omega arith;
    stands = record {
      size = omega (arith, same_size, t.represents.arena.size);
      laid = t.represents.arena.laid;
      heap = t.represents.arena.heap;
      aligned = t.represents.arena.aligned;
      room = omega (arith, same_stack, t.represents.arena.room);
      blocks = omega (arith, same_size, t.represents.arena.blocks);
    };
    words = λ q low. elsewhere q (λ e. omega (arith, e, low, above));
  }

  abbrev Stays : Owner → Type 0
  Stays p = Unit {0}

  same : (p : Owner) (s : Spot) → Stays p → spot_of w.places p ≡ Some s → (q : ℕ) → s.address ≤ q → q < s.address + 4 * s.words → word_at bound_state.arena q ≡ word_at y.arena q
  same p s stays e q low high =
      let below = spot_below t.represents.arena (t.represents.spots p s e) in
      elsewhere q (λ at. omega (arith, at, high, below, above))

  keeps : (j : ℕ) (b : BoxPlace) → (i ≡ j → ⊥) → slice_get w.boxes j ≡ Some b → KeepsBox setting bound_state t (later_same w) Stays same b
  keeps j (on_heap x') other e = λ k. tt
  keeps j (on_stack x') other e =
      elsewhere x' (λ at. other (t.boxes_apart.stack i j x box (subst (λ a. slice_get w.boxes j ≡ Some (on_stack a)) (sym at) e)))
  keeps j gone other e = tt

  box_stands : (j : ℕ) (b : BoxPlace) → slice_get w.boxes j ≡ Some b → BoxStands setting w bound_meant.state bound_state.arena j b
  box_stands =
      boxes_stand setting bound_state t Stays same i (on_stack x) box v
      (λ e. record {
        word = word;
        of_value = ap (word_of w.places) e ∙ is;
        stands = word_here y.arena x word cell_lent (let low = there.below in omega (arith, low));
      })
      keeps

  pub things_bound : Things setting w bound_meant bound_state
  things_bound = record {
    represents =
        represents_same setting.names (tables setting.program) w.places z.state bound_meant.state bound_state refl refl refl refl
        (represents_grown setting.names (tables setting.program) w.places z.state y t.represents bound_state heap_grows refl refl);
    within_limit = limit setting.limit t.within_limit;
    control = t.control;
    further = λ j q e. further_moves setting bound_state t (later_same w) Stays same j q tt e;
    serials = let s = t.serials in (s.0, serials_move setting bound_state t (later_same w) Stays same tt s.0 s.1, s.2, s.3);
    globals = λ n has. globals_move setting bound_state t (later_same w) Stays same tt placed n has;
    dynamics = λ n has. dynamics_move setting bound_state t (later_same w) Stays same tt placed n has;
    literals = t.literals;
    symbols = t.symbols;
    laid_symbols = t.laid_symbols;
    fresh_symbols = t.fresh_symbols;
    box_count = t.box_count ∙ sym (length-set z.state.variables i v);
    boxes_apart = t.boxes_apart;
    boxes = box_stands;
    methods = λ j a called e. method_moves setting bound_state t (later_same w) Stays same a called (λ k late f. tt) (t.methods j a called e);
    exit_forms = t.exit_forms;
    functions = λ j p s e f. functions_move setting bound_state t (later_same w) Stays same (λ k. tt) j p s e f;
    captured = t.captured;
    generics = t.generics;
  }
    where
      limit : (l : Limit) → WithinLimit l z.state → WithinLimit l bound_meant.state
      limit unlimited h = tt
      limit (words m) h = h

  pub world_bound : WorldKept setting w w z bound_meant y bound_state
  world_bound = record {
    later = later_same w;
    things = things_bound;
    stack = record {
      words = λ q low high plain. elsewhere q (λ at. plain i (subst (λ a. slice_get w.boxes i ≡ Some (on_stack a)) at box));
      bindings = λ j a e low high. e;
    };
    end = λ n e. word_moves setting bound_state t (later_same w) Stays same tt end_address n (omega arith) (omega arith) e;
    more_exits = omega arith;
    same_size = same_size;
  }

  pub around_bound : {credit : ℕ} → cost ≤ credit → Around setting credit z bound_meant y bound_state
  around_bound cheap = record {
    control = record {
      current = λ n e. word_moves setting bound_state t (later_same w) Stays same tt current_address n (omega arith) (omega arith) e;
      link = λ n e. word_moves setting bound_state t (later_same w) Stays same tt link_address n (omega arith) (omega arith) e;
      handlers = λ n e. word_moves setting bound_state t (later_same w) Stays same tt handlers_address n (omega arith) (omega arith) e;
      bindings = λ n e. word_moves setting bound_state t (later_same w) Stays same tt bindings_address n (omega arith) (omega arith) e;
    };
    blocks = refl;
    charged = let size = same_size in omega (arith, size, same_stack);
    paid = omega (arith, cheap);
  }
