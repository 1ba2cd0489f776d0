-- The value in a box is another one.
use Rattle.std.proofs.Common.{◌≡◌, ℕ, zero, suc, ◌+◌, ◌*◌, ◌/◌, ◌<◌, ◌≤◌, Bool, true, false, List, [], ◌∷◌, length, Some, refl, sym, ap, ◌∙◌, subst, arith}
use Rattle.std.specs.Prelude.{slice_get, ◌==◌}
use Rattle.std.proofs.lemmas.Bool.{ne_eqb}
use Rattle.std.proofs.lemmas.Bool.Decides.{nat_tests}
use Rattle.std.proofs.lemmas.List.{get_or-set_same, get_or-set_other}
use Rattle.std.proofs.lemmas.Option.{slice_get_within}
use Rattle.std.proofs.Math.ListN.{length-set}
use Rattle.lang_meaning.specs.Lookup.{set_at, value_at}
use Rattle.lang_meaning.specs.Values.{Value, nil}
use Rattle.lang_meaning.specs.State.{Limit, words, unlimited}
use Rattle.flat_language.specs.FlatNodes.{tables}
use Rattle.flat_language.specs.FlatState.{FlatState, on_state}
use Rattle.mid_code.specs.Arena.{is_lent, word_at, with_word}
use Rattle.mid_code.specs.State.{MidState, with_arena}
use Rattle.mid_code.specs.State.{charged as mid_charged}
use Rattle.mid_arena.specs.Growing.{Changes}
use Rattle.mid_arena.specs.Law.{KeepsOthers}
use Rattle.mid_arena.specs.Places.{Spot, Owner, of_other, same_owner, spot_of, word_of}
use Rattle.mid_arena.specs.Represents.{Represents}
use Rattle.mid_arena.specs.Standing.{SpotStands, SameWords}
use Rattle.mid_arena.proofs.Growing.{spot_below}
use Rattle.mid_arena.proofs.Memory.{in_spot_lent, in_spot_there, word_here, word_elsewhere}
use Rattle.mid_arena.proofs.OwnWords.{changes_in_spot, own_words}
use Rattle.mid_arena.proofs.Representing.{represents_same}
use Rattle.back_lowering.specs.ControlWords.{current_address, link_address, handlers_address, bindings_address, end_address}
use Rattle.back_relation.specs.Setting.{Setting, spots_at_start}
use Rattle.back_relation.specs.Placed.{IsPlaced}
use Rattle.back_relation.specs.Worlds.{World, BoxPlace, on_heap, on_stack, gone, BoxIs}
use Rattle.back_relation.specs.Things.{Things, WithinLimit, TakenSpot, BoxStands}
use Rattle.back_relation.specs.Ends.{WorldKept, Around}
use Rattle.back_relation.proofs.Worlds.{later_same}
use Rattle.back_values.specs.Boxes.{Clean}
use Rattle.back_values.proofs.Moved.{KeepsBox, box_moves, method_moves, functions_move, further_moves, word_moves, serials_move, globals_move, dynamics_move}

-- spots that code took are none of the first ones
pub late_two : (ws : List ℕ) (n : ℕ) → spots_at_start ws ≤ n → 2 ≤ n
late_two [] n h = h
late_two (w ∷ ws) n h = omega (arith, h)

pub late_three : (ws : List ℕ) (i word n : ℕ) → slice_get ws i ≡ Some word → spots_at_start ws ≤ n → 3 ≤ n
late_three [] i word n e h = absurd (cc e)
late_three (w ∷ ws) i word n e h = h

one_behind : (n : ℕ) → 2 ≤ n → (m : ℕ) × (n ≡ suc m)
one_behind zero h = absurd (omega arith)
one_behind (suc m) h = (m, refl)

-- one variable has another value, and the places of all others are as they were
module _ (setting : Setting) {w : World} {z : FlatState} {y : MidState} (y' : MidState) (t : Things setting w z y) (Stays : Owner → Type 0)
    (same : (p : Owner) (s : Spot) → Stays p → spot_of w.places p ≡ Some s → SameWords y.arena y'.arena s) (i : ℕ) (place : BoxPlace) (box : slice_get w.boxes i ≡ Some place) (v : Value) where
  few : i < length z.state.variables
  few = omega (arith, t.box_count, slice_get_within w.boxes i place box)

  pub boxes_stand :
      (value_at (Some i) (set_at (Some i) v z.state) ≡ v → BoxStands setting w (set_at (Some i) v z.state) y'.arena i place)
      → ((j : ℕ) (b : BoxPlace) → (i ≡ j → ⊥) → slice_get w.boxes j ≡ Some b → KeepsBox setting y' t (later_same w) Stays same b)
      → (j : ℕ) (b : BoxPlace) → slice_get w.boxes j ≡ Some b → BoxStands setting w (set_at (Some i) v z.state) y'.arena j b
  boxes_stand new keeps j b e = by (i == j) refl
    where
      by : (k : Bool) → (i == j) ≡ k → BoxStands setting w (set_at (Some i) v z.state) y'.arena j b
      by true g =
          let at : i ≡ j = grind (arith, nat_tests) in
          let here : place ≡ b = cc (sym box ∙ ap (slice_get w.boxes) at ∙ e) in
          subst (λ c. BoxStands setting w (set_at (Some i) v z.state) y'.arena j c) here
          (subst (λ k. BoxStands setting w (set_at (Some i) v z.state) y'.arena k place) at (new (get_or-set_same z.state.variables i v nil few)))
      by false g =
          let other : i ≡ j → ⊥ = λ at. absurd (grind (arith, nat_tests)) in
          box_moves setting y' t (later_same w) Stays same j b (set_at (Some i) v z.state) (get_or-set_other z.state.variables i j v nil (λ at. other (sym at))) (keeps j b other e) (t.boxes j b e)

module _ (setting : Setting) (placed : IsPlaced setting) {w : World} {z : FlatState} {y : MidState} (t : Things setting w z y) (clean : Clean w y) (i x : ℕ) (box : BoxIs w i x)
    (v : Value) (word cost : ℕ) (is : word_of w.places v ≡ Some word) where
  taken : TakenSpot setting w x 1
  taken = (t.boxes i (on_heap x) box).1

  abbrev spot : Spot
  spot = record { address = x; words = 1; tag = 0 }

  stands : SpotStands y.arena spot
  stands = t.represents.spots (of_other taken.number) spot taken.there

  pub box_lent : is_lent y.arena x ≡ true
  box_lent = in_spot_lent x stands stands.aligned (omega arith) (omega arith)

  below : x + 4 ≤ y.arena.heap_to
  below = let low = spot_below t.represents.arena stands in omega (arith, low)

  abbrev pub set_state : MidState
  set_state = with_arena (with_word x word y.arena) (mid_charged cost y)

  abbrev pub set_meant : FlatState
  set_meant = on_state (λ s. set_at (Some i) v s) z

  changes : Changes spot y.arena set_state.arena
  changes = changes_in_spot x word t.represents.arena stands stands.aligned (omega arith) (omega arith)

  moved : Represents setting.names (tables setting.program) w.places z.state set_state × KeepsOthers w.places (of_other taken.number) y.arena set_state.arena
  moved =
      let n = one_behind taken.number (late_two setting.further taken.number taken.late) in
      subst (λ k. Represents setting.names (tables setting.program) w.places z.state set_state × KeepsOthers w.places (of_other k) y.arena set_state.arena) (sym n.1)
      (own_words setting.names (tables setting.program) w.places z.state y set_state n.0 spot t.represents
      (subst (λ k. slice_get w.places.others k ≡ Some spot) n.1 taken.there) changes (record { printed = refl; input = refl }))

  abbrev Stays : Owner → Type 0
  Stays p = same_owner p (of_other taken.number) ≡ false

  same : (p : Owner) (s : Spot) → Stays p → spot_of w.places p ≡ Some s → (q : ℕ) → s.address ≤ q → q < s.address + 4 * s.words → word_at set_state.arena q ≡ word_at y.arena q
  same p s stays e q low high = moved.1 p s stays e q low high

  other_number : (k : ℕ) → (k ≡ taken.number → ⊥) → Stays (of_other k)
  other_number k other = ne_eqb k taken.number other

  elsewhere : (q : ℕ) → (x ≡ q → ⊥) → word_at set_state.arena q ≡ word_at y.arena q
  elsewhere q other = word_elsewhere y.arena x word q stands.aligned (ne_eqb x q other)

  -- spots of one number are one spot
  one_spot : (k : ℕ) (s : Spot) → k ≡ taken.number → spot_of w.places (of_other k) ≡ Some s → s ≡ spot
  one_spot k s e there = cc (sym there ∙ ap (λ n. slice_get w.places.others n) e ∙ taken.there)

  keeps : (j : ℕ) (b : BoxPlace) → (i ≡ j → ⊥) → slice_get w.boxes j ≡ Some b → KeepsBox setting set_state t (later_same w) Stays same b
  keeps j (on_heap x') other e =
      λ k. other_number k.number (λ e'.
      let at : x' ≡ x = ap (λ (s : Spot). s.address) (one_spot k.number (record { address = x'; words = 1; tag = 0 }) e' k.there) in
      other (t.boxes_apart.heap i j x box (subst (λ a. slice_get w.boxes j ≡ Some (on_heap a)) at e)))
  keeps j (on_stack x') other e =
      let low = clean j x' e in
      elsewhere x' (λ at. omega (arith, at, low, below, t.represents.arena.room))
  keeps j gone other e = tt

  box_stands : (j : ℕ) (b : BoxPlace) → slice_get w.boxes j ≡ Some b → BoxStands setting w set_meant.state set_state.arena j b
  box_stands =
      boxes_stand setting set_state t Stays same i (on_heap x) box v
      (λ e. (
        record {
          word = word;
          of_value = ap (word_of w.places) e ∙ is;
          stands = word_here y.arena x word box_lent (in_spot_there x t.represents.arena stands (omega arith));
        },
        taken,
      ))
      keeps

  control_stays : Stays (of_other 1)
  control_stays = let late = late_two setting.further taken.number taken.late in other_number 1 (λ e. omega (arith, e, late))

  method_stays : (a count k : ℕ) → spot_of w.places (of_other k) ≡ Some (record { address = a; words = 2 + count; tag = 0 }) → Stays (of_other k)
  method_stays a count k e =
      other_number k (λ at.
      let size : 2 + count ≡ 1 = ap (λ (s : Spot). s.words) (one_spot k (record { address = a; words = 2 + count; tag = 0 }) at e) in
      omega (arith, size))

  pub things_set : Things setting w set_meant set_state
  things_set = record {
    represents = represents_same setting.names (tables setting.program) w.places z.state set_meant.state set_state refl refl refl refl moved.0;
    within_limit = limit setting.limit t.within_limit;
    control = t.control;
    further = λ j q e.
        let late = late_three setting.further j q taken.number e taken.late in
        further_moves setting set_state t (later_same w) Stays same j q (other_number 2 (λ at. omega (arith, at, late))) e;
    serials = let s = t.serials in (s.0, serials_move setting set_state t (later_same w) Stays same control_stays s.0 s.1, s.2, s.3);
    globals = λ n has. globals_move setting set_state t (later_same w) Stays same control_stays placed n has;
    dynamics = λ n has. dynamics_move setting set_state t (later_same w) Stays same control_stays placed n has;
    literals = t.literals;
    symbols = t.symbols;
    laid_symbols = t.laid_symbols;
    fresh_symbols = t.fresh_symbols;
    box_count = t.box_count ∙ sym (length-set z.state.variables i v);
    boxes_apart = t.boxes_apart;
    boxes = box_stands;
    methods = λ j a called e.
        method_moves setting set_state t (later_same w) Stays same a called (λ k late f. method_stays a (length called.arguments) k f) (t.methods j a called e);
    exit_forms = t.exit_forms;
    functions = λ j p s e f. functions_move setting set_state t (later_same w) Stays same (λ k. refl) j p s e f;
    captured = t.captured;
    generics = t.generics;
  }
    where
      limit : (l : Limit) → WithinLimit l z.state → WithinLimit l set_meant.state
      limit unlimited h = tt
      limit (words m) h = h

  pub world_set : WorldKept setting w w z set_meant y set_state
  world_set = record {
    later = later_same w;
    things = things_set;
    stack = record {
      words = λ q low high plain. elsewhere q (λ at. omega (arith, at, low, below, t.represents.arena.room));
      bindings = λ j a e low high. e;
    };
    end = λ n e. word_moves setting set_state t (later_same w) Stays same control_stays end_address n (omega arith) (omega arith) e;
    more_exits = omega arith;
    same_size = length-set y.arena.memory (x / 4) (Some word);
  }

  pub around_set : {credit : ℕ} → cost ≤ credit → Around setting credit z set_meant y set_state
  around_set cheap = record {
    control = record {
      current = λ n e. word_moves setting set_state t (later_same w) Stays same control_stays current_address n (omega arith) (omega arith) e;
      link = λ n e. word_moves setting set_state t (later_same w) Stays same control_stays link_address n (omega arith) (omega arith) e;
      handlers = λ n e. word_moves setting set_state t (later_same w) Stays same control_stays handlers_address n (omega arith) (omega arith) e;
      bindings = λ n e. word_moves setting set_state t (later_same w) Stays same control_stays bindings_address n (omega arith) (omega arith) e;
    };
    blocks = refl;
    charged = let size = length-set y.arena.memory (x / 4) (Some word) in omega (arith, size);
    paid = omega (arith, cheap);
  }
