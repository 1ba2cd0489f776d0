-- What words say goes on being said where objects are made or changed, and where a site is stored: what functions captured, the words that code
-- has for itself and the stack are as they were.
use Rattle.std.proofs.Common.{◌≡◌, ℕ, zero, suc, ◌+◌, ◌*◌, ◌<◌, ◌≤◌, List, [], ◌∷◌, length, Option, Some, None, refl, sym, ap, ◌∙◌, subst, arith}
use Rattle.std.specs.Prelude.{slice_get, slice_index_or}
use Rattle.std.proofs.lemmas.Option.{slice_get_within}
use Rattle.lang_meaning.specs.declared.program.LiteralRow.{LiteralRow}
use Rattle.lang_meaning.specs.declared.program.LiteralRow.TheVariants as row
use Rattle.lang_meaning.specs.Lookup.{text, value_at, under_text}
use Rattle.lang_meaning.specs.Objects.{Called, function, generic_function}
use Rattle.lang_meaning.specs.InitialHeap.{class_value, function_value, literal_value}
use Rattle.lang_meaning.specs.Values.{Value, nil, symbol, named}
use Rattle.lang_meaning.specs.State as meaning
use Rattle.flat_language.specs.FlatNodes.{tables}
use Rattle.flat_language.specs.FlatState.{Captured, of_value, of_box, of_exit, of_method, FlatState, under}
use Rattle.mid_code.specs.Arena.{Arena, begin_of, stack_from, word_at}
use Rattle.mid_code.specs.State.{Registers, MidState}
use Rattle.mid_arena.specs.Places.{Spot, Places, Owner, of_object, of_other, spot_of}
use Rattle.mid_arena.specs.Represents.{Represents}
use Rattle.mid_arena.specs.Standing.{ValueAt, SlotAt, SameWords, SameStack}
use Rattle.back_lowering.specs.ControlWords.{control_address, control_words, current_address, link_address, serials_address, handlers_address, bindings_address, site_address, end_address}
use Rattle.back_lowering.specs.Placement.{literal_word, symbol_word, global_address, dynamic_address}
use Rattle.back_relation.specs.Setting.{Setting, spots_at_start}
use Rattle.back_relation.specs.Placed.{IsVariableWord, IsPlaced}
use Rattle.back_relation.specs.Worlds.{World, BoxPlace, on_heap, on_stack, gone, Later}
use Rattle.back_relation.specs.Things.{Things, FreshCounted, TakenSpot, WithinLimit, CapturedIs, CapturedAt, BoxStands, MethodStands, FunctionStands, LiteralIs}
use Rattle.back_relation.specs.Activation.{RegistersKept}
use Rattle.back_relation.specs.Ends.{ControlBack, ChargedFrom, PaidFrom, WorldKept}
use Rattle.back_relation.specs.Cuts.{world_cut}
use Rattle.back_relation.specs.Starts.{Start, ReachedFrom}
use Rattle.back_relation.proofs.Activations.{SameBelow, made_by_later, activation_later}
use Rattle.back_relation.proofs.Cuts.{later_cut}
use Rattle.back_relation.proofs.Worlds.{word_later, Same}
use Rattle.back_relation.proofs.Boxes.{cut_count, heap_was, stack_above, stack_stays}

-- Where functions stand, in the spots that code took for itself in the run and behind all objects, in the control words and those of variables but
-- for the site's, and in the control records that stood and still stand, the words are as they were.
pub record KeepsMost (setting : Setting) (places : Places) (z : meaning.State) (earlier later : Arena) : Type 0 where
  pub functions :
      (i p : ℕ) (s : Spot) → slice_get z.store i ≡ Some (function p) → spot_of places (of_object i) ≡ Some s → SameWords earlier later s
  pub others : (n : ℕ) (s : Spot) → spot_of places (of_other (suc (suc n))) ≡ Some s → SameWords earlier later s
  pub control :
      (x : ℕ) → control_address ≤ x → x < control_address + 4 * (control_words + setting.variable_words) → (x ≡ site_address → ⊥)
      → word_at later x ≡ word_at earlier x
  pub stack : SameStack earlier later

-- a state of the meaning that is represented behind another one, where at most objects were made or changed
pub record StandsBehind (setting : Setting) (w : World) (z : FlatState) (y : MidState) (places : Places) (z2 : meaning.State) (y2 : MidState) : Type 0 where
  pub represents : Represents setting.names (tables setting.program) places z2 y2
  pub spots : (p : Owner) (s : Spot) → spot_of w.places p ≡ Some s → spot_of places p ≡ Some s
  pub kept : KeepsMost setting w.places z.state y.arena y2.arena
  pub within : WithinLimit setting.limit z2
  pub variables : z2.variables ≡ z.state.variables
  pub globals : z2.globals ≡ z.state.globals
  pub dynamics : z2.dynamics ≡ z.state.dynamics
  pub exits : z2.exits ≡ z.state.exits
  pub laid_symbols : places.symbols ≡ w.places.symbols
  pub fresh_symbols : FreshCounted z2.store z2.symbols y2.arena.heap_to
  pub functions :
      (i p : ℕ) (s : Spot) → slice_get z2.store i ≡ Some (function p) → spot_of places (of_object i) ≡ Some s
      → (slice_get z.state.store i ≡ Some (function p)) × (spot_of w.places (of_object i) ≡ Some s)
  -- an object that was a function still is
  pub still : (i p : ℕ) → slice_get z.state.store i ≡ Some (function p) → slice_get z2.store i ≡ Some (function p)
  pub generics : (i g : ℕ) → slice_get z2.store i ≡ Some (generic_function g) → slice_get z.state.store i ≡ Some (generic_function g)
  pub size : length y2.arena.memory ≡ length y.arena.memory
  pub blocks : y2.arena.blocks ≡ y.arena.blocks

two_at_start : (ws : List ℕ) → 2 ≤ spots_at_start ws
two_at_start [] = omega arith
two_at_start (w ∷ ws) = omega arith

-- the world behind, where only bindings on the stack that stands are left
abbrev pub world_behind : World → Arena → Places → World
world_behind w a places = record (world_cut (stack_from a) w) { places = places }

module _ (setting : Setting) (placed : IsPlaced setting) {w : World} {z : FlatState} {y : MidState} (t : Things setting w z y)
    {places : Places} {z2 : meaning.State} {y2 : MidState} (b : StandsBehind setting w z y places z2 y2) where
  abbrev w2 : World
  w2 = world_behind w y.arena places

  abbrev from : ℕ
  from = stack_from y.arena

  same_from : stack_from y2.arena ≡ from
  same_from = ap (λ n. begin_of n y2.arena.blocks) b.size ∙ ap (begin_of (length y.arena.memory)) b.blocks

  pub later_behind : Later w w2
  later_behind =
      let cut = later_cut from w in
      record { spots = b.spots; boxes = cut.boxes; methods = λ i m e. e; exit_forms = λ x o e. e; none_new = cut.none_new }

  own_word : (n : ℕ) (s : Spot) → 2 ≤ n → spot_of w.places (of_other n) ≡ Some s → SameWords y.arena y2.arena s
  own_word zero s low e = absurd (omega arith)
  own_word (suc zero) s low e = absurd (omega arith)
  own_word (suc (suc n)) s low e = b.kept.others n s e

  taken_word : (x count : ℕ) → TakenSpot setting w x count → (p : ℕ) → x ≤ p → p < x + 4 * count → word_at y2.arena p ≡ word_at y.arena p
  taken_word x count k p low high =
      own_word k.number (record { address = x; words = count; tag = 0 }) (omega (arith, two_at_start setting.further, k.late)) k.there p low high

  taken : (x count : ℕ) → TakenSpot setting w x count → TakenSpot setting w2 x count
  taken x count k =
      record { number = k.number; late = k.late; there = b.spots (of_other k.number) (record { address = x; words = count; tag = 0 }) k.there }

  value_behind : (x : ℕ) (v : Value) → word_at y2.arena x ≡ word_at y.arena x → ValueAt w.places y.arena x v → ValueAt places y2.arena x v
  value_behind x v same h = record { word = h.word; of_value = word_later later_behind v h.word h.of_value; stands = same ∙ h.stands }

  slot_behind : (x : ℕ) (o : Option Value) → word_at y2.arena x ≡ word_at y.arena x → SlotAt w.places y.arena x o → SlotAt places y2.arena x o
  slot_behind x None same h = same ∙ h
  slot_behind x (Some v) same h = value_behind x v same h

  -- the value of a variable
  variable_behind : (i x : ℕ) → word_at y2.arena x ≡ word_at y.arena x → ValueAt w.places y.arena x (value_at (Some i) z.state) → ValueAt places y2.arena x (value_at (Some i) z2)
  variable_behind i x same h =
      subst (λ vs. ValueAt places y2.arena x (slice_index_or vs i nil)) (sym b.variables) (value_behind x (value_at (Some i) z.state) same h)

  box_behind : (i : ℕ) (o : BoxPlace) → slice_get w2.boxes i ≡ Some o → BoxStands setting w2 z2 y2.arena i o
  box_behind i (on_heap x) e =
      let old = t.boxes i (on_heap x) (heap_was from i x w.boxes e) in
      (variable_behind i x (taken_word x 1 old.1 x (omega arith) (omega arith)) old.0, taken x 1 old.1)
  box_behind i (on_stack x) e =
      let low = stack_above from i x w.boxes e in
      variable_behind i x (b.kept.stack x low (omega (arith, low, same_from))) (t.boxes i (on_stack x) (later_behind.none_new i x e))
  box_behind i gone e = tt

  captured_is : (word : ℕ) (c : Captured) → CapturedIs w word c → CapturedIs w2 word c
  captured_is word (of_value v) h = word_later later_behind v word h
  captured_is word (of_box (Some i)) h = later_behind.boxes i word h
  captured_is word (of_box None) h = h
  captured_is word (of_exit (Some e)) h = h
  captured_is word (of_exit None) h = h
  captured_is word (of_method None) h = h
  captured_is word (of_method (Some called)) h = h

  captured_behind :
      (x : ℕ) (cs : List Captured) → ((p : ℕ) → x ≤ p → p < x + 4 * length cs → word_at y2.arena p ≡ word_at y.arena p)
      → CapturedAt w y.arena x cs → CapturedAt w2 y2.arena x cs
  captured_behind x [] same h = tt
  captured_behind x (c ∷ cs) same h = (
    (h.0.0, same x (omega arith) (omega arith) ∙ h.0.1, captured_is h.0.0 c h.0.2),
    captured_behind (x + 4) cs (λ p low high. same p (omega arith) (omega (arith, high))) h.1,
  )

  function_behind :
      (s : Spot) (p : ℕ) (o : Option (List Captured)) → SameWords y.arena y2.arena s → 2 ≤ s.words → FunctionStands setting w y.arena s p o
      → FunctionStands setting w2 y2.arena s p o
  function_behind s p (Some cs) same some f = record {
    row = f.row;
    there = f.there;
    kinds = f.kinds;
    forms = f.forms;
    lead = f.lead;
    made_by = made_by_later later_behind cs f.forms f.made_by;
    size = f.size;
    number = same (s.address + 4) (omega arith) (omega (arith, some)) ∙ f.number;
    captured = captured_behind (s.address + 8) cs (λ q low high. same q (omega arith) (omega (arith, f.size, high))) f.captured;
  }
  function_behind s p None same some f =
      record { row = f.row; there = f.there; number = same (s.address + 4) (omega arith) (omega (arith, some)) ∙ f.number }

  method_behind : (a : ℕ) (called : Called) → MethodStands setting w y.arena a called → MethodStands setting w2 y2.arena a called
  method_behind a called m = record {
    spot = taken a (2 + length called.arguments) m.spot;
    chain = m.chain;
    chain_word = taken_word a (2 + length called.arguments) m.spot a (omega arith) (omega arith) ∙ m.chain_word;
    chain_stands = m.chain_stands;
    takes = m.takes;
    count = taken_word a (2 + length called.arguments) m.spot (a + 4) (omega arith) (omega arith) ∙ m.count;
    arguments = λ i few.
        value_behind (a + 8 + 4 * i) (slice_index_or called.arguments i nil)
        (taken_word a (2 + length called.arguments) m.spot (a + 8 + 4 * i) (omega arith) (omega (arith, few))) (m.arguments i few);
  }

  literal_behind : (i : ℕ) (l : LiteralRow) (word : ℕ) → LiteralIs setting w i l word → LiteralIs setting w2 i l word
  literal_behind i (row.Datum d) word h = word_later later_behind (literal_value setting.names (tables setting.program) i d) word h
  literal_behind i (row.Class c) word h = word_later later_behind (class_value setting.names (tables setting.program) c) word h
  literal_behind i (row.Function name) word h =
      λ f e. word_later later_behind (function_value setting.names (tables setting.program) (text setting.names name.0)) word (h f e)

  -- a control word but the site's
  pub control_same : (x : ℕ) → control_address ≤ x → x < control_address + 4 * control_words → (x ≡ site_address → ⊥) → word_at y2.arena x ≡ word_at y.arena x
  control_same x low high other = b.kept.control x low (omega (arith, high)) other

  -- **what words say goes on being said**
  pub things_behind : Things setting w2 (record z { state = z2 }) y2
  things_behind = record {
    represents = b.represents;
    within_limit = b.within;
    control = b.spots (of_other 1) _ t.control;
    further = λ i word e.
        let old = t.further i word e in
        let few : i < length setting.further = slice_get_within setting.further i word e in (
          b.spots (of_other 2) _ old.0,
          own_word 2 _ (omega arith) old.0 (setting.further_at + 4 * i) (omega arith) (omega (arith, few)) ∙ old.1,
        );
    serials = (
      t.serials.0,
      control_same serials_address (omega arith) (omega arith) (λ e. absurd (omega arith)) ∙ t.serials.1,
      t.serials.2 ∙ sym b.exits,
      t.serials.3,
    );
    globals = λ n has.
        let at : IsVariableWord setting (global_address setting.at n) = placed.globals.there n has in
        subst (λ gs. SlotAt places y2.arena (global_address setting.at n) (under_text (text setting.names n) gs)) (sym b.globals)
        (slot_behind (global_address setting.at n) _
        (b.kept.control (global_address setting.at n) (omega (arith, has)) at.below (λ e. omega (arith, has, e))) (t.globals n has));
    dynamics = λ n has.
        let at : IsVariableWord setting (dynamic_address setting.at n) = placed.dynamics.there n has in
        subst (λ gs. SlotAt places y2.arena (dynamic_address setting.at n) (under_text (text setting.names n) gs)) (sym b.dynamics)
        (slot_behind (dynamic_address setting.at n) _
        (b.kept.control (dynamic_address setting.at n) (omega (arith, has)) at.below (λ e. omega (arith, has, e))) (t.dynamics n has));
    literals = λ i l e. literal_behind i l (literal_word setting.at i) (t.literals i l e);
    symbols = λ n has. word_later later_behind (symbol (named (text setting.names n))) (symbol_word setting.at n) (t.symbols n has);
    laid_symbols = b.laid_symbols ∙ t.laid_symbols;
    fresh_symbols = b.fresh_symbols;
    box_count = cut_count from w.boxes ∙ t.box_count ∙ ap length (sym b.variables);
    boxes_apart = record {
      heap = λ i j a e f. t.boxes_apart.heap i j a (heap_was from i a w.boxes e) (heap_was from j a w.boxes f);
      stack = λ i j a e f. t.boxes_apart.stack i j a (later_behind.none_new i a e) (later_behind.none_new j a f);
    };
    boxes = box_behind;
    methods = λ i a called e. method_behind a called (t.methods i a called e);
    exit_forms = t.exit_forms ∙ sym b.exits;
    functions = λ i p s e f.
        let old = b.functions i p s e f in
        let size = (t.represents.objects i (function p) s old.0 old.1).words in
        function_behind s p (under i z.captured) (b.kept.functions i p s old.0 old.1) size (t.functions i p s old.0 old.1);
    captured = λ i cs e. let old = t.captured i cs e in (old.0, b.still i old.0 old.1, old.2, b.spots (of_object i) old.2 old.3);
    generics = λ i g e. t.generics i g (b.generics i g e);
  }

  pub world_kept_behind : WorldKept setting w w2 z (record z { state = z2 }) y y2
  world_kept_behind = record {
    later = later_behind;
    things = things_behind;
    stack = record {
      words = λ x low high plain. b.kept.stack x low high;
      bindings = λ i a e low high. stack_stays from i a w.boxes e low;
    };
    end = λ n e. control_same end_address (omega arith) (omega arith) (λ e. absurd (omega arith)) ∙ e;
    more_exits = omega (arith, b.exits);
    same_size = b.size;
  }

  pub control_behind : ControlBack y y2
  control_behind = record {
    current = λ n e. control_same current_address (omega arith) (omega arith) (λ e. absurd (omega arith)) ∙ e;
    link = λ n e. control_same link_address (omega arith) (omega arith) (λ e. absurd (omega arith)) ∙ e;
    handlers = λ n e. control_same handlers_address (omega arith) (omega arith) (λ e. absurd (omega arith)) ∙ e;
    bindings = λ n e. control_same bindings_address (omega arith) (omega arith) (λ e. absurd (omega arith)) ∙ e;
  }

  pub same_behind : Same w w2 y y2
  same_behind = record { blocks = b.blocks; size = b.size; stack = world_kept_behind.stack }

-- **from a point to the one behind**, where registers from the first one on were set
pub reached_behind :
    (setting : Setting) (placed : IsPlaced setting) {credit : ℕ} (a : Start setting) {places : Places} {z2 : meaning.State} {regs : Registers} {y2 : MidState}
    → StandsBehind setting a.w a.z a.y places z2 y2 → SameBelow a.d a.regs regs → RegistersKept a.s.code a.d a.regs regs
    → ChargedFrom a.z a.y (record a.z { state = z2 }) y2 → PaidFrom credit a.z a.y (record a.z { state = z2 }) y2
    → ReachedFrom setting credit a a.d (world_behind a.w a.y.arena places) (record a.z { state = z2 }) regs y2
reached_behind setting placed a {places} {z2} {regs} {y2} b below kept charged paid = record {
  kept = record {
    world = world_kept_behind setting placed a.begins.call.things b;
    activation =
        activation_later setting {d = a.d} {y = a.y} {y' = y2} (later_behind setting placed a.begins.call.things b)
        (same_behind setting placed a.begins.call.things b) refl (λ n cs k. k) below a.begins.scope a.begins.activation;
    registers = kept;
  };
  back = record {
    control = control_behind setting placed a.begins.call.things b;
    blocks = b.blocks;
    charged = charged;
    paid = paid;
  };
}
