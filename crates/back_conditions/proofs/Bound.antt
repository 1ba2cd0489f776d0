-- New dynamic bindings: their cells stand in front of those outside, and their values are variables of the state.
use Rattle.std.proofs.Common.{◌≡◌, ℕ, zero, suc, ◌+◌, ◌*◌, ◌/◌, ◌%◌, ◌<◌, ◌≤◌, Bool, true, List, [], ◌∷◌, ◌++◌, length, Option, Some, None, refl, sym, ap, ◌∙◌, subst, arith}
use Rattle.std.specs.Prelude.{slice_get, slice_index_or}
use Rattle.std.proofs.Math.ListN.{length-set, length-append}
use Rattle.std.proofs.lemmas.Option.{slice_get_within}
use Rattle.lang_meaning.specs.declared.scope.ExitForm.{ExitForm}
use Rattle.lang_meaning.specs.declared.program.LiteralRow.{LiteralRow}
use Rattle.lang_meaning.specs.declared.program.LiteralRow.TheVariants as row
use Rattle.lang_meaning.specs.Objects.{Called}
use Rattle.lang_meaning.specs.Lookup.{numbered}
use Rattle.lang_meaning.specs.State.{Limit, words, unlimited}
use Rattle.lang_meaning.specs.Values.{Value, nil}
use Rattle.flat_language.specs.FlatForm.{FlatDynamics, no_dynamic, dynamic_and}
use Rattle.flat_language.specs.FlatMeaning.{bound_names}
use Rattle.flat_language.specs.FlatNodes.{tables, count_dynamics}
use Rattle.flat_language.specs.FlatState.{Captured, of_value, of_box, of_exit, of_method, FlatState, with_values}
use Rattle.mid_code.specs.Arena.{Arena, stack_from, is_lent, word_at, with_word}
use Rattle.mid_code.specs.State.{MidState}
use Rattle.mid_arena.specs.Places.{Spot}
use Rattle.mid_arena.specs.Standing.{ValueAt}
use Rattle.mid_arena.proofs.Memory.{lent_with_word}
use Rattle.mid_arena.proofs.Representing.{represents_same}
use Rattle.back_lowering.specs.ControlWords.{binding_variable, binding_value, binding_outer, binding_words}
use Rattle.back_relation.specs.Setting.{Setting}
use Rattle.back_relation.specs.Placed.{PlacedDynamics}
use Rattle.back_relation.specs.Worlds.{World, BoxPlace, on_heap, on_stack, gone, Plain}
use Rattle.back_relation.specs.StackWords.{BindingsAt}
use Rattle.back_relation.specs.Things.{Things, WithinLimit, MadeBy, AreMadeBy, CapturedIs, CapturedAt, TakenSpot, BoxStands, MethodStands, FunctionStands, LiteralIs}
use Rattle.back_relation.specs.Stores.{stores, Aligned, Differs}
use Rattle.back_relation.proofs.Windows.{stored_here}
use Rattle.back_conditions.proofs.Finding.{before_more}
use Rattle.back_conditions.proofs.Cells.{variable_word, outer_cell, cell_words}

-- ---- items of lists in two parts

pub data FrontOrBehind {X : Type 0} (xs ys : List X) (i : ℕ) (x : X) : Type 0 where
  at_front : slice_get xs i ≡ Some x → FrontOrBehind xs ys i x
  at_back : (j : ℕ) → i ≡ length xs + j → slice_get ys j ≡ Some x → FrontOrBehind xs ys i x

pub front_or_behind : {X : Type 0} (xs ys : List X) (i : ℕ) (x : X) → slice_get (xs ++ ys) i ≡ Some x → FrontOrBehind xs ys i x
front_or_behind [] ys i x e = at_back i (omega arith) e
front_or_behind (z ∷ xs) ys zero x e = at_front e
front_or_behind (z ∷ xs) ys (suc i) x e = by (front_or_behind xs ys i x e)
  where
    by : FrontOrBehind xs ys i x → FrontOrBehind (z ∷ xs) ys (suc i) x
    by (at_front f) = at_front f
    by (at_back j same f) = at_back j (omega (arith, same)) f

index_front : {X : Type 0} (xs ys : List X) (i : ℕ) (d : X) → i < length xs → slice_index_or (xs ++ ys) i d ≡ slice_index_or xs i d
index_front [] ys i d h = absurd (omega (arith, h))
index_front (x ∷ xs) ys zero d h = refl
index_front (x ∷ xs) ys (suc i) d h = index_front xs ys i d (omega (arith, h))

index_back : {X : Type 0} (xs ys : List X) (i j : ℕ) (d : X) → i ≡ length xs + j → slice_index_or (xs ++ ys) i d ≡ slice_index_or ys j d
index_back [] ys i j d e = let same : i ≡ j = omega (arith, e) in ap (λ n. slice_index_or ys n d) same
index_back (x ∷ xs) ys zero j d e = absurd (omega (arith, e))
index_back (x ∷ xs) ys (suc i) j d e = index_back xs ys i j d (omega (arith, e))

-- ---- all things with new variables, whose values stand at places

module _ (setting : Setting) {w : World} {z : FlatState} {y : MidState} (t : Things setting w z y) (places : List BoxPlace) (vs : List Value) where
  abbrev pub bound_world : World
  bound_world = record w { boxes = w.boxes ++ places }

  -- each place is on the stack and has the value; no two are the same, and none is an old one
  pub record AreBound : Type 0 where
    pub each : (i : ℕ) (p : BoxPlace) → slice_get places i ≡ Some p → (x : ℕ) × (p ≡ on_stack x) × ValueAt w.places y.arena x (slice_index_or vs i nil)
    pub apart : (i j x : ℕ) → slice_get places i ≡ Some (on_stack x) → slice_get places j ≡ Some (on_stack x) → i ≡ j
    pub fresh : (i j x : ℕ) → slice_get w.boxes i ≡ Some (on_stack x) → slice_get places j ≡ Some (on_stack x) → ⊥
    pub many : length places ≡ length vs

  module _ (b : AreBound) where
    taken : (x count : ℕ) → TakenSpot setting w x count → TakenSpot setting bound_world x count
    taken x count k = record { number = k.number; late = k.late; there = k.there }

    value_front : (i : ℕ) (x : ℕ) → i < length w.boxes → ValueAt w.places y.arena x (slice_index_or z.state.variables i nil) → ValueAt w.places y.arena x (slice_index_or (z.state.variables ++ vs) i nil)
    value_front i x low at =
        subst (λ v. ValueAt w.places y.arena x v) (sym (index_front z.state.variables vs i nil (let many = t.box_count in omega (arith, low, many)))) at

    box_stands : (i : ℕ) (p : BoxPlace) → FrontOrBehind w.boxes places i p → BoxStands setting bound_world (with_values vs z).state y.arena i p
    box_stands i (on_heap x) (at_front e) =
        let old = t.boxes i (on_heap x) e in (value_front i x (slice_get_within w.boxes i (on_heap x) e) old.0, taken x 1 old.1)
    box_stands i (on_stack x) (at_front e) = value_front i x (slice_get_within w.boxes i (on_stack x) e) (t.boxes i (on_stack x) e)
    box_stands i gone (at_front e) = tt
    box_stands i (on_heap x) (at_back j same e) = let new = b.each j (on_heap x) e in absurd (cc new.1)
    box_stands i (on_stack x) (at_back j same e) =
        let new = b.each j (on_stack x) e in
        let one : x ≡ new.0 = cc new.1 in
        subst (λ v. ValueAt w.places y.arena x v) (sym (index_back z.state.variables vs i j nil (let many = t.box_count in omega (arith, same, many))))
        (subst (λ p. ValueAt w.places y.arena p (slice_index_or vs j nil)) (sym one) new.2)
    box_stands i gone (at_back j same e) = tt

    made_by : (cs : List Captured) (forms : List (Option ExitForm)) → AreMadeBy w cs forms → AreMadeBy bound_world cs forms
    made_by [] [] h = tt
    made_by [] (f ∷ fs) h = h
    made_by (c ∷ cs) [] h = h
    made_by (c ∷ cs) (f ∷ fs) h = (one c h.0, made_by cs fs h.1)
      where
        one : (c : Captured) → MadeBy w c f → MadeBy bound_world c f
        one (of_exit (Some e)) k = k
        one (of_exit None) k = tt
        one (of_value v) k = tt
        one (of_box o) k = tt
        one (of_method o) k = tt

    captured_is : (word : ℕ) (c : Captured) → CapturedIs w word c → CapturedIs bound_world word c
    captured_is word (of_value v) h = h
    captured_is word (of_box (Some i)) h = before_more w.boxes places i (on_heap word) h
    captured_is word (of_box None) h = h
    captured_is word (of_exit (Some e)) h = h
    captured_is word (of_exit None) h = h
    captured_is word (of_method None) h = h
    captured_is word (of_method (Some called)) h = h

    captured_at : (x : ℕ) (cs : List Captured) → CapturedAt w y.arena x cs → CapturedAt bound_world y.arena x cs
    captured_at x [] h = tt
    captured_at x (c ∷ cs) h = ((h.0.0, h.0.1, captured_is h.0.0 c h.0.2), captured_at (x + 4) cs h.1)

    function_stands : (s : Spot) (p : ℕ) (o : Option (List Captured)) → FunctionStands setting w y.arena s p o → FunctionStands setting bound_world y.arena s p o
    function_stands s p (Some cs) h = record {
      row = h.row;
      there = h.there;
      kinds = h.kinds;
      forms = h.forms;
      lead = h.lead;
      made_by = made_by cs h.forms h.made_by;
      size = h.size;
      number = h.number;
      captured = captured_at (s.address + 8) cs h.captured;
    }
    function_stands s p None h = h

    method_stands : (x : ℕ) (called : Called) → MethodStands setting w y.arena x called → MethodStands setting bound_world y.arena x called
    method_stands x called h = record {
      spot = taken x (2 + length called.arguments) h.spot;
      chain = h.chain;
      chain_word = h.chain_word;
      chain_stands = h.chain_stands;
      takes = h.takes;
      count = h.count;
      arguments = h.arguments;
    }

    literal_is : (i : ℕ) (l : LiteralRow) (word : ℕ) → LiteralIs setting w i l word → LiteralIs setting bound_world i l word
    literal_is i (row.Datum d) word h = h
    literal_is i (row.Class c) word h = h
    literal_is i (row.Function name) word h = h

    stack_apart : (i j x : ℕ) → FrontOrBehind w.boxes places i (on_stack x) → FrontOrBehind w.boxes places j (on_stack x) → i ≡ j
    stack_apart i j x (at_front e) (at_front f) = t.boxes_apart.stack i j x e f
    stack_apart i j x (at_front e) (at_back m same f) = absurd (b.fresh i m x e f)
    stack_apart i j x (at_back n same e) (at_front f) = absurd (b.fresh j n x f e)
    stack_apart i j x (at_back n one e) (at_back m two f) = let same = b.apart n m x e f in omega (arith, same, one, two)

    heap_front : (i x : ℕ) → FrontOrBehind w.boxes places i (on_heap x) → slice_get w.boxes i ≡ Some (on_heap x)
    heap_front i x (at_front e) = e
    heap_front i x (at_back j same e) = let new = b.each j (on_heap x) e in absurd (cc new.1)

    -- **all things stand**
    pub things_bound : Things setting bound_world (with_values vs z) y
    things_bound = record {
      represents = represents_same setting.names (tables setting.program) w.places z.state (with_values vs z).state y refl refl refl refl t.represents;
      within_limit = limit setting.limit t.within_limit;
      control = t.control;
      further = t.further;
      serials = t.serials;
      globals = t.globals;
      dynamics = t.dynamics;
      literals = λ i l e. literal_is i l _ (t.literals i l e);
      symbols = t.symbols;
      laid_symbols = t.laid_symbols;
      fresh_symbols = t.fresh_symbols;
      box_count = length-append w.boxes places ∙ counts ∙ sym (length-append z.state.variables vs);
      boxes_apart = record {
        heap = λ i j x e f.
            t.boxes_apart.heap i j x (heap_front i x (front_or_behind w.boxes places i (on_heap x) e)) (heap_front j x (front_or_behind w.boxes places j (on_heap x) f));
        stack = λ i j x e f. stack_apart i j x (front_or_behind w.boxes places i (on_stack x) e) (front_or_behind w.boxes places j (on_stack x) f);
      };
      boxes = λ i p e. box_stands i p (front_or_behind w.boxes places i p e);
      methods = λ i x called e. method_stands x called (t.methods i x called e);
      exit_forms = t.exit_forms;
      functions = λ i p s e f. function_stands s p _ (t.functions i p s e f);
      captured = t.captured;
      generics = t.generics;
    }
      where
        counts : length w.boxes + length places ≡ length z.state.variables + length vs
        counts = omega (arith, t.box_count, b.many)

        limit : (l : Limit) → WithinLimit l z.state → WithinLimit l (with_values vs z).state
        limit unlimited h = tt
        limit (words m) h = h

-- ---- the cells

-- where the values of new bindings stand
abbrev pub cell_places : (address offset : ℕ) → FlatDynamics → List BoxPlace
cell_places address offset no_dynamic = []
cell_places address offset (dynamic_and n f ds) = on_stack (address + offset + binding_value) ∷ cell_places address (offset + 4 * binding_words) ds

pub place_count : (address offset : ℕ) (ds : FlatDynamics) → length (cell_places address offset ds) ≡ count_dynamics ds
place_count address offset no_dynamic = refl
place_count address offset (dynamic_and n f ds) = let inner = place_count address (offset + 4 * binding_words) ds in omega (arith, inner)

pub record PlaceIs (address offset count i : ℕ) (p : BoxPlace) : Type 0 where
  pub same : p ≡ on_stack (address + offset + 12 * i + binding_value)
  pub few : i < count

pub place_is : (address offset : ℕ) (ds : FlatDynamics) (i : ℕ) (p : BoxPlace) → slice_get (cell_places address offset ds) i ≡ Some p → PlaceIs address offset (count_dynamics ds) i p
place_is address offset no_dynamic i p e = absurd (cc e)
place_is address offset (dynamic_and n f ds) zero p e =
    let same : on_stack (address + offset + binding_value) ≡ p = cc e in
    let at : address + offset + binding_value ≡ address + offset + 12 * 0 + binding_value = omega arith in
    record { same = sym same ∙ ap on_stack at; few = omega arith }
place_is address offset (dynamic_and n f ds) (suc i) p e =
    let inner = place_is address (offset + 4 * binding_words) ds i p e in
    let at : address + (offset + 4 * binding_words) + 12 * i + binding_value ≡ address + offset + 12 * suc i + binding_value = omega arith in
    record { same = inner.same ∙ ap on_stack at; few = omega (arith, inner.few) }

-- the address on the stack is told by its place
pub stack_same : (x p : ℕ) → on_stack x ≡ on_stack p → x ≡ p
stack_same x p e = cc e

module _ (setting : Setting) (address outer size : ℕ) (aligned : address % 4 ≡ 0) where
  -- no word in front of the cells is stored
  pub cells_differ :
      (ds : FlatDynamics) (ws : List ℕ) (offset x : ℕ) (rest : List (ℕ × ℕ)) → x < address + offset → Differs x rest → Differs x (cell_words setting address outer offset ds ws ++ rest)
  cells_differ no_dynamic ws offset x rest low h = h
  cells_differ (dynamic_and n f ds) [] offset x rest low h = h
  cells_differ (dynamic_and n f ds) (w ∷ ws) offset x rest low h =
      (λ e. omega (arith, e, low), (λ e. omega (arith, e, low), (λ e. omega (arith, e, low), cells_differ ds ws (offset + 4 * binding_words) x rest (omega (arith, low)) h)))

  pub cells_aligned :
      (ds : FlatDynamics) (ws : List ℕ) (offset : ℕ) (rest : List (ℕ × ℕ)) → offset % 4 ≡ 0 → Aligned rest → Aligned (cell_words setting address outer offset ds ws ++ rest)
  cells_aligned no_dynamic ws offset rest even h = h
  cells_aligned (dynamic_and n f ds) [] offset rest even h = h
  cells_aligned (dynamic_and n f ds) (w ∷ ws) offset rest even h =
      (omega (arith, aligned, even), (omega (arith, aligned, even), (omega (arith, aligned, even), cells_aligned ds ws (offset + 4 * binding_words) rest (omega (arith, even)) h)))

  -- the block's words are lent, and there
  pub record AreLent (m : Arena) : Type 0 where
    pub lent : (k : ℕ) → k < size → k % 4 ≡ 0 → is_lent m (address + k) ≡ true
    pub there : (k : ℕ) → k < size → (address + k) / 4 < length m.memory

  lent_on : (m : Arena) (x w : ℕ) → AreLent m → AreLent (with_word x w m)
  lent_on m x w h = record {
    lent = λ k few e. lent_with_word m x w (address + k) ∙ h.lent k few e;
    there = λ k few. subst (λ n. (address + k) / 4 < n) (sym (length-set m.memory (x / 4) (Some w))) (h.there k few);
  }

  lent_here : (m : Arena) (offset k : ℕ) → AreLent m → offset + k < size → offset % 4 ≡ 0 → k % 4 ≡ 0 → is_lent m (address + offset + k) ≡ true
  lent_here m offset k h few e f =
      let same : address + (offset + k) ≡ address + offset + k = omega arith in
      subst (λ x. is_lent m x ≡ true) same (h.lent (offset + k) few (omega (arith, e, f)))

  there_here : (m : Arena) (offset k : ℕ) → AreLent m → offset + k < size → (address + offset + k) / 4 < length m.memory
  there_here m offset k h few =
      let same : address + (offset + k) ≡ address + offset + k = omega arith in
      subst (λ x. x / 4 < length m.memory) same (h.there (offset + k) few)

  -- one cell, and the arena where it was stored
  abbrev after_cell : (n offset w next : ℕ) → Arena → Arena
  after_cell n offset w next m =
      with_word (address + offset + binding_outer) next
      (with_word (address + offset + binding_value) w (with_word (address + offset + binding_variable) (variable_word setting n) m))

  lent_after : (n offset w next : ℕ) (m : Arena) → AreLent m → AreLent (after_cell n offset w next m)
  lent_after n offset w next m h = lent_on _ (address + offset + binding_outer) next (lent_on _ (address + offset + binding_value) w (lent_on m (address + offset + binding_variable) (variable_word setting n) h))

  record CellSays (n offset w next : ℕ) (qs : List (ℕ × ℕ)) (m : Arena) : Type 0 where
    variable : word_at (stores qs (after_cell n offset w next m)) (address + offset + binding_variable) ≡ Some (variable_word setting n)
    bound : word_at (stores qs (after_cell n offset w next m)) (address + offset + binding_value) ≡ Some w
    behind : word_at (stores qs (after_cell n offset w next m)) (address + offset + binding_outer) ≡ Some next

  cell_says :
      (n offset w next : ℕ) (qs : List (ℕ × ℕ)) (m : Arena) → AreLent m → offset + 12 ≤ size → offset % 4 ≡ 0 → Aligned qs
      → ((x : ℕ) → address ≤ x → x < address + offset + 12 → Differs x qs) → CellSays n offset w next qs m
  cell_says n offset w next qs m h few even al other = record {
    variable =
        stored_here [] ((address + offset + binding_value, w) ∷ (address + offset + binding_outer, next) ∷ qs) (address + offset + binding_variable) (variable_word setting n) m
        (lent_here m offset binding_variable h (omega (arith, few)) even refl) (there_here m offset binding_variable h (omega (arith, few)))
        (omega (arith, aligned, even), (omega (arith, aligned, even), al))
        (λ e. omega (arith, e), (λ e. omega (arith, e), other (address + offset + binding_variable) (omega arith) (omega arith)));
    bound =
        stored_here ((address + offset + binding_variable, variable_word setting n) ∷ []) ((address + offset + binding_outer, next) ∷ qs) (address + offset + binding_value) w m
        (lent_here m offset binding_value h (omega (arith, few)) even refl) (there_here m offset binding_value h (omega (arith, few)))
        (omega (arith, aligned, even), al) (λ e. omega (arith, e), other (address + offset + binding_value) (omega arith) (omega arith));
    behind =
        stored_here ((address + offset + binding_variable, variable_word setting n) ∷ (address + offset + binding_value, w) ∷ []) qs (address + offset + binding_outer) next m
        (lent_here m offset binding_outer h (omega (arith, few)) even refl) (there_here m offset binding_outer h (omega (arith, few))) al
        (other (address + offset + binding_outer) (omega arith) (omega arith));
  }

  module _ (rest : List (ℕ × ℕ)) (rest_aligned : Aligned rest) (rest_other : (x : ℕ) → address ≤ x → x < address + size → Differs x rest) where
    here_says :
        (n offset w : ℕ) (ds : FlatDynamics) (ws : List ℕ) (m : Arena) → AreLent m → offset + 12 ≤ size → offset % 4 ≡ 0
        → CellSays n offset w (outer_cell setting address outer (offset + 4 * binding_words) ds) (cell_words setting address outer (offset + 4 * binding_words) ds ws ++ rest) m
    here_says n offset w ds ws m h few even =
        cell_says n offset w (outer_cell setting address outer (offset + 4 * binding_words) ds) (cell_words setting address outer (offset + 4 * binding_words) ds ws ++ rest) m h few even
        (cells_aligned ds ws (offset + 4 * binding_words) rest (omega (arith, even)) rest_aligned)
        (λ x low high. cells_differ ds ws (offset + 4 * binding_words) x rest (omega (arith, high)) (rest_other x low (omega (arith, high, few))))

    -- the word of each value stands in its cell
    pub values_stand :
        (ds : FlatDynamics) (ws : List ℕ) (offset : ℕ) (m b : Arena) → b ≡ stores (cell_words setting address outer offset ds ws ++ rest) m → length ws ≡ count_dynamics ds
        → offset + 12 * length ws ≤ size → offset % 4 ≡ 0 → AreLent m → (i w : ℕ) → slice_get ws i ≡ Some w
        → word_at b (address + offset + 12 * i + binding_value) ≡ Some w
    values_stand ds [] offset m b same many few even h i w e = absurd (cc e)
    values_stand no_dynamic (v ∷ ws) offset m b same many few even h i w e = absurd (omega (arith, many))
    values_stand (dynamic_and n f ds) (v ∷ ws) offset m b same many few even h zero w e =
        let one : v ≡ w = cc e in
        let at : address + offset + binding_value ≡ address + offset + 12 * 0 + binding_value = omega arith in
        ap (λ a. word_at a (address + offset + 12 * 0 + binding_value)) same
        ∙ subst (λ x. word_at (stores (cell_words setting address outer offset (dynamic_and n f ds) (v ∷ ws) ++ rest) m) x ≡ Some w) at
        ((here_says n offset v ds ws m h (omega (arith, few)) even).bound ∙ ap (λ x. Some x) one)
    values_stand (dynamic_and n f ds) (v ∷ ws) offset m b same many few even h (suc i) w e =
        let inner =
        values_stand ds ws (offset + 4 * binding_words) (after_cell n offset v (outer_cell setting address outer (offset + 4 * binding_words) ds) m) b same (omega (arith, many))
        (omega (arith, few)) (omega (arith, even)) (lent_after n offset v (outer_cell setting address outer (offset + 4 * binding_words) ds) m h) i w e
        in
        let at : address + (offset + 4 * binding_words) + 12 * i + binding_value ≡ address + offset + 12 * suc i + binding_value = omega arith in
        subst (λ x. word_at b x ≡ Some w) at inner

    -- **the cells stand in front of those outside**
    module _ (w1 : World) (y1 : MidState) (bs : List (List ℕ × ℕ)) (low : stack_from y1.arena ≤ address) (some : 1 ≤ address) (outside : BindingsAt setting w1 y1 outer bs)
        (plain : (j k : ℕ) → 12 * j + k < size → k < 12 → (k ≡ 4 → ⊥) → Plain w1 (address + 12 * j + k)) where
      pub bindings_stand :
          (keeps : Bool) (ds : FlatDynamics) (ws : List ℕ) (j offset number : ℕ) (m : Arena) → offset ≡ 12 * j
          → y1.arena ≡ stores (cell_words setting address outer offset ds ws ++ rest) m → length ws ≡ count_dynamics ds → offset + 12 * length ws ≤ size → AreLent m
          → PlacedDynamics setting keeps ds → ((i : ℕ) (p : BoxPlace) → slice_get (cell_places address offset ds) i ≡ Some p → slice_get w1.boxes (number + i) ≡ Some p)
          → BindingsAt setting w1 y1 (outer_cell setting address outer offset ds) (numbered (bound_names setting.names ds) number ++ bs)
      bindings_stand keeps no_dynamic ws j offset number m at same many few h names places = outside
      bindings_stand keeps (dynamic_and n f ds) [] j offset number m at same many few h names places = absurd (omega (arith, many))
      bindings_stand keeps (dynamic_and n f ds) (w ∷ ws) j offset number m at same many few h names places =
          let says = here_says n offset w ds ws m h (omega (arith, few)) (omega (arith, at)) in
          let next = outer_cell setting address outer (offset + 4 * binding_words) ds in (
            (n, refl, names.0, ap (λ b. word_at b (address + offset + binding_variable)) same ∙ says.variable),
            subst (λ i. slice_get w1.boxes i ≡ Some (on_stack (address + offset + binding_value))) (let e : number + 0 ≡ number = omega arith in e)
                (places 0 (on_stack (address + offset + binding_value)) refl),
            omega (arith, low),
            subst (λ x. Plain w1 x) (let e : address + 12 * j + 0 ≡ address + offset + binding_variable = omega (arith, at) in e) (plain j 0 (omega (arith, at, few)) (omega arith) (λ e. omega (arith, e))),
            subst (λ x. Plain w1 x) (let e : address + 12 * j + 8 ≡ address + offset + binding_outer = omega (arith, at) in e) (plain j 8 (omega (arith, at, few)) (omega arith) (λ e. omega (arith, e))),
            omega (arith, some),
            (
              next,
              ap (λ b. word_at b (address + offset + binding_outer)) same ∙ says.behind,
              bindings_stand keeps ds ws (suc j) (offset + 4 * binding_words) (number + 1) (after_cell n offset w next m) (omega (arith, at)) same (omega (arith, many))
                  (omega (arith, few)) (lent_after n offset w next m h) names.2
                  (λ i p e. subst (λ k. slice_get w1.boxes k ≡ Some p) (let k : number + suc i ≡ number + 1 + i = omega arith in k) (places (suc i) p e)),
            ),
          )
