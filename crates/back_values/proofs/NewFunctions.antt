-- A new function: its words are requested and stored, and what words say goes on being said with it.
use Rattle.std.proofs.Common.{◌≡◌, ◌⊎◌, inl, inr, ℕ, suc, ◌+◌, ◌*◌, ◌≤◌, Bool, true, false, List, [], ◌∷◌, ◌++◌, length, Option, Some, refl, sym, ap, ◌∙◌, subst, arith}
use Rattle.std.specs.Prelude.{◌==◌, slice_get, if◌then◌else◌}
use Rattle.std.proofs.lemmas.Bool.{eq-eqb, ne_eqb}
use Rattle.std.proofs.lemmas.Option.{slice_get_within}
use Rattle.base.specs.Names.{slice_get-front, slice_get-behind, slice_get-push}
use Rattle.std.proofs.lemmas.Bool.Decides.{nat_tests}
use Rattle.lang_meaning.specs.declared.scope.ExitForm.{ExitForm}
use Rattle.lang_meaning.specs.Objects.{Object, function, generic_function}
use Rattle.lang_meaning.specs.State.{State, Limit, words, unlimited, with_words, stored}
use Rattle.lang_meaning.specs.State as base
use Rattle.lang_meaning.specs.Values.{object}
use Rattle.lang_meaning.specs.Counts.{unit_cost}
use Rattle.flat_language.specs.declared.program.FlatProcedure.{FlatProcedure}
use Rattle.flat_language.specs.FlatNodes.{tables}
use Rattle.flat_language.specs.FlatState.{Captured, FlatState, on_state, under}
use Rattle.mid_code.specs.Arena.{begin_of, stack_from, left, word_at}
use Rattle.mid_code.specs.State.{MidState}
use Rattle.mid_arena.specs.Growing.{Grows}
use Rattle.mid_arena.specs.Places.{Spot, Owner, of_object, spot_in, spot_of, pointer_to, with_object, word_of}
use Rattle.mid_arena.specs.Standing.{SameWords}
use Rattle.mid_arena.proofs.Growing.{words_grown}
use Rattle.mid_arena.proofs.Keeping.{old_spot}
use Rattle.mid_arena.proofs.Making.{begun_heap, begun_blocks}
use Rattle.mid_arena.proofs.Memory.{room_below}
use Rattle.mid_arena.proofs.Owners.{OldOrNew, of_old, of_new, old_or_new, new_object, object_within}
use Rattle.mid_arena.proofs.OwnWords.{function_words, function_spot, function_state, function_word, function_state_grows, function_pointer, function_stands, represents_function_begun}
use Rattle.mid_arena.proofs.Representing.{represents_same}
use Rattle.back_lowering.specs.ControlWords.{current_address, link_address, handlers_address, bindings_address, end_address}
use Rattle.back_lowering.specs.Placement.{entry_of_lambda}
use Rattle.back_relation.specs.Setting.{Setting}
use Rattle.back_relation.specs.Placed.{IsPlaced}
use Rattle.back_relation.specs.Worlds.{World, BoxPlace, on_heap, on_stack, gone, Later}
use Rattle.back_relation.specs.Things.{Things, WithinLimit, AreOfKinds, AreMadeBy, CapturedIs, CapturedAt, FunctionStands, MadeFunction}
use Rattle.back_relation.specs.Ends.{WorldKept, Around}
use Rattle.back_relation.proofs.Activations.{made_by_later}
use Rattle.back_relation.proofs.Fresh.{fresh_was, fresh_from}
use Rattle.back_values.specs.Boxes.{Clean}
use Rattle.back_values.proofs.Moved.{KeepsBox, box_moves, method_moves, functions_move, captured_moves, literals_move, symbols_move, further_moves, control_moves, word_moves, serials_move, globals_move, dynamics_move}

-- words of captured parts
abbrev pub CapturedAre : World → List ℕ → List Captured → Type 0
CapturedAre w [] [] = Unit {0}
CapturedAre w [] (c ∷ cs) = ⊥
CapturedAre w (x ∷ ws) [] = ⊥
CapturedAre w (x ∷ ws) (c ∷ cs) = CapturedIs w x c × CapturedAre w ws cs

pub captured_count : (w : World) (ws : List ℕ) (cs : List Captured) → CapturedAre w ws cs → length ws ≡ length cs
captured_count w [] [] h = refl
captured_count w [] (c ∷ cs) h = absurd h
captured_count w (x ∷ ws) [] h = absurd h
captured_count w (x ∷ ws) (c ∷ cs) h = ap (λ n. suc n) (captured_count w ws cs h.1)

-- the state of the meaning with the function
abbrev pub words_asked : List Captured → FlatState → FlatState
words_asked cs z = on_state (λ (y : State). with_words (2 + length cs) 0 y) z

abbrev pub function_meant : (procedure : ℕ) → List Captured → FlatState → FlatState
function_meant p cs z = record (words_asked cs z) {
  state = stored (function p) (base.charged (2 + length cs + 0) (words_asked cs z).state);
  captured = (length (words_asked cs z).state.store, cs) ∷ (words_asked cs z).captured;
}

module _ (setting : Setting) (placed : IsPlaced setting) {w : World} {z : FlatState} {y : MidState} (t : Things setting w z y) (clean : Clean w y) (p : ℕ) (ws : List ℕ) (cs : List Captured)
    (cost : ℕ) (row : FlatProcedure) (there : slice_get setting.program.lambdas p ≡ Some row) (kinds : AreOfKinds row.captured cs) (forms : List (Option ExitForm))
    (lead : slice_get setting.leads.functions p ≡ Some forms) (made_by : AreMadeBy w cs forms) (are : CapturedAre w ws cs) (room : 2 + length ws ≤ left y.arena)
    (within : WithinLimit setting.limit (words_asked cs z).state) (cheap : cost ≤ unit_cost * (2 + length cs)) where
  abbrev pub entry : ℕ
  entry = entry_of_lambda setting.at p

  abbrev pub new_spot : Spot
  new_spot = function_spot y.arena ws

  abbrev pub function_world : World
  function_world = record w { places = with_object new_spot w.places }

  abbrev pub made_state : MidState
  made_state = function_state y entry ws (y.cost + cost)

  grows : Grows y.arena made_state.arena
  grows = function_state_grows setting.names (tables setting.program) w.places z.state y t.represents p entry ws room (y.cost + cost)

  stack_stays : stack_from made_state.arena ≡ stack_from y.arena
  stack_stays =
      ap (λ n. begin_of n made_state.arena.blocks) grows.heap.size
      ∙ ap (begin_of (length y.arena.memory)) (begun_blocks (2 + length ws) (function_words entry ws) y.arena)

  pub later : Later w function_world
  later = record {
    spots = λ q s e. old_spot new_spot w.places q s e;
    boxes = λ i a e. e;
    methods = λ i m e. e;
    exit_forms = λ x o e. e;
    none_new = λ i a e. e;
  }

  abbrev All : Owner → Type 0
  All q = Unit {0}

  same : (q : Owner) (s : Spot) → All q → spot_of w.places q ≡ Some s → SameWords y.arena made_state.arena s
  same q s stays e = words_grown y.arena made_state.arena s grows.heap t.represents.arena (t.represents.spots q s e)

  keeps : (i : ℕ) (b : BoxPlace) → slice_get w.boxes i ≡ Some b → KeepsBox setting made_state t later All same b
  keeps i (on_heap x) e = λ k. tt
  keeps i (on_stack x) e = let low = clean i x e in grows.stack x low (omega (arith, low, stack_stays))
  keeps i gone e = tt

  captured_from :
      (vs : List ℕ) (ds : List Captured) (x : ℕ) → CapturedAre w vs ds → ((i word : ℕ) → slice_get vs i ≡ Some word → word_at made_state.arena (x + 4 * i) ≡ Some word)
      → CapturedAt function_world made_state.arena x ds
  captured_from [] [] x h stand = tt
  captured_from [] (d ∷ ds) x h stand = absurd h
  captured_from (v ∷ vs) [] x h stand = tt
  captured_from (v ∷ vs) (d ∷ ds) x h stand =
      let here : x + 4 * 0 ≡ x = omega arith in (
        (v, subst (λ q. word_at made_state.arena q ≡ Some v) here (stand 0 v refl), captured_moves setting made_state t later All same v d h.0),
        captured_from vs ds (x + 4) h.1
            (λ i word e. let at : x + 4 * suc i ≡ x + 4 + 4 * i = omega arith in subst (λ q. word_at made_state.arena q ≡ Some word) at (stand (suc i) word e)),
      )

  stands : (i word x : ℕ) → x ≡ y.arena.heap_to + 4 * i → slice_get (function_words entry ws) i ≡ Some word → word_at made_state.arena x ≡ Some word
  stands i word x at e =
      function_word setting.names (tables setting.program) w.places z.state y t.represents p entry ws room (y.cost + cost) i word x at e

  new_function : MadeFunction setting function_world made_state.arena new_spot p cs
  new_function = record {
    row = row;
    there = there;
    kinds = kinds;
    forms = forms;
    lead = lead;
    made_by = made_by_later later cs forms made_by;
    size = ap (λ n. 2 + n) (captured_count w ws cs are);
    number = stands 1 entry (y.arena.heap_to + 4) (omega arith) refl;
    captured = captured_from ws cs (y.arena.heap_to + 8) are (λ i word e. stands (suc (suc i)) word (y.arena.heap_to + 8 + 4 * i) (omega arith) e);
  }

  abbrev store : List Object
  store = z.state.store

  functions_all :
      (i q : ℕ) (s : Spot) → slice_get (store ++ function p ∷ []) i ≡ Some (function q) → spot_of function_world.places (of_object i) ≡ Some s
      → FunctionStands setting function_world made_state.arena s q (under i ((length store, cs) ∷ z.captured))
  functions_all i q s e f = by (slice_get-push store (function p) i (function q) e) (old_or_new new_spot w.places (of_object i) s f)
    where
      choice : (b : Bool) → (i == length store) ≡ b → FunctionStands setting function_world made_state.arena s q (if b then Some cs else under i z.captured)
          → FunctionStands setting function_world made_state.arena s q (under i ((length store, cs) ∷ z.captured))
      choice b e h = subst (λ x. FunctionStands setting function_world made_state.arena s q (if x then Some cs else under i z.captured)) (sym e) h

      by :
          (slice_get store i ≡ Some (function q)) ⊎ ((i ≡ length store) × (function p ≡ function q)) → OldOrNew new_spot w.places (new_object w.places) (of_object i) s
          → FunctionStands setting function_world made_state.arena s q (under i ((length store, cs) ∷ z.captured))
      by (inl g) (of_old h) =
          let few = slice_get_within store i (function q) g in
          choice false (ne_eqb i (length store) (λ at. omega (arith, at, few))) (functions_move setting made_state t later All same (λ j. tt) i q s g h)
      by (inl g) (of_new at h) =
          let few = slice_get_within store i (function q) g in
          let number : i ≡ length w.places.objects = cc at in
          absurd (omega (arith, number, few, t.represents.count))
      by (inr g) (of_new at h) =
          let proc : p ≡ q = cc (g.1) in
          choice true (eq-eqb i (length store) g.0)
          (subst (λ x. MadeFunction setting function_world made_state.arena x q cs) (sym h)
          (subst (λ x. MadeFunction setting function_world made_state.arena new_spot x cs) proc new_function))
      by (inr g) (of_old h) =
          let few = object_within w.places i s h in
          let at = g.0 in
          absurd (omega (arith, few, at, t.represents.count))

  generics_all : (i g : ℕ) → slice_get (store ++ function p ∷ []) i ≡ Some (generic_function g) → slice_get store i ≡ Some (generic_function g)
  generics_all i g e = by (slice_get-push store (function p) i (generic_function g) e)
    where
      by :
          (slice_get store i ≡ Some (generic_function g)) ⊎ ((i ≡ length store) × (function p ≡ generic_function g))
          → slice_get store i ≡ Some (generic_function g)
      by (inl f) = f
      by (inr f) = absurd (cc f.1)

  new_there : (i : ℕ) → i ≡ length store → spot_of function_world.places (of_object i) ≡ Some new_spot
  new_there i at =
      let number : i ≡ length w.places.objects = omega (arith, at, t.represents.count) in
      ap (λ n. spot_of function_world.places (of_object n)) number ∙ ap spot_in (slice_get-behind w.places.objects (Some new_spot))

  -- a function that captured something has a spot
  abbrev FunctionThere : ℕ → Type 0
  FunctionThere i = (q : ℕ) × (slice_get (store ++ function p ∷ []) i ≡ Some (function q)) × (s : Spot) × (spot_of function_world.places (of_object i) ≡ Some s)

  captured_all : (i : ℕ) (ds : List Captured) → under i ((length store, cs) ∷ z.captured) ≡ Some ds → FunctionThere i
  captured_all i ds e = by (i == length store) refl e
    where
      by : (b : Bool) → (i == length store) ≡ b → (if b then Some cs else under i z.captured) ≡ Some ds → FunctionThere i
      by true g h =
          let at : i ≡ length store = grind (arith, nat_tests) in
          (p, ap (slice_get (store ++ function p ∷ [])) at ∙ slice_get-behind store (function p), new_spot, new_there i at)
      by false g h =
          let old = t.captured i ds h in
          (old.0, slice_get-front store (function p ∷ []) i (function old.0) old.1, old.2, later.spots (of_object i) old.2 old.3)

  pub things_made : Things setting function_world (function_meant p cs z) made_state
  things_made = record {
    represents =
        represents_same setting.names (tables setting.program) function_world.places (stored (function p) z.state) (function_meant p cs z).state made_state refl refl refl refl
        (represents_function_begun setting.names (tables setting.program) w.places z.state y t.represents p entry ws room (y.cost + cost));
    within_limit = limit setting.limit within;
    control = control_moves setting made_state t later All same;
    further = λ i x e. further_moves setting made_state t later All same i x tt e;
    serials = let s = t.serials in (s.0, serials_move setting made_state t later All same tt s.0 s.1, s.2, s.3);
    globals = λ n has. globals_move setting made_state t later All same tt placed n has;
    dynamics = λ n has. dynamics_move setting made_state t later All same tt placed n has;
    literals = literals_move setting made_state t later All same;
    symbols = symbols_move setting made_state t later All same;
    laid_symbols = t.laid_symbols;
    fresh_symbols = fresh_from (fresh_was store (function p) tt) refl grows.heap.heap_to t.fresh_symbols;
    box_count = t.box_count;
    boxes_apart = record { heap = t.boxes_apart.heap; stack = t.boxes_apart.stack };
    boxes = λ i b e. box_moves setting made_state t later All same i b (function_meant p cs z).state refl (keeps i b e) (t.boxes i b e);
    methods = λ i a called e. method_moves setting made_state t later All same a called (λ k late f. tt) (t.methods i a called e);
    exit_forms = t.exit_forms;
    functions = functions_all;
    captured = captured_all;
    generics = λ i g e. t.generics i g (generics_all i g e);
  }
    where
      limit : (l : Limit) → WithinLimit l (words_asked cs z).state → WithinLimit l (function_meant p cs z).state
      limit unlimited h = tt
      limit (words m) h = h

  pub function_is : word_of function_world.places (object (length z.state.store)) ≡ Some (pointer_to new_spot)
  function_is =
      function_pointer setting.names (tables setting.program) w.places z.state y t.represents made_state grows.heap (record { printed = refl; input = refl }) new_spot p refl
      (let heap = begun_heap (2 + length ws) (function_words entry ws) y.arena in omega (arith, heap))
      (function_stands setting.names (tables setting.program) w.places z.state y t.represents p entry ws room (y.cost + cost))

  pub world_made : WorldKept setting w function_world z (function_meant p cs z) y made_state
  world_made = record {
    later = later;
    things = things_made;
    stack = record { words = λ x low high plain. grows.stack x low high; bindings = λ i a e low high. e };
    end = λ n e. word_moves setting made_state t later All same tt end_address n (omega arith) (omega arith) e;
    more_exits = omega arith;
    same_size = grows.heap.size;
  }

  pub around_made : Around setting 0 z (function_meant p cs z) y made_state
  around_made = record {
    control = record {
      current = λ n e. word_moves setting made_state t later All same tt current_address n (omega arith) (omega arith) e;
      link = λ n e. word_moves setting made_state t later All same tt link_address n (omega arith) (omega arith) e;
      handlers = λ n e. word_moves setting made_state t later All same tt handlers_address n (omega arith) (omega arith) e;
      bindings = λ n e. word_moves setting made_state t later All same tt bindings_address n (omega arith) (omega arith) e;
    };
    blocks = begun_blocks (2 + length ws) (function_words entry ws) y.arena;
    charged =
        let heap = begun_heap (2 + length ws) (function_words entry ws) y.arena in
        let below = room_below (2 + length ws) t.represents.arena room in
        let count = captured_count w ws cs are in
        omega (arith, stack_stays, heap, below, count);
    paid = omega (arith, cheap);
  }
