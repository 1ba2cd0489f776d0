-- A new condition: its words are requested and stored, and all stands with one object more.
use Rattle.std.proofs.Common.{◌≡◌, ℕ, zero, suc, ◌+◌, ◌*◌, ◌<◌, ◌≤◌, true, List, [], ◌∷◌, ◌++◌, length, map, Some, refl, sym, ap, ◌∙◌, arith}
use Rattle.std.specs.Prelude.{slice_get}
use Rattle.std.proofs.lemmas.Bool.Decides.{nat_tests}
use Rattle.std.proofs.lemmas.List.{length-append}
use Rattle.std.proofs.lemmas.Option.{slice_get_within}
use Rattle.lang_meaning.specs.declared.program.ProgramRows.{ProgramRows}
use Rattle.lang_meaning.specs.Classes.{is_below, slots}
use Rattle.lang_meaning.specs.InitialHeap.{class_value}
use Rattle.lang_meaning.specs.Objects.{Object, instance, function, generic_function, serious_condition_class}
use Rattle.lang_meaning.specs.Primitives.{instance_words}
use Rattle.lang_meaning.specs.State.{Limit, words, unlimited, has_room, with_words, stored}
use Rattle.lang_meaning.specs.State as meaning
use Rattle.lang_meaning.specs.Values.{Value, nil, object}
use Rattle.flat_language.specs.FlatNodes.{tables}
use Rattle.flat_language.specs.FlatState.{FlatState}
use Rattle.mid_code.specs.Arena.{Arena, left, words_of, word_at}
use Rattle.mid_code.specs.State.{MidState}
use Rattle.mid_arena.specs.Tags.{object_tag, instance_header, nil_word}
use Rattle.mid_arena.specs.Places.{Spot, Places, of_object, of_other, spot_in, spot_of, with_object, word_of, WordsOf}
use Rattle.mid_arena.specs.Growing.{Grows}
use Rattle.mid_arena.specs.Answers.{KeepsWords}
use Rattle.mid_arena.proofs.BuiltInFacts.{is_condition_class, slot_count_is, built_in_known}
use Rattle.mid_arena.proofs.Doing.{SameObjects}
use Rattle.mid_arena.proofs.Growing.{spot_below}
use Rattle.mid_arena.proofs.Keeping.{old_spot, words_of_condition, as_many_words}
use Rattle.mid_arena.proofs.Making.{begun, begun_heap, begun_blocks, begun_grows, condition_at, represents_new, pointer_made}
use Rattle.mid_arena.proofs.Memory.{room_below}
use Rattle.mid_arena.proofs.Owners.{FrontOrEnd, at_front, at_end, front_or_end}
use Rattle.mid_arena.proofs.Representing.{kept_grown}
use Rattle.back_relation.specs.Setting.{Setting, control_spot}
use Rattle.back_relation.specs.Worlds.{World}
use Rattle.back_relation.specs.Things.{Things, WithinLimit}
use Rattle.back_relation.specs.Ends.{ChargedFrom}
use Rattle.back_relation.proofs.Fresh.{fresh_was, fresh_from}
use Rattle.back_relation.proofs.Standing.{StandsBehind}
use Rattle.back_relation.specs.RoutineClaims.{IsBuiltInCondition}

get_front : {X : Type 0} (xs ys : List X) (i : ℕ) → i < length xs → slice_get (xs ++ ys) i ≡ slice_get xs i
get_front [] ys i h = absurd (omega arith)
get_front (x ∷ xs) ys zero h = refl
get_front (x ∷ xs) ys (suc i) h = get_front xs ys i (omega (arith, h))

module _ (setting : Setting) {w : World} {z : FlatState} {y : MidState} (t : Things setting w z y) (class word : ℕ) (vs : List Value) (ws : List ℕ)
    (is : IsBuiltInCondition class (length vs)) (of_class : word_of w.places (class_value setting.names (tables setting.program) class) ≡ Some word) (are : WordsOf w.places vs ws)
    (room : 3 + length vs ≤ left y.arena) where
  abbrev pub program : ProgramRows
  program = tables setting.program

  pub is_class : is_below program class serious_condition_class ≡ true
  is_class = let low = is.low in is_condition_class program t.represents.built_in class (omega (arith, low)) is.high

  slots_are : length vs ≡ length (slots program class)
  slots_are = sym (slot_count_is program t.represents.built_in class is.high ∙ is.slots)

  pub size_is : instance_words program class (length vs) ≡ 3 + length vs
  size_is = words_of_condition program class (length vs) is_class

  abbrev pub made : Object
  made = instance class (map (λ v. Some v) vs) nil

  abbrev pub words_made : List ℕ
  words_made = instance_header (length vs) ∷ word ∷ (ws ++ nil_word ∷ [])

  abbrev pub arena_made : Arena
  arena_made = begun (3 + length vs) words_made y.arena

  abbrev pub state_made : ℕ → MidState
  state_made cost = record y { arena = arena_made; cost = cost }

  abbrev pub spot_made : Spot
  spot_made = record { address = y.arena.heap_to; words = 3 + length vs; tag = object_tag }

  abbrev pub places_made : Places
  places_made = with_object spot_made w.places

  few : length words_made ≤ 3 + length vs
  few = omega (arith, length-append ws (nil_word ∷ []), as_many_words w.places vs ws are)

  grown : Grows y.arena arena_made
  grown = begun_grows (3 + length vs) words_made t.represents.arena room few

  pub to_is : arena_made.heap_to ≡ y.arena.heap_to + 4 * (3 + length vs)
  to_is = begun_heap (3 + length vs) words_made y.arena

  -- the state of the meaning, where so many units were charged
  abbrev pub meaning_made : (size units : ℕ) → meaning.State
  meaning_made size units = stored made (meaning.charged units (with_words size 0 z.state))

  alike : (size units : ℕ) → SameObjects z.state (meaning.charged units (with_words size 0 z.state))
  alike size units = record { store = refl; symbols = refl; printed = refl; input = refl }

  -- **all stands with the new condition**
  pub made_behind : (size units cost : ℕ) → has_room setting.limit (z.state.heap + z.state.stack + size + 0) ≡ true → StandsBehind setting w z y places_made (meaning_made size units) (state_made cost)
  made_behind size units cost fits = record {
    represents =
        represents_new setting.names program w.places z.state y t.represents (3 + length vs) object_tag made (state_made cost) grown to_is (begun_blocks (3 + length vs) words_made y.arena) refl refl (omega arith) (omega arith)
        (meaning.charged units (with_words size 0 z.state)) (alike size units)
        (condition_at setting.names program w.places z.state y t.represents class word vs ws is_class slots_are of_class are room) (built_in_known program t.represents.built_in class is.high);
    spots = λ p s e. old_spot spot_made w.places p s e;
    kept = record {
      functions = kept.functions;
      others = λ n s e. kept.others (suc n) s e;
      control = λ x low high other. kept.others 0 (control_spot setting) t.control x low high;
      stack = kept.stack;
    };
    within = limit setting.limit fits;
    variables = refl;
    globals = refl;
    dynamics = refl;
    exits = refl;
    laid_symbols = refl;
    fresh_symbols = fresh_from (fresh_was z.state.store made tt) refl grown.heap.heap_to t.fresh_symbols;
    functions = λ i p s e f. no_function i p s (front_or_end z.state.store made i (function p) e) f;
    still = λ i p e. get_front z.state.store (made ∷ []) i (slice_get_within z.state.store i (function p) e) ∙ e;
    generics = λ i g e. no_generic i g (front_or_end z.state.store made i (generic_function g) e);
    size = grown.heap.size;
    blocks = begun_blocks (3 + length vs) words_made y.arena;
  }
    where
      kept : KeepsWords w.places z.state y.arena arena_made
      kept = kept_grown setting.names program w.places z.state y t.represents arena_made grown

      limit : (l : Limit) → has_room l (z.state.heap + z.state.stack + size + 0) ≡ true → WithinLimit l (meaning_made size units)
      limit unlimited h = tt
      limit (words m) h =
          let low : z.state.heap + z.state.stack + size + 0 ≤ m = grind (arith, nat_tests) in
          omega (arith, low)

      no_function : (i p : ℕ) (s : Spot) → FrontOrEnd z.state.store made i (function p) → spot_of places_made (of_object i) ≡ Some s
          → (slice_get z.state.store i ≡ Some (function p)) × (spot_of w.places (of_object i) ≡ Some s)
      no_function i p s (at_end e same) f = absurd (cc same)
      no_function i p s (at_front e) f =
          let within = slice_get_within z.state.store i (function p) e in
          let same = get_front w.places.objects (Some spot_made ∷ []) i (omega (arith, within, t.represents.count)) in
          (e, ap spot_in (sym same) ∙ f)

      no_generic : (i g : ℕ) → FrontOrEnd z.state.store made i (generic_function g) → slice_get z.state.store i ≡ Some (generic_function g)
      no_generic i g (at_front e) = e
      no_generic i g (at_end e same) = absurd (cc same)

  -- it is the value of its pointer
  pub pointer_is : (size units : ℕ) → word_of places_made (object (length z.state.store)) ≡ Some (y.arena.heap_to + 2)
  pointer_is size units =
      pointer_made setting.names program w.places z.state y t.represents (3 + length vs) object_tag made (state_made 0) grown to_is (begun_blocks (3 + length vs) words_made y.arena) refl refl (omega arith) (omega arith)
      (meaning.charged units (with_words size 0 z.state)) (alike size units)
      (condition_at setting.names program w.places z.state y t.represents class word vs ws is_class slots_are of_class are room) (built_in_known program t.represents.built_in class is.high)

  -- its words were charged
  pub made_charged : (units cost : ℕ) → ChargedFrom z y (record z { state = meaning_made (3 + length vs) units }) (state_made cost)
  made_charged units cost =
      let to = to_is in
      let below = room_below (3 + length vs) t.represents.arena room in
      let size = grown.heap.size in
      let blocks = ap (λ bs. words_of bs) (begun_blocks (3 + length vs) words_made y.arena) in
      let aligned = t.represents.arena.aligned in
      omega (arith, to, below, size, blocks, aligned)

  -- words below are as they were
  pub word_made_before : (x : ℕ) → x < 220 → word_at arena_made x ≡ word_at y.arena x
  word_made_before x h =
      let low = spot_below t.represents.arena (t.represents.spots (of_other 1) (control_spot setting) t.control) in
      grown.heap.words x (omega (arith, h, low))
