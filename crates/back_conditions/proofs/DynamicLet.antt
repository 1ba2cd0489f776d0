-- **Dynamic bindings around a form**: the values are in registers, their cells are stored in a block that is lent, the form runs inside, and the bindings outside
-- are the innermost ones again.
use Rattle.std.proofs.Common.{◌≡◌, inl, inr, ℕ, zero, suc, ◌+◌, ◌*◌, ◌/◌, ◌%◌, ◌^◌, ◌<◌, ◌≤◌, Bool, true, List, [], ◌∷◌, ◌++◌, length, Some, refl, sym, ap, ◌∙◌, subst, append_assoc, arith}
use Rattle.std.specs.Prelude.{◌-◌, slice_get, slice_set, slice_index_or}
use Rattle.std.proofs.Math.ListN.{length-set}
use Rattle.lang_meaning.specs.Lookup.{numbered}
use Rattle.lang_meaning.specs.Values.{Value, nil}
use Rattle.flat_language.specs.FlatForm.{FlatDynamics, no_dynamic, dynamic_and}
use Rattle.flat_language.specs.FlatMeaning.{bound_names}
use Rattle.flat_language.specs.FlatNodes.{count_dynamics}
use Rattle.flat_language.specs.FlatState.{FlatEvaluated, with_values}
use Rattle.mid_code.specs.Arena.{Arena, begin_of, left, stack_from, is_within, is_lent, word_in, word_at, with_word}
use Rattle.mid_code.specs.Meaning.{Context, exec}
use Rattle.mid_code.specs.MidCode.{with_block, no_step, code_of}
use Rattle.mid_code.specs.State.{Registers, register, falls, ends, MidState}
use Rattle.mid_arena.specs.Places.{of_other, WordsOf, word_of}
use Rattle.mid_arena.specs.Standing.{ArenaStands}
use Rattle.mid_arena.proofs.Growing.{spot_below, spot_grown}
use Rattle.mid_arena.proofs.Lists.{set_elsewhere}
use Rattle.mid_arena.proofs.Memory.{in_spot_lent, in_heap_there}
use Rattle.mid_arena.proofs.Registers.{register_here, register_beside}
use Rattle.mid_arena.proofs.Running.{RunsTo, and_then, none_left, parts_then, constant_falls, load_falls, store_falls, address_above}
use Rattle.std.proofs.lemmas.Bool.{le-leb, lt-ltb, eq-eqb, and_from, or_left, or_right}
use Rattle.back_lowering.specs.Codes.{bindings_laid, innermost, dynamic_let_code}
use Rattle.back_lowering.specs.ControlWords.{handlers_address, bindings_address, end_address, binding_value, binding_words}
use Rattle.back_lowering.specs.Registers.{of_code, enough_for}
use Rattle.back_lowering.specs.Steps.{Steps, constant, load, store}
use Rattle.back_relation.specs.Setting.{Setting, control_spot}
use Rattle.back_relation.specs.Placed.{IsPlaced, PlacedDynamics}
use Rattle.back_relation.specs.Worlds.{World, BoxPlace, on_heap, on_stack, Plain}
use Rattle.back_relation.specs.StackWords.{HasWordAt, BindingsAt}
use Rattle.back_relation.specs.Things.{Things}
use Rattle.back_relation.specs.Forms.{Begins, FormEnds, code_at}
use Rattle.back_relation.specs.Cuts.{boxes_cut}
use Rattle.back_relation.specs.Starts.{Start}
use Rattle.back_relation.specs.Stores.{stores, Differs, Aligned}
use Rattle.back_relation.proofs.Cuts.{later_cut}
use Rattle.back_relation.proofs.Windows.{stored_here, stored_lent}
use Rattle.back_relation.proofs.Boxes.{cut_count, stack_above, stack_stays}
use Rattle.back_exits.specs.Touching.{Touches}
use Rattle.back_exits.proofs.Steps.{laid_state}
use Rattle.back_exits.proofs.Touching.{stored_from}
use Rattle.back_conditions.proofs.Finding.{behind_front, before_more}
use Rattle.back_conditions.proofs.Within.{outer_around, inner_world, tail}
use Rattle.back_conditions.proofs.Lent.{lent_arena, lent_address, lent_state, Lent, lent_size, lent_high, lent_low, lent_above, lent_grows, lent_world, control_stays, handlers_inside, bindings_inside, lent_within}
use Rattle.back_conditions.proofs.Lending.{Opened}
use Rattle.back_conditions.proofs.Cells.{WordsFrom, words_kept, outer_cell, cell_words, CellsLaid, cells_laid}
use Rattle.back_conditions.proofs.Bound.{FrontOrBehind, at_front, at_back, front_or_behind, AreBound, things_bound, cell_places, place_count, place_is, stack_same, cells_differ, AreLent, values_stand, bindings_stand}

stores_both : (ps qs : List (ℕ × ℕ)) (a : Arena) → stores (ps ++ qs) a ≡ stores qs (stores ps a)
stores_both [] qs a = refl
stores_both (p ∷ ps) qs a = stores_both ps qs (with_word p.0 p.1 a)

-- the words of values, by their numbers
pub record WordThere (w : World) (vs : List Value) (ws : List ℕ) (i : ℕ) : Type 0 where
  pub word : ℕ
  pub here : slice_get ws i ≡ Some word
  pub of_value : word_of w.places (slice_index_or vs i nil) ≡ Some word

pub word_there : (w : World) (vs : List Value) (ws : List ℕ) (i : ℕ) → WordsOf w.places vs ws → i < length ws → WordThere w vs ws i
word_there w [] [] i h few = absurd (omega (arith, few))
word_there w [] (x ∷ ws) i h few = absurd h
word_there w (v ∷ vs) [] i h few = absurd h
word_there w (v ∷ vs) (x ∷ ws) zero h few = record { word = x; here = refl; of_value = h.0 }
word_there w (v ∷ vs) (x ∷ ws) (suc i) h few = let inner = word_there w vs ws i h.1 (omega (arith, few)) in record { word = inner.word; here = inner.here; of_value = inner.of_value }

pub as_many : (w : World) (vs : List Value) (ws : List ℕ) → WordsOf w.places vs ws → length vs ≡ length ws
as_many w [] [] h = refl
as_many w [] (x ∷ ws) h = absurd h
as_many w (v ∷ vs) [] h = absurd h
as_many w (v ∷ vs) (x ∷ ws) h = ap suc (as_many w vs ws h.1)

module _ (setting : Setting) (placed : IsPlaced setting) (a : Start setting) (k : ℕ) (keeps : Bool) (ds : FlatDynamics) (vs : List Value) (ws : List ℕ) (many : length ws ≡ count_dynamics ds)
    (of_values : WordsOf a.w.places vs ws) (held : WordsFrom a.d ws a.regs) (names : PlacedDynamics setting keeps ds) (body : Steps) where
  abbrev count : ℕ
  count = count_dynamics ds

  -- the registers of the block, of the cell outside, and the first one of the form inside
  abbrev e : ℕ
  e = a.d + count

  abbrev size : ℕ
  size = binding_words * count

  abbrev c : Context
  c = code_at setting k a.turns

  abbrev laid : Steps
  laid = bindings_laid setting.names setting.at setting.program a.d e (e + 1) (e + 2) 0 ds

  abbrev ended : Steps
  ended = constant (e + 2) 0 ∷ store (innermost e (e + 1) ds) (e + 2) bindings_address ∷ []

  abbrev pub head : Steps
  head = constant (e + 2) 0 ∷ load (e + 1) (e + 2) bindings_address ∷ (laid ++ ended)

  -- the code is that of a block that is lent
  pub code_is :
      dynamic_let_code setting.names setting.at setting.program a.d count ds body
      ≡ with_block e size a.d (code_of (head ++ (body ++ tail setting placed a bindings_address (e + 1) (e + 2)))) (code_of []) ∷ []
  code_is =
      ap
      (λ ss. with_block e size a.d (code_of (constant (e + 2) 0 ∷ load (e + 1) (e + 2) bindings_address ∷ ss)) (code_of []) ∷ [])
      (sym (append_assoc laid ended (body ++ tail setting placed a bindings_address (e + 1) (e + 2))))

  module _ (room : size + 2 ≤ left a.y.arena) (fits : e + 2 < length a.regs) (names_laid : enough_for (of_code (code_of laid)) ≤ length a.regs) where
    abbrev address : ℕ
    address = lent_address setting placed a size

    abbrev old : ℕ
    old = (outer_around setting placed a).bindings_cell

    stands : ArenaStands a.y.arena
    stands = a.begins.call.things.represents.arena

    address_high : address + 4 * size ≡ stack_from a.y.arena
    address_high = lent_high setting placed a size room

    address_low : a.y.arena.heap_to + 8 ≤ address
    address_low = lent_above setting placed a size room

    heap_high : end_address < a.y.arena.heap_to
    heap_high =
        let t = a.begins.call.things in
        let below = spot_below stands (t.represents.spots (of_other 1) (control_spot setting) t.control) in
        omega (arith, below)

    address_aligned : address % 4 ≡ 0
    address_aligned = omega arith

    address_small : address + 12 * count < 2 ^ 32
    address_small = omega (arith, address_high, stands.size, stands.blocks)

    -- ---- what is lent where the block was laid

    block_lent : (n : ℕ) → n < 12 * count → n % 4 ≡ 0 → is_lent (lent_arena setting placed a size) (address + n) ≡ true
    block_lent n few even =
        let same = lent_size setting placed a size room in
        let high = address_high in
        let at : (address + n) % 4 ≡ 0 = omega (arith, even) in
        let below : address + n < begin_of (length (lent_arena setting placed a size).memory) a.y.arena.blocks = omega (arith, few, same, high) in
        let low : address ≤ address + n = omega arith in
        let inside : is_within address (begin_of (length (lent_arena setting placed a size).memory) a.y.arena.blocks) (address + n) ≡ true =
        and_from _ _ (le-leb address (address + n) low) (lt-ltb (address + n) (begin_of (length (lent_arena setting placed a size).memory) a.y.arena.blocks) below)
        in
        and_from _ _ (eq-eqb ((address + n) % 4) 0 at) (or_right _ _ (or_left _ _ inside))

    block_there : (n : ℕ) → n < 12 * count → (address + n) / 4 < length (lent_arena setting placed a size).memory
    block_there n few = let same = lent_size setting placed a size room in let high = address_high in omega (arith, few, same, high)

    are_lent : AreLent setting address old (12 * count) address_aligned (lent_arena setting placed a size)
    are_lent = record { lent = block_lent; there = block_there }

    -- ---- the steps in front of the form

    abbrev first_cell : ℕ
    first_cell = outer_cell setting address old 0 ds

    abbrev cells : List (ℕ × ℕ)
    cells = cell_words setting address old 0 ds ws

    abbrev last : List (ℕ × ℕ)
    last = (bindings_address, first_cell) ∷ []

    abbrev y0 : MidState
    y0 = laid_state c e size a.d no_step no_step a.regs a.y

    abbrev r0 : Registers
    r0 = slice_set a.regs e (Some address)

    abbrev r1 : Registers
    r1 = slice_set r0 (e + 2) (Some 0)

    abbrev r2 : Registers
    r2 = slice_set r1 (e + 1) (Some old)

    count_two : length r2 ≡ length a.regs
    count_two = length-set r1 (e + 1) (Some old) ∙ length-set r0 (e + 2) (Some 0) ∙ length-set a.regs e (Some address)

    old_word : word_at y0.arena bindings_address ≡ Some old
    old_word =
        let high = heap_high in
        (lent_grows setting placed a size room).heap.words bindings_address (omega (arith, high)) ∙ (outer_around setting placed a).bindings_word

    before : (i : ℕ) → i < e → slice_get r2 i ≡ slice_get a.regs i
    before i low =
        set_elsewhere r1 (e + 1) i (Some old) (λ same. omega (arith, same, low)) ∙ set_elsewhere r0 (e + 2) i (Some 0) (λ same. omega (arith, same, low))
        ∙ set_elsewhere a.regs e i (Some address) (λ same. omega (arith, same, low))

    block_held : register e r2 ≡ Some address
    block_held =
        register_beside r1 (e + 1) e (Some old) (λ same. omega (arith, same)) ∙ register_beside r0 (e + 2) e (Some 0) (λ same. omega (arith, same))
        ∙ register_here a.regs e address (omega (arith, fits))

    old_held : register (e + 1) r2 ≡ Some old
    old_held = register_here r1 (e + 1) old (omega (arith, fits, length-set r0 (e + 2) (Some 0), length-set a.regs e (Some address)))

    abbrev y2 : MidState
    y2 = record y0 { cost = a.y.cost + 36 + 6 + 8 }

    put : CellsLaid setting c laid (e + 2) cells (94 * length ws) r2 y2
    put =
        cells_laid setting c e (e + 1) (e + 2) address old (12 * count) (omega arith) (omega arith) address_aligned address_small ds ws a.d 0 r2 y2 many (omega (arith, many))
        (words_kept a.d e ws a.regs r2 (omega (arith, many)) before held) block_held old_held (omega (arith, fits, count_two)) (omega (arith, many)) refl block_lent
        (subst (λ n. enough_for (of_code (code_of laid)) ≤ n) (sym count_two) names_laid)

    abbrev r4 : Registers
    r4 = slice_set put.regs' (e + 2) (Some 0)

    count_four : length r4 ≡ length a.regs
    count_four = length-set put.regs' (e + 2) (Some 0) ∙ put.count ∙ count_two

    first_register : (ds : FlatDynamics) → register e r4 ≡ Some address → register (e + 1) r4 ≡ Some old → register (innermost e (e + 1) ds) r4 ≡ Some (outer_cell setting address old 0 ds)
    first_register no_dynamic f g = g
    first_register (dynamic_and n h ds) f g = f ∙ (let at : address ≡ address + 0 = omega arith in ap (λ x. Some x) at)

    after_cells : (i : ℕ) → i < e + 2 → slice_get r4 i ≡ slice_get r2 i
    after_cells i low = set_elsewhere put.regs' (e + 2) i (Some 0) (λ same. omega (arith, same, low)) ∙ put.same i low

    abbrev cost : ℕ
    cost = put.total + 6 + 8

    control_lent : is_lent (stores cells (lent_arena setting placed a size)) bindings_address ≡ true
    control_lent =
        let t = a.begins.call.things in
        stored_lent cells (lent_arena setting placed a size) bindings_address
        ∙ in_spot_lent bindings_address (spot_grown (lent_grows setting placed a size room).heap (t.represents.spots (of_other 1) (control_spot setting) t.control)) refl
        (omega arith) (omega arith)

    abbrev y1 : MidState
    y1 = lent_state setting placed a size (cells ++ last) cost

    head_runs : RunsTo c (code_of head) r0 y0 (ends falls r4 y1)
    head_runs =
        subst (λ v. RunsTo c (code_of head) r0 y0 (ends falls r4 (record a.y { arena = v; cost = cost }))) (sym (stores_both cells last (lent_arena setting placed a size)))
        (and_then constant_falls
        (and_then
        (load_falls (register_here r0 (e + 2) 0 (omega (arith, fits, length-set a.regs e (Some address)))) (address_above 0 bindings_address bindings_address (omega arith) (omega arith)) old_word)
        (parts_then laid ended put.runs
        (and_then constant_falls
        (and_then
        (store_falls
        (first_register ds (ap word_in (after_cells e (omega arith)) ∙ block_held) (ap word_in (after_cells (e + 1) (omega arith)) ∙ old_held))
        (register_here put.regs' (e + 2) 0 (omega (arith, fits, put.count, count_two))) (address_above 0 bindings_address bindings_address (omega arith) (omega arith)) control_lent)
        none_left)))))

    -- ---- what stands inside

    touch_cells : (ds : FlatDynamics) (ws : List ℕ) (offset : ℕ) → offset + 12 * length ws ≤ 12 * count → offset % 4 ≡ 0 → Touches address (stack_from a.y.arena) (cell_words setting address old offset ds ws ++ last)
    touch_cells no_dynamic ws offset few even = (refl, inl (omega arith, omega arith), tt)
    touch_cells (dynamic_and n f ds) [] offset few even = (refl, inl (omega arith, omega arith), tt)
    touch_cells (dynamic_and n f ds) (w ∷ ws) offset few even =
        let high = address_high in (
          omega (arith, address_aligned, even),
          inr (omega arith, omega (arith, few, high)),
          (
            omega (arith, address_aligned, even),
            inr (omega arith, omega (arith, few, high)),
            (omega (arith, address_aligned, even), inr (omega arith, omega (arith, few, high)), touch_cells ds ws (offset + 4 * binding_words) (omega (arith, few)) (omega (arith, even))),
          ),
        )

    lent : Lent setting placed a size bindings_address (cells ++ last)
    lent = record {
      room = room;
      touches = touch_cells ds ws 0 (omega (arith, many)) refl;
      only = λ x low other.
          cells_differ setting address old (12 * count) address_aligned ds ws 0 x last (let high = heap_high in let above = address_low in omega (arith, low, high, above)) (other, tt);
      slot_stored = (omega arith, omega arith);
      slot_aligned = refl;
      slot_other = λ e. omega (arith, e);
    }

    abbrev cut_boxes : List BoxPlace
    cut_boxes = boxes_cut (stack_from a.y.arena) a.w.boxes

    abbrev new_boxes : List BoxPlace
    new_boxes = cell_places address 0 ds

    abbrev boxes : List BoxPlace
    boxes = cut_boxes ++ new_boxes

    new_low : (i x : ℕ) → slice_get new_boxes i ≡ Some (on_stack x) → (x ≡ address + 12 * i + binding_value) × (i < count)
    new_low i x f =
        let p = place_is address 0 ds i (on_stack x) f in
        let at = stack_same x (address + 0 + 12 * i + binding_value) p.same in (omega (arith, at), p.few)

    old_places : (i x : ℕ) → slice_get a.w.boxes i ≡ Some (on_stack x) → stack_from a.y.arena ≤ x → slice_get boxes i ≡ Some (on_stack x)
    old_places i x f low = before_more cut_boxes new_boxes i (on_stack x) (stack_stays (stack_from a.y.arena) i x a.w.boxes f low)

    new_places : (i x : ℕ) → slice_get boxes i ≡ Some (on_stack x) → stack_from a.y.arena ≤ x → slice_get a.w.boxes i ≡ Some (on_stack x)
    new_places i x f low = by (front_or_behind cut_boxes new_boxes i (on_stack x) f)
      where
        by : FrontOrBehind cut_boxes new_boxes i (on_stack x) → slice_get a.w.boxes i ≡ Some (on_stack x)
        by (at_front g) = (later_cut (stack_from a.y.arena) a.w).none_new i x g
        by (at_back j same g) = let at = new_low j x g in let high = address_high in absurd (omega (arith, at, high, low))

    heap_places : (i x : ℕ) → slice_get a.w.boxes i ≡ Some (on_heap x) → slice_get boxes i ≡ Some (on_heap x)
    heap_places i x f = before_more cut_boxes new_boxes i (on_heap x) ((later_cut (stack_from a.y.arena) a.w).boxes i x f)

    abbrev inside : World
    inside = inner_world setting placed a boxes

    things_cut : Things setting (inner_world setting placed a cut_boxes) a.z y1
    things_cut = (lent_world setting placed a lent cost).things

    last_aligned : Aligned last
    last_aligned = (refl, tt)

    last_other : (x : ℕ) → address ≤ x → x < address + 12 * count → Differs x last
    last_other x low high = (λ same. let heap = heap_high in let above = address_low in omega (arith, same, low, heap, above), tt)

    value_word : (i w : ℕ) → slice_get ws i ≡ Some w → word_at y1.arena (address + 0 + 12 * i + binding_value) ≡ Some w
    value_word i w f =
        values_stand setting address old (12 * count) address_aligned last last_aligned last_other ds ws 0 (lent_arena setting placed a size) y1.arena refl many (omega (arith, many)) refl are_lent i
        w f

    bound : AreBound setting things_cut new_boxes vs
    bound = record {
      each = λ i p f.
          let at = place_is address 0 ds i p f in
          let there = word_there a.w vs ws i of_values (omega (arith, at.few, many)) in (
            address + 0 + 12 * i + binding_value,
            at.same,
            record { word = there.word; of_value = there.of_value; stands = value_word i there.word there.here },
          );
      apart = λ i j x f g. let one = new_low i x f in let two = new_low j x g in omega (arith, one, two);
      fresh = λ i j x f g.
          let low = stack_above (stack_from a.y.arena) i x a.w.boxes f in let at = new_low j x g in let high = address_high in omega (arith, low, at, high);
      many = place_count address 0 ds ∙ sym many ∙ sym (as_many a.w vs ws of_values);
    }

    things_inside : Things setting inside (with_values vs a.z) y1
    things_inside = things_bound setting things_cut new_boxes vs bound

    from_inside : stack_from y1.arena ≤ address
    from_inside = let low = lent_low setting placed a size room in omega (arith, low, stored_from (cells ++ last) (lent_arena setting placed a size))

    plain_inside : (j n : ℕ) → 12 * j + n < 12 * count → n < 12 → (n ≡ 4 → ⊥) → Plain inside (address + 12 * j + n)
    plain_inside j n few small other i f = by (front_or_behind cut_boxes new_boxes i (on_stack (address + 12 * j + n)) f)
      where
        by : FrontOrBehind cut_boxes new_boxes i (on_stack (address + 12 * j + n)) → ⊥
        by (at_front g) = let low = stack_above (stack_from a.y.arena) i (address + 12 * j + n) a.w.boxes g in let high = address_high in omega (arith, low, high, few)
        by (at_back m same g) = let at = new_low m (address + 12 * j + n) g in other (omega (arith, at, small))

    outer_bindings : BindingsAt setting inside y1 old a.around.bindings
    outer_bindings =
        bindings_inside setting placed a lent cost boxes old_places new_places heap_places a.around.bindings old (outer_around setting placed a).bindings

    abbrev inner_bindings : List (List ℕ × ℕ)
    inner_bindings = numbered (bound_names setting.names ds) (length a.z.state.variables) ++ a.around.bindings

    cells_inside : BindingsAt setting inside y1 first_cell inner_bindings
    cells_inside =
        bindings_stand setting address old (12 * count) address_aligned last last_aligned last_other inside y1 a.around.bindings from_inside (let above = address_low in omega (arith, above))
        outer_bindings plain_inside keeps ds ws 0 0 (length a.z.state.variables) (lent_arena setting placed a size) refl refl many (omega (arith, many)) are_lent names
        (λ i p f.
        behind_front cut_boxes new_boxes i (length a.z.state.variables + i) p
        (let same = cut_count (stack_from a.y.arena) a.w.boxes in let variables = a.begins.call.things.box_count in omega (arith, same, variables)) f)

    cell_word : HasWordAt y1 bindings_address first_cell
    cell_word =
        let t = a.begins.call.things in
        let high = heap_high in
        stored_here cells [] bindings_address first_cell (lent_arena setting placed a size)
        (in_spot_lent bindings_address (spot_grown (lent_grows setting placed a size room).heap (t.represents.spots (of_other 1) (control_spot setting) t.control)) refl
        (omega arith) (omega arith))
        (in_heap_there bindings_address (lent_grows setting placed a size room).stands (omega (arith, high))) tt tt

    -- **the form inside begins**
    pub opened :
        (n credit : ℕ) {r : FlatEvaluated} → size + 2 + n ≤ a.n → 96 + 94 * count ≤ credit
        → ((regs : Registers) (y : MidState)
        → Begins setting a.rs a.valid a.s (e + 2) n inside a.env (record a.around { bindings = inner_bindings }) (with_values vs a.z) regs y → length regs ≡ length a.regs
        → FormEnds setting 0 a.turns a.rs a.valid a.s (e + 2) inside a.env (record a.around { bindings = inner_bindings }) (with_values vs a.z) regs y r (exec c (code_of body) regs y))
        → Opened setting placed a c e size bindings_address (e + 1) (e + 2) n credit head body r
    opened n credit enough pays does =
        let within =
        lent_within setting placed a lent cost boxes old_places new_places heap_places r4
        (λ i low. ap word_in (after_cells i (omega (arith, low)) ∙ before i (omega (arith, low))))
        {old = old} {keeper = e + 1} {d = e + 2} {n = n} {bindings_cell = first_cell} {handlers_cell = (outer_around setting placed a).handlers_cell} {paid = put.total + 14 - a.y.cost}
        {vs = a.z.state.variables ++ vs} {bs = inner_bindings} {hs = a.around.handlers} things_inside cell_word cells_inside
        (control_stays setting placed a lent cost handlers_address (omega arith) (λ same. omega (arith, same)) ∙ (outer_around setting placed a).handlers_word)
        (handlers_inside setting placed a lent cost boxes old_places new_places heap_places a.around.handlers (outer_around setting placed a).handlers_cell (outer_around setting placed a).handlers)
        (omega (arith, enough)) (λ same. omega (arith, same)) (λ same. omega (arith, same)) (outer_around setting placed a).bindings_word cost_is count_four
        (λ i low. after_cells i (omega (arith, low)) ∙ before i (omega (arith, low))) (omega (arith)) (omega arith) (omega (arith, fits, count_four))
        (ap word_in (after_cells (e + 1) (omega arith)) ∙ old_held)
        in
        record {
          old = old;
          cost = put.total + 14 - a.y.cost;
          boxes = boxes;
          vs = a.z.state.variables ++ vs;
          bs = inner_bindings;
          hs = a.around.handlers;
          regs = r4;
          y = y1;
          within = within;
          runs = head_runs;
          does = does r4 y1 within.begins count_four;
          enough = omega (arith, put.within, many, pays);
        }
      where
        cost_is : cost ≡ a.y.cost + (put.total + 14 - a.y.cost)
        cost_is = omega (arith, total_more)
          where
            total_more : a.y.cost ≤ put.total + 14
            total_more = let least = put.least in omega (arith, least)
