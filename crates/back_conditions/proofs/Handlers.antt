-- **A handler around a form**: its cell is stored in a block that is lent, and is the innermost one while the form runs.
use Rattle.std.proofs.Common.{◌≡◌, inl, inr, ℕ, ◌+◌, ◌/◌, ◌%◌, ◌^◌, ◌<◌, ◌≤◌, true, List, [], ◌∷◌, length, Some, refl, ap, ◌∙◌, arith}
use Rattle.std.specs.Prelude.{slice_get, slice_set}
use Rattle.std.proofs.Math.ListN.{length-set}
use Rattle.std.proofs.lemmas.Bool.{ne_eqb, le-leb, lt-ltb, eq-eqb, and_from, or_left, or_right}
use Rattle.lang_meaning.specs.Values.{Value}
use Rattle.flat_language.specs.FlatState.{FlatEvaluated}
use Rattle.mid_code.specs.Arena.{begin_of, left, stack_from, is_within, is_lent, word_in, word_at, with_word}
use Rattle.mid_code.specs.Meaning.{Context, exec}
use Rattle.mid_code.specs.MidCode.{no_step, code_of}
use Rattle.mid_code.specs.State.{Registers, register, falls, ends, MidState}
use Rattle.mid_arena.specs.Places.{of_other, word_of}
use Rattle.mid_arena.specs.Standing.{ArenaStands}
use Rattle.mid_arena.proofs.Growing.{spot_below, spot_grown}
use Rattle.mid_arena.proofs.Lists.{set_elsewhere}
use Rattle.mid_arena.proofs.Memory.{word_elsewhere, in_spot_lent, in_heap_there, lent_with_word}
use Rattle.mid_arena.proofs.Registers.{register_here, register_beside}
use Rattle.mid_arena.proofs.Running.{RunsTo, and_then, none_left, costing, constant_falls, load_falls, store_falls, address_above}
use Rattle.back_lowering.specs.ControlWords.{handlers_address, bindings_address, end_address, handler_function, handler_outer, handler_words}
use Rattle.back_lowering.specs.Steps.{Steps, constant, load, store}
use Rattle.back_relation.specs.Setting.{Setting, control_spot}
use Rattle.back_relation.specs.Placed.{IsPlaced}
use Rattle.back_relation.specs.Room.{words_for_handler}
use Rattle.back_relation.specs.Worlds.{World, BoxPlace, on_heap, on_stack, Plain}
use Rattle.back_relation.specs.StackWords.{HasWordAt, HandlersAt}
use Rattle.back_relation.specs.Things.{Things}
use Rattle.back_relation.specs.Forms.{Begins, FormEnds, code_at}
use Rattle.back_relation.specs.Cuts.{boxes_cut}
use Rattle.back_relation.specs.Starts.{Start}
use Rattle.back_relation.proofs.Cuts.{later_cut}
use Rattle.back_relation.proofs.Windows.{stored_here}
use Rattle.back_relation.proofs.Boxes.{stack_above, stack_stays}
use Rattle.back_exits.proofs.Steps.{laid_state}
use Rattle.back_exits.proofs.Touching.{stored_from}
use Rattle.back_conditions.proofs.Within.{outer_around, inner_world}
use Rattle.back_conditions.proofs.Lent.{lent_arena, lent_address, lent_state, Lent, lent_size, lent_high, lent_low, lent_above, lent_grows, lent_world, control_stays, handlers_inside, bindings_inside, lent_within}
use Rattle.back_conditions.proofs.Lending.{Opened}

-- the steps in front of the form
abbrev pub handler_steps : (d : ℕ) → Steps
handler_steps d =
    store d (d + 1) handler_function ∷ constant d 0 ∷ load (d + 2) d handlers_address ∷ store (d + 2) (d + 1) handler_outer ∷ store (d + 1) d handlers_address ∷ []

module _ (setting : Setting) (placed : IsPlaced setting) (a : Start setting) (k : ℕ) (h : Value) (word : ℕ) (held : register a.d a.regs ≡ Some word) (of_value : word_of a.w.places h ≡ Some word)
    (body : Steps) (room : handler_words + 2 ≤ left a.y.arena) (fits : a.d + 3 < length a.regs) where
  abbrev e : ℕ
  e = a.d + 1

  abbrev c : Context
  c = code_at setting k a.turns

  abbrev pub handler_head : Steps
  handler_head = handler_steps a.d

  abbrev address : ℕ
  address = lent_address setting placed a handler_words

  abbrev old : ℕ
  old = (outer_around setting placed a).handlers_cell

  stands : ArenaStands a.y.arena
  stands = a.begins.call.things.represents.arena

  address_high : address + 8 ≡ stack_from a.y.arena
  address_high = lent_high setting placed a handler_words room

  address_low : a.y.arena.heap_to + 8 ≤ address
  address_low = lent_above setting placed a handler_words room

  heap_high : end_address < a.y.arena.heap_to
  heap_high =
      let t = a.begins.call.things in
      let below = spot_below stands (t.represents.spots (of_other 1) (control_spot setting) t.control) in
      omega (arith, below)

  aligned : address % 4 ≡ 0
  aligned = omega arith

  small : address + 8 < 2 ^ 32
  small = omega (arith, address_high, stands.size, stands.blocks)

  block_lent : (n : ℕ) → n < 8 → n % 4 ≡ 0 → is_lent (lent_arena setting placed a handler_words) (address + n) ≡ true
  block_lent n few even =
      let same = lent_size setting placed a handler_words room in
      let high = address_high in
      let at : (address + n) % 4 ≡ 0 = omega (arith, even) in
      let below : address + n < begin_of (length (lent_arena setting placed a handler_words).memory) a.y.arena.blocks = omega (arith, few, same, high) in
      let low : address ≤ address + n = omega arith in
      let inside : is_within address (begin_of (length (lent_arena setting placed a handler_words).memory) a.y.arena.blocks) (address + n) ≡ true =
      and_from _ _ (le-leb address (address + n) low) (lt-ltb (address + n) (begin_of (length (lent_arena setting placed a handler_words).memory) a.y.arena.blocks) below)
      in
      and_from _ _ (eq-eqb ((address + n) % 4) 0 at) (or_right _ _ (or_left _ _ inside))

  block_there : (n : ℕ) → n < 8 → (address + n) / 4 < length (lent_arena setting placed a handler_words).memory
  block_there n few = let same = lent_size setting placed a handler_words room in let high = address_high in omega (arith, few, same, high)

  control_lent : is_lent (lent_arena setting placed a handler_words) handlers_address ≡ true
  control_lent =
      let t = a.begins.call.things in
      in_spot_lent handlers_address (spot_grown (lent_grows setting placed a handler_words room).heap (t.represents.spots (of_other 1) (control_spot setting) t.control)) refl
      (omega arith) (omega arith)

  abbrev ps : List (ℕ × ℕ)
  ps = (address + handler_function, word) ∷ (address + handler_outer, old) ∷ (handlers_address, address) ∷ []

  abbrev y0 : MidState
  y0 = laid_state c e handler_words a.d no_step no_step a.regs a.y

  abbrev r0 : Registers
  r0 = slice_set a.regs e (Some address)

  abbrev r1 : Registers
  r1 = slice_set r0 a.d (Some 0)

  abbrev r2 : Registers
  r2 = slice_set r1 (a.d + 2) (Some old)

  size_zero : length r0 ≡ length a.regs
  size_zero = length-set a.regs e (Some address)

  size_one : length r1 ≡ length a.regs
  size_one = length-set r0 a.d (Some 0) ∙ size_zero

  size_two : length r2 ≡ length a.regs
  size_two = length-set r1 (a.d + 2) (Some old) ∙ size_one

  old_word : word_at (with_word (address + handler_function) word y0.arena) handlers_address ≡ Some old
  old_word =
      let high = heap_high in
      let above = address_low in
      word_elsewhere y0.arena (address + handler_function) word handlers_address (omega (arith, aligned))
      (ne_eqb (address + handler_function) handlers_address (λ same. omega (arith, same, high, above)))
      ∙ (lent_grows setting placed a handler_words room).heap.words handlers_address (omega (arith, high)) ∙ (outer_around setting placed a).handlers_word

  abbrev cost : ℕ
  cost = a.y.cost + 36 + 38

  abbrev y1 : MidState
  y1 = lent_state setting placed a handler_words ps cost

  head_runs : RunsTo c (code_of handler_head) r0 y0 (ends falls r2 y1)
  head_runs =
      costing {n = cost}
      (and_then
      (store_falls (register_beside a.regs e a.d (Some address) (λ same. omega (arith, same)) ∙ held) (register_here a.regs e address (omega (arith, fits)))
      (address_above address handler_function (address + handler_function) refl (omega (arith, small))) (block_lent handler_function (omega arith) refl))
      (and_then constant_falls
      (and_then
      (load_falls (register_here r0 a.d 0 (omega (arith, fits, size_zero))) (address_above 0 handlers_address handlers_address (omega arith) (omega arith)) old_word)
      (and_then
      (store_falls (register_here r1 (a.d + 2) old (omega (arith, fits, size_one)))
      (register_beside r1 (a.d + 2) e (Some old) (λ same. omega (arith, same)) ∙ register_beside r0 a.d e (Some 0) (λ same. omega (arith, same)) ∙ register_here a.regs e address (omega (arith, fits)))
      (address_above address handler_outer (address + handler_outer) refl (omega (arith, small)))
      (lent_with_word (lent_arena setting placed a handler_words) (address + handler_function) word (address + handler_outer) ∙ block_lent handler_outer (omega arith) refl))
      (and_then
      (store_falls
      (register_beside r1 (a.d + 2) e (Some old) (λ same. omega (arith, same)) ∙ register_beside r0 a.d e (Some 0) (λ same. omega (arith, same)) ∙ register_here a.regs e address (omega (arith, fits)))
      (register_beside r1 (a.d + 2) a.d (Some old) (λ same. omega (arith, same)) ∙ register_here r0 a.d 0 (omega (arith, fits, size_zero)))
      (address_above 0 handlers_address handlers_address (omega arith) (omega arith))
      (lent_with_word (with_word (address + handler_function) word (lent_arena setting placed a handler_words)) (address + handler_outer) old handlers_address
      ∙ lent_with_word (lent_arena setting placed a handler_words) (address + handler_function) word handlers_address ∙ control_lent))
      none_left)))))
      (omega arith)

  -- ---- what stands inside

  lent : Lent setting placed a handler_words handlers_address ps
  lent = record {
    room = room;
    touches =
        let high = address_high in
        (omega (arith, aligned), inr (omega arith, omega (arith, high)), (omega (arith, aligned), inr (omega arith, omega (arith, high)), (refl, inl (omega arith, omega arith), tt)));
    only = λ x low other.
        let high = heap_high in
        let above = address_low in
        ((λ same. omega (arith, same, low, high, above)), ((λ same. omega (arith, same, low, high, above)), (other, tt)));
    slot_stored = (omega arith, omega arith);
    slot_aligned = refl;
    slot_other = λ same. omega (arith, same);
  }

  abbrev boxes : List BoxPlace
  boxes = boxes_cut (stack_from a.y.arena) a.w.boxes

  old_places : (i x : ℕ) → slice_get a.w.boxes i ≡ Some (on_stack x) → stack_from a.y.arena ≤ x → slice_get boxes i ≡ Some (on_stack x)
  old_places i x f low = stack_stays (stack_from a.y.arena) i x a.w.boxes f low

  new_places : (i x : ℕ) → slice_get boxes i ≡ Some (on_stack x) → stack_from a.y.arena ≤ x → slice_get a.w.boxes i ≡ Some (on_stack x)
  new_places i x f low = (later_cut (stack_from a.y.arena) a.w).none_new i x f

  heap_places : (i x : ℕ) → slice_get a.w.boxes i ≡ Some (on_heap x) → slice_get boxes i ≡ Some (on_heap x)
  heap_places i x f = (later_cut (stack_from a.y.arena) a.w).boxes i x f

  abbrev inside : World
  inside = inner_world setting placed a boxes

  things_inside : Things setting inside a.z y1
  things_inside = (lent_world setting placed a lent cost).things

  plain_inside : (n : ℕ) → n < 8 → Plain inside (address + n)
  plain_inside n few i f = let low = stack_above (stack_from a.y.arena) i (address + n) a.w.boxes f in let high = address_high in omega (arith, low, high, few)

  from_inside : stack_from y1.arena ≤ address
  from_inside = let low = lent_low setting placed a handler_words room in omega (arith, low, stored_from ps (lent_arena setting placed a handler_words))

  says_function : word_at y1.arena (address + handler_function) ≡ Some word
  says_function =
      let high = heap_high in
      let above = address_low in
      stored_here [] ((address + handler_outer, old) ∷ (handlers_address, address) ∷ []) (address + handler_function) word (lent_arena setting placed a handler_words)
      (block_lent handler_function (omega arith) refl) (block_there handler_function (omega arith)) (omega (arith, aligned), (refl, tt))
      ((λ same. omega (arith, same)), ((λ same. omega (arith, same, high, above)), tt))

  says_outer : word_at y1.arena (address + handler_outer) ≡ Some old
  says_outer =
      let high = heap_high in
      let above = address_low in
      stored_here ((address + handler_function, word) ∷ []) ((handlers_address, address) ∷ []) (address + handler_outer) old (lent_arena setting placed a handler_words)
      (block_lent handler_outer (omega arith) refl) (block_there handler_outer (omega arith)) (refl, tt) ((λ same. omega (arith, same, high, above)), tt)

  says_cell : HasWordAt y1 handlers_address address
  says_cell =
      let high = heap_high in
      stored_here ((address + handler_function, word) ∷ (address + handler_outer, old) ∷ []) [] handlers_address address (lent_arena setting placed a handler_words) control_lent
      (in_heap_there handlers_address (lent_grows setting placed a handler_words room).stands (omega (arith, high))) tt tt

  handlers_there : HandlersAt inside y1 address (h ∷ a.around.handlers)
  handlers_there =
      let above = address_low in (
        record { word = word; of_value = of_value; stands = says_function },
        from_inside,
        plain_inside handler_function (omega arith),
        plain_inside handler_outer (omega arith),
        omega (arith, above),
        (
          old,
          says_outer,
          handlers_inside setting placed a lent cost boxes old_places new_places heap_places a.around.handlers old (outer_around setting placed a).handlers,
        ),
      )

  before : (i : ℕ) → i < a.d → slice_get r2 i ≡ slice_get a.regs i
  before i low =
      set_elsewhere r1 (a.d + 2) i (Some old) (λ same. omega (arith, same, low)) ∙ set_elsewhere r0 a.d i (Some 0) (λ same. omega (arith, same, low))
      ∙ set_elsewhere a.regs e i (Some address) (λ same. omega (arith, same, low))

  -- **the form inside begins**
  pub handler_opened :
      (n credit : ℕ) {r : FlatEvaluated} → 4 + words_for_handler + n ≤ a.n → 106 ≤ credit
      → ((regs : Registers) (y : MidState) → Begins setting a.rs a.valid a.s (a.d + 3) n inside a.env (record a.around { handlers = h ∷ a.around.handlers }) a.z regs y
      → length regs ≡ length a.regs
      → FormEnds setting 0 a.turns a.rs a.valid a.s (a.d + 3) inside a.env (record a.around { handlers = h ∷ a.around.handlers }) a.z regs y r (exec c (code_of body) regs y))
      → Opened setting placed a c e handler_words handlers_address (a.d + 2) (a.d + 3) n credit handler_head body r
  handler_opened n credit enough pays does =
      let within =
      lent_within setting placed a lent cost boxes old_places new_places heap_places r2 (λ i low. ap word_in (before i low))
      {old = old} {keeper = a.d + 2} {d = a.d + 3} {n = n} {bindings_cell = (outer_around setting placed a).bindings_cell} {handlers_cell = address} {paid = 74}
      {vs = a.z.state.variables} {bs = a.around.bindings} {hs = h ∷ a.around.handlers} things_inside
      (control_stays setting placed a lent cost bindings_address (omega arith) (λ same. omega (arith, same)) ∙ (outer_around setting placed a).bindings_word)
      (bindings_inside setting placed a lent cost boxes old_places new_places heap_places a.around.bindings (outer_around setting placed a).bindings_cell (outer_around setting placed a).bindings)
      says_cell handlers_there (omega (arith, enough)) (λ same. omega (arith, same)) (λ same. omega (arith, same)) (outer_around setting placed a).handlers_word (omega arith) size_two before
      (omega arith) (omega arith) (omega (arith, fits, size_two)) (register_here r1 (a.d + 2) old (omega (arith, fits, size_one)))
      in
      record {
        old = old;
        cost = 74;
        boxes = boxes;
        vs = a.z.state.variables;
        bs = a.around.bindings;
        hs = h ∷ a.around.handlers;
        regs = r2;
        y = y1;
        within = within;
        runs = head_runs;
        does = does r2 y1 within.begins size_two;
        enough = omega (arith, pays);
      }
