-- **Words in registers are stored in a block that is lent**: as arguments they stand there while the code inside runs.
use Rattle.std.proofs.Common.{◌≡◌, inr, ℕ, zero, suc, ◌+◌, ◌*◌, ◌/◌, ◌%◌, ◌^◌, ◌<◌, ◌≤◌, true, List, [], ◌∷◌, ◌++◌, length, Some, refl, sym, ap, ◌∙◌, subst, ⊎_elim, arith}
use Rattle.std.specs.Prelude.{◌-◌, slice_get, slice_set}
use Rattle.std.proofs.Math.ListN.{length-set}
use Rattle.std.proofs.lemmas.Bool.{cases_lt, le-leb, lt-ltb, eq-eqb, and_from, or_left, or_right}
use Rattle.lang_meaning.specs.Prefixes.{IsPrefix}
use Rattle.lang_meaning.specs.State.{Limit, words, unlimited, Outcome}
use Rattle.lang_meaning.specs.Values.{Value}
use Rattle.flat_language.specs.FlatState.{FlatEvaluated}
use Rattle.mid_code.specs.Arena.{Arena, begin_of, left, stack_from, is_within, is_lent, word_in, word_at, with_word}
use Rattle.mid_code.specs.Law.{Grown}
use Rattle.mid_code.specs.Meaning.{Context, run_landing, run_inside, give_back, exec, exec_step}
use Rattle.mid_code.specs.MidCode.{with_block, no_step, code_of}
use Rattle.mid_code.specs.State.{Registers, register, MidState, landed, jumped}
use Rattle.mid_code.specs.State.{go_on as mid_go_on}
use Rattle.mid_code.proofs.Growth.{exec_grown, levels_grow, turns_grow}
use Rattle.mid_arena.specs.Places.{of_other, WordsOf}
use Rattle.mid_arena.specs.Standing.{ArenaStands}
use Rattle.mid_arena.proofs.Growing.{spot_below}
use Rattle.mid_arena.proofs.Lists.{set_elsewhere}
use Rattle.mid_arena.proofs.Memory.{lent_with_word}
use Rattle.mid_arena.proofs.Registers.{register_here}
use Rattle.mid_arena.proofs.Running.{none_left, parts_then}
use Rattle.back_lowering.specs.ControlWords.{handlers_address, bindings_address, end_address}
use Rattle.back_lowering.specs.Registers.{of_code, enough_for}
use Rattle.back_lowering.specs.Steps.{Steps, store_far, words_stored}
use Rattle.back_relation.specs.Setting.{Setting, control_spot}
use Rattle.back_relation.specs.Placed.{IsPlaced}
use Rattle.back_relation.specs.Room.{words_for_handler}
use Rattle.back_relation.specs.Worlds.{World, BoxPlace, on_heap, on_stack}
use Rattle.back_relation.specs.Things.{WithinLimit}
use Rattle.back_relation.specs.Around.{RoomFor}
use Rattle.back_relation.specs.Ends.{WorldKept, RoomEnded, stopped}
use Rattle.back_relation.specs.Forms.{Begins, FormEnds, code_at}
use Rattle.back_relation.specs.Procedures.{ArgumentsLent}
use Rattle.back_relation.specs.Cuts.{boxes_cut}
use Rattle.back_relation.specs.Starts.{FlatGrown, Start, EndsAt}
use Rattle.back_relation.specs.Stores.{stores, Differs, Aligned}
use Rattle.back_relation.proofs.Activations.{activation_later}
use Rattle.back_relation.proofs.Cuts.{later_cut}
use Rattle.back_relation.proofs.Fitting.{registers_front, registers_behind}
use Rattle.back_relation.proofs.Straight.{same_here}
use Rattle.back_relation.proofs.Then.{method_there_again}
use Rattle.back_relation.proofs.Windows.{stored_here, stored_elsewhere}
use Rattle.back_relation.proofs.Worlds.{later_same}
use Rattle.back_relation.proofs.Boxes.{stack_above, stack_stays}
use Rattle.back_exits.specs.Touching.{Touches}
use Rattle.back_exits.proofs.Steps.{laid_state, record_runs, record_wanting}
use Rattle.back_exits.proofs.Touching.{stored_blocks, stored_from, stored_heap}
use Rattle.back_conditions.proofs.Within.{outer_around, inner_world}
use Rattle.back_conditions.proofs.Lent.{lent_arena, lent_address, lent_state, Lent, lent_size, lent_high, lent_low, lent_above, lent_grows, lent_world, handlers_inside, bindings_inside, lent_within}
use Rattle.back_conditions.proofs.Cells.{WordsFrom, words_kept, StoredFar, stored_far, CellsLaid}
use Rattle.back_conditions.proofs.DynamicLet.{word_there}
use Rattle.back_generics.proofs.Blocks.{Laid, given_back, laid_ends}

-- ---- the words, and where they are stored

abbrev pub placed_words : (from : ℕ) → List ℕ → List (ℕ × ℕ)
placed_words from [] = []
placed_words from (w ∷ ws) = (from, w) ∷ placed_words (from + 4) ws

words_aligned : (from : ℕ) (ws : List ℕ) → from % 4 ≡ 0 → Aligned (placed_words from ws)
words_aligned from [] even = tt
words_aligned from (w ∷ ws) even = (even, words_aligned (from + 4) ws (omega (arith, even)))

words_differ : (x from : ℕ) (ws : List ℕ) → x < from → Differs x (placed_words from ws)
words_differ x from [] low = tt
words_differ x from (w ∷ ws) low = ((λ e. omega (arith, e, low)), words_differ x (from + 4) ws (omega (arith, low)))

words_touch : (low high from : ℕ) (ws : List ℕ) → low ≤ from → from + 4 * length ws ≤ high → from % 4 ≡ 0 → Touches low high (placed_words from ws)
words_touch low high from [] l h even = tt
words_touch low high from (w ∷ ws) l h even = (even, inr (l, omega (arith, h)), words_touch low high (from + 4) ws (omega (arith, l)) (omega (arith, h)) (omega (arith, even)))

-- words of an arena are lent, and there
record AreLentFrom (m : Arena) (from size : ℕ) : Type 0 where
  pub lent : (k : ℕ) → k < size → k % 4 ≡ 0 → is_lent m (from + k) ≡ true
  pub there : (k : ℕ) → k < size → (from + k) / 4 < length m.memory

lent_behind : (m : Arena) (from size x w : ℕ) → AreLentFrom m from (4 + size) → AreLentFrom (with_word x w m) (from + 4) size
lent_behind m from size x w h = record {
  lent = λ k few even.
      let same : from + (4 + k) ≡ from + 4 + k = omega arith in
      lent_with_word m x w (from + 4 + k) ∙ subst (λ p. is_lent m p ≡ true) same (h.lent (4 + k) (omega (arith, few)) (omega (arith, even)));
  there = λ k few.
      let same : from + (4 + k) ≡ from + 4 + k = omega arith in
      let at = h.there (4 + k) (omega (arith, few)) in
      let many : length (with_word x w m).memory ≡ length m.memory = length-set m.memory (x / 4) (Some w) in
      omega (arith, at, many);
}

-- each word stands at its place
words_stand :
    (ws : List ℕ) (from : ℕ) (m : Arena) → from % 4 ≡ 0 → AreLentFrom m from (4 * length ws) → (i w : ℕ) → slice_get ws i ≡ Some w
    → word_at (stores (placed_words from ws) m) (from + 4 * i) ≡ Some w
words_stand [] from m even h i w f = absurd (cc f)
words_stand (x ∷ ws) from m even h zero w f =
    let same : x ≡ w = cc f in
    let at : from + 0 ≡ from + 4 * zero = omega arith in
    let here : from + 0 ≡ from = omega arith in
    let found =
    stored_here [] (placed_words (from + 4) ws) from x m (subst (λ p. is_lent m p ≡ true) here (h.lent 0 (omega arith) refl)) (let there = h.there 0 (omega arith) in omega (arith, there))
    (words_aligned (from + 4) ws (omega (arith, even))) (words_differ from (from + 4) ws (omega arith)) in
    subst (λ p. word_at (stores (placed_words from (x ∷ ws)) m) p ≡ Some w) (sym here ∙ at) (found ∙ ap (λ v. Some v) same)
words_stand (x ∷ ws) from m even h (suc i) w f =
    let same : from + 4 + 4 * i ≡ from + 4 * suc i = omega arith in
    let size : 4 * length (x ∷ ws) ≡ 4 + 4 * length ws = omega arith in
    subst (λ p. word_at (stores (placed_words (from + 4) ws) (with_word from x m)) p ≡ Some w) same
    (words_stand ws (from + 4) (with_word from x m) (omega (arith, even)) (lent_behind m from (4 * length ws) from x (subst (λ n. AreLentFrom m from n) size h)) i w f)

-- the steps that store them
words_run :
    (setting : Setting) (c : Context) (b address size : ℕ) (aligned : address % 4 ≡ 0) (low : address + size < 2 ^ 32) (ws : List ℕ) (d offset : ℕ) (regs : Registers) (y : MidState)
    → d + length ws ≤ b → WordsFrom d ws regs → register b regs ≡ Some address → offset + 4 * length ws ≤ size → offset % 4 ≡ 0 → ((k : ℕ) → k < size → k % 4 ≡ 0 → is_lent y.arena (address + k) ≡ true)
    → enough_for (of_code (code_of (words_stored (length ws) d b (b + 1) offset))) ≤ length regs
    → CellsLaid setting c (words_stored (length ws) d b (b + 1) offset) (b + 1) (placed_words (address + offset) ws) (24 * length ws) regs y
words_run setting c b address size aligned low [] d offset regs y below there b_there few even lent enough = record {
  regs' = regs;
  total = y.cost;
  runs = none_left;
  same = λ i h. refl;
  count = refl;
  within = omega arith;
  least = omega arith;
}
words_run setting c b address size aligned low (w ∷ ws) d offset regs y below there b_there few even lent enough =
    let one : Steps = store_far d b (b + 1) offset in
    let others : Steps = words_stored (length ws) (d + 1) b (b + 1) (offset + 4) in
    let first : StoredFar c one (b + 1) (address + offset) w regs y =
    stored_far c d b (b + 1) offset address (address + offset) w regs y there.0 b_there (λ e. omega (arith, e, below)) (λ e. omega (arith, e)) refl (omega (arith, low, few))
    (lent offset (omega (arith, few)) even) (registers_front one others (length regs) enough) in
    let next : address + (offset + 4) ≡ address + offset + 4 = omega arith in
    let y2 : MidState = record y { arena = with_word (address + offset) w y.arena; cost = first.total } in
    let same : (i : ℕ) → i < b + 1 → slice_get first.regs' i ≡ slice_get regs i = λ i h. first.same i (λ e. omega (arith, e, h)) in
    let last : CellsLaid setting c others (b + 1) (placed_words (address + (offset + 4)) ws) (24 * length ws) first.regs' y2 =
    words_run setting c b address size aligned low ws (d + 1) (offset + 4) first.regs' y2 (omega (arith, below)) (words_kept (d + 1) (b + 1) ws regs first.regs' (omega (arith, below)) same there.1)
    (ap word_in (same b (omega arith)) ∙ b_there) (omega (arith, few)) (omega (arith, even)) (λ k few_k even_k. lent_with_word y.arena (address + offset) w (address + k) ∙ lent k few_k even_k)
    (subst (λ n. enough_for (of_code (code_of others)) ≤ n) (sym first.count) (registers_behind one others (length regs) enough)) in
    let behind = subst (λ p. CellsLaid setting c others (b + 1) (placed_words p ws) (24 * length ws) first.regs' y2) next last in
    record {
      regs' = behind.regs';
      total = behind.total;
      runs = parts_then one others first.runs behind.runs;
      same = λ i h. behind.same i h ∙ same i h;
      count = behind.count ∙ first.count;
      within = omega (arith, behind.within, first.within);
      least = omega (arith, behind.least, first.least);
    }

module _ (setting : Setting) (placed : IsPlaced setting) (a : Start setting) (k d0 : ℕ) (vs : List Value) (ws : List ℕ) (of_values : WordsOf a.w.places vs ws) (many : length vs ≡ length ws)
    (held : WordsFrom d0 ws a.regs) (low : a.d ≤ d0) (fits : d0 + length ws + 2 < length a.regs) where
  abbrev count : ℕ
  count = length ws

  abbrev e : ℕ
  e = d0 + count

  abbrev c : Context
  c = code_at setting k a.turns

  abbrev pub stored : Steps
  stored = words_stored count d0 e (e + 1) 0

  -- the code inside begins with the words lent, and the registers in front of the block's are as they were
  pub record Inside (n : ℕ) (w1 : World) (regs : Registers) (y : MidState) : Type 0 where
    pub laid : Laid setting placed a count (36 + 24 * count) n w1 regs y
    pub address : ℕ
    pub lent : ArgumentsLent setting w1 y.arena address vs
    pub block_held : register e regs ≡ Some address
    pub others : (i : ℕ) → i < e → slice_get regs i ≡ slice_get a.regs i
    pub places : w1.places ≡ a.w.places

  module _ (room : count + 2 ≤ left a.y.arena) (names : enough_for (of_code (code_of stored)) ≤ length a.regs) where
    abbrev address_there : ℕ
    address_there = lent_address setting placed a count

    stands : ArenaStands a.y.arena
    stands = a.begins.call.things.represents.arena

    address_high : address_there + 4 * count ≡ stack_from a.y.arena
    address_high = lent_high setting placed a count room

    address_low : a.y.arena.heap_to + 8 ≤ address_there
    address_low = lent_above setting placed a count room

    heap_high : end_address < a.y.arena.heap_to
    heap_high =
        let t = a.begins.call.things in
        let below = spot_below stands (t.represents.spots (of_other 1) (control_spot setting) t.control) in
        omega (arith, below)

    address_aligned : address_there % 4 ≡ 0
    address_aligned = omega arith

    small : address_there + 4 * count < 2 ^ 32
    small = omega (arith, address_high, stands.size, stands.blocks)

    block_lent : (n : ℕ) → n < 4 * count → n % 4 ≡ 0 → is_lent (lent_arena setting placed a count) (address_there + n) ≡ true
    block_lent n few even =
        let same = lent_size setting placed a count room in
        let high = address_high in
        let at : (address_there + n) % 4 ≡ 0 = omega (arith, even) in
        let below : address_there + n < begin_of (length (lent_arena setting placed a count).memory) a.y.arena.blocks = omega (arith, few, same, high) in
        let above : address_there ≤ address_there + n = omega arith in
        let inside : is_within address_there (begin_of (length (lent_arena setting placed a count).memory) a.y.arena.blocks) (address_there + n) ≡ true =
        and_from _ _ (le-leb address_there (address_there + n) above) (lt-ltb (address_there + n) (begin_of (length (lent_arena setting placed a count).memory) a.y.arena.blocks) below)
        in
        and_from _ _ (eq-eqb ((address_there + n) % 4) 0 at) (or_right _ _ (or_left _ _ inside))

    block_there : (n : ℕ) → n < 4 * count → (address_there + n) / 4 < length (lent_arena setting placed a count).memory
    block_there n few = let same = lent_size setting placed a count room in let high = address_high in omega (arith, few, same, high)

    abbrev ps : List (ℕ × ℕ)
    ps = placed_words (address_there + 0) ws

    from_zero : address_there + 0 ≡ address_there
    from_zero = omega arith

    abbrev y0 : MidState
    y0 = laid_state c e count a.d no_step no_step a.regs a.y

    abbrev r0 : Registers
    r0 = slice_set a.regs e (Some address_there)

    before : (i : ℕ) → i < e → slice_get r0 i ≡ slice_get a.regs i
    before i h = set_elsewhere a.regs e i (Some address_there) (λ same. omega (arith, same, h))

    put : CellsLaid setting c stored (e + 1) ps (24 * count) r0 y0
    put =
        words_run setting c e address_there (4 * count) address_aligned small ws d0 0 r0 y0 (omega arith) (words_kept d0 e ws a.regs r0 (omega arith) before held)
        (register_here a.regs e address_there (omega (arith, fits))) (omega arith) refl block_lent
        (subst (λ n. enough_for (of_code (code_of stored)) ≤ n) (sym (length-set a.regs e (Some address_there))) names)

    abbrev y1 : MidState
    y1 = lent_state setting placed a count ps put.total

    control_differs : (x : ℕ) → x ≤ end_address → Differs x ps
    control_differs x h = words_differ x (address_there + 0) ws (let high = heap_high in let above = address_low in omega (arith, h, high, above))

    lent : Lent setting placed a count handlers_address ps
    lent = record {
      room = room;
      touches = let high = address_high in words_touch address_there (stack_from a.y.arena) (address_there + 0) ws (omega arith) (omega (arith, high)) (omega (arith, address_aligned));
      only = λ x h other. control_differs x h;
      slot_stored = (omega arith, omega arith);
      slot_aligned = refl;
      slot_other = λ same. omega (arith, same);
    }

    control_says : (x : ℕ) → x ≤ end_address → word_at y1.arena x ≡ word_at a.y.arena x
    control_says x h =
        stored_elsewhere ps (lent_arena setting placed a count) x (words_aligned (address_there + 0) ws (omega (arith, address_aligned))) (control_differs x h)
        ∙ (lent_grows setting placed a count room).heap.words x (let high = heap_high in omega (arith, h, high))

    abbrev boxes : List BoxPlace
    boxes = boxes_cut (stack_from a.y.arena) a.w.boxes

    old_places : (i x : ℕ) → slice_get a.w.boxes i ≡ Some (on_stack x) → stack_from a.y.arena ≤ x → slice_get boxes i ≡ Some (on_stack x)
    old_places i x f h = stack_stays (stack_from a.y.arena) i x a.w.boxes f h

    new_places : (i x : ℕ) → slice_get boxes i ≡ Some (on_stack x) → stack_from a.y.arena ≤ x → slice_get a.w.boxes i ≡ Some (on_stack x)
    new_places i x f h = (later_cut (stack_from a.y.arena) a.w).none_new i x f

    heap_places : (i x : ℕ) → slice_get a.w.boxes i ≡ Some (on_heap x) → slice_get boxes i ≡ Some (on_heap x)
    heap_places i x f = (later_cut (stack_from a.y.arena) a.w).boxes i x f

    abbrev pub inside : World
    inside = inner_world setting placed a boxes

    kept : WorldKept setting a.w inside a.z a.z a.y y1
    kept = lent_world setting placed a lent put.total

    from_inside : stack_from y1.arena ≤ address_there
    from_inside = let at = lent_low setting placed a count room in omega (arith, at, stored_from ps (lent_arena setting placed a count))

    words_lent : ArgumentsLent setting inside y1.arena address_there vs
    words_lent = record {
      low = from_inside;
      is_word = let fits = small in omega (arith, fits);
      values = λ i few.
          let there = word_there a.w vs ws i of_values (omega (arith, few, many)) in
          record {
            word = there.word;
            of_value = there.of_value;
            stands =
                subst (λ x. word_at (stores (placed_words x ws) (lent_arena setting placed a count)) (address_there + 4 * i) ≡ Some there.word) (sym from_zero)
                (words_stand ws address_there (lent_arena setting placed a count) address_aligned (record { lent = block_lent; there = block_there }) i there.word there.here);
          };
      plain = λ n few i f. let above = stack_above (stack_from a.y.arena) i (address_there + n) a.w.boxes f in let high = address_high in omega (arith, above, high, few, many);
    }

    abbrev old : ℕ
    old = (outer_around setting placed a).handlers_cell

    -- registers that hold what the handlers' word says, which nothing asks for
    abbrev with_old : Registers
    with_old = slice_set put.regs' (a.d + 1) (Some old)

    put_count : length put.regs' ≡ length a.regs
    put_count = put.count ∙ length-set a.regs e (Some address_there)

    old_count : length with_old ≡ length a.regs
    old_count = length-set put.regs' (a.d + 1) (Some old) ∙ put_count

    put_same : (i : ℕ) → i < e → slice_get put.regs' i ≡ slice_get a.regs i
    put_same i h = put.same i (omega (arith, h)) ∙ before i h

    old_same : (i : ℕ) → i < a.d → slice_get with_old i ≡ slice_get put.regs' i
    old_same i h = set_elsewhere put.regs' (a.d + 1) i (Some old) (λ same. omega (arith, same, h))

    module _ (n : ℕ) (enough : n + (count + 2) ≤ a.n) where
      begins_with : Begins setting a.rs a.valid a.s (a.d + 2) n inside a.env a.around a.z with_old y1
      begins_with =
          (lent_within setting placed a lent put.total boxes old_places new_places heap_places with_old (λ i h. ap word_in (old_same i h ∙ put_same i (omega (arith, h, low))))
          {old = old} {keeper = a.d + 1} {d = a.d + 2} {n = n} {bindings_cell = (outer_around setting placed a).bindings_cell} {handlers_cell = old} {paid = put.total - a.y.cost}
          {vs = a.z.state.variables} {bs = a.around.bindings} {hs = a.around.handlers} kept.things
          (control_says bindings_address (omega arith) ∙ (outer_around setting placed a).bindings_word)
          (bindings_inside setting placed a lent put.total boxes old_places new_places heap_places a.around.bindings (outer_around setting placed a).bindings_cell (outer_around setting placed a).bindings)
          (control_says handlers_address (omega arith) ∙ (outer_around setting placed a).handlers_word)
          (handlers_inside setting placed a lent put.total boxes old_places new_places heap_places a.around.handlers old (outer_around setting placed a).handlers)
          (omega (arith, enough)) (λ same. omega (arith, same)) (λ same. omega (arith, same)) (outer_around setting placed a).handlers_word
          (let least = put.least in omega (arith, least)) old_count (λ i h. old_same i h ∙ put_same i (omega (arith, h, low))) (omega arith) (omega arith) (omega (arith, fits, old_count, low))
          (register_here put.regs' (a.d + 1) old (omega (arith, fits, put_count, low)))).begins

      begins_there : Begins setting a.rs a.valid a.s a.d n inside a.env a.around a.z put.regs' y1
      begins_there = record {
        call = begins_with.call;
        activation =
            activation_later setting {d = a.d} {y = y1} (later_same inside) (same_here inside refl) refl (λ m cs f. f) (λ i h. ap word_in (sym (old_same i h))) a.begins.scope begins_with.activation;
        scope = a.begins.scope;
        method_there =
            method_there_again setting y1.arena y1.arena with_old put.regs' a.s.code.method a.env.method (later_same inside) (omega arith)
            (λ r f. let own = (a.begins.scope.method r f).2.0 in ap word_in (sym (old_same (r + 2) own))) begins_with.method_there;
        first = omega (arith, fits, put_count, low);
      }

      words_inside : Inside n inside put.regs' y1
      words_inside = record {
        laid = record {
          begins = begins_there;
          room = room;
          world = kept;
          blocks = stored_blocks ps (lent_arena setting placed a count);
          heap_to = stored_heap ps (lent_arena setting placed a count);
          controls = λ x m h f. control_says x h ∙ f;
          paid = let within = put.within in omega (arith, within);
          register_count = put_count;
          same = λ i h. put_same i (omega (arith, h, low));
        };
        address = address_there;
        lent = words_lent;
        block_held = ap word_in (put.same e (omega arith)) ∙ register_here a.regs e address_there (omega (arith, fits));
        others = put_same;
        places = refl;
      }

  room_ended :
      (l : Limit) (n : ℕ) (o : Outcome) → setting.limit ≡ l → count + 2 ≤ n → RoomFor l (n + words_for_handler * length a.around.handlers) a.z.state a.y
      → WithinLimit l a.z.state → left a.y.arena < count + 2 → RoomEnded setting l o
  room_ended unlimited n o same h room within few = tt
  room_ended (words m) n o same h room within few = absurd (omega (arith, h, room, within, few))

  -- **words are lent to code**
  pub words_lent_to :
      (n credit word : ℕ) (body : Steps) {r : FlatEvaluated} → n + (count + 2) ≤ a.n → FlatGrown a.z r.state → enough_for (of_code (code_of stored)) ≤ length a.regs
      → ((w1 : World) (regs : Registers) (y : MidState) → Inside n w1 regs y
      → FormEnds setting credit a.turns a.rs a.valid a.s a.d w1 a.env a.around a.z regs y r (exec c (code_of body) regs y))
      → EndsAt setting (48 + 24 * count + credit) a r (exec_step c (with_block e count word (code_of (stored ++ body)) (code_of [])) a.regs a.y)
  words_lent_to n credit word body {r} enough grown names inner = ⊎_elim without there (cases_lt (left a.y.arena) (count + 2))
    where
      without : left a.y.arena < count + 2 → EndsAt setting (48 + 24 * count + credit) a r (exec_step c (with_block e count word (code_of (stored ++ body)) (code_of [])) a.regs a.y)
      without few =
          subst (λ q. EndsAt setting (48 + 24 * count + credit) a r q) (sym (record_wanting c e count word (code_of (stored ++ body)) (code_of []) a.regs a.y few))
          (stopped (record {
            because = (room_ended setting.limit a.n r.outcome refl (omega (arith, enough)) a.begins.call.room a.begins.call.things.within_limit few, few);
            printed = subst (λ ps. IsPrefix ps r.state.state.printed) (sym a.begins.call.things.represents.printed) grown.printed;
            paid = λ ended. omega (arith, grown.units);
          }))

      grows : (g : Registers) (v : MidState) → Grown v (exec c no_step g v).state
      grows g v =
          exec_grown c (levels_grow setting.procedures setting.turns_each k) (turns_grow setting.procedures _ (levels_grow setting.procedures setting.turns_each k) a.turns) no_step g v

      there : count + 2 ≤ left a.y.arena → EndsAt setting (48 + 24 * count + credit) a r (exec_step c (with_block e count word (code_of (stored ++ body)) (code_of [])) a.regs a.y)
      there some =
          let l = words_inside some names n enough in
          let total : 36 + 24 * count + credit + 12 ≡ 48 + 24 * count + credit = omega arith in
          subst (λ q. EndsAt setting (48 + 24 * count + credit) a r q) (sym (record_runs c e count word (code_of (stored ++ body)) (code_of []) a.regs a.y some ∙ whole))
          (subst (λ m. EndsAt setting m a r (given_back setting placed a c word (exec c (code_of body) (put some names).regs' (y1 some names)))) total
          (laid_ends setting placed a l.laid credit c word grows (inner (inside some names) (put some names).regs' (y1 some names) l)))
        where
          whole :
              landed (length a.y.arena.blocks) (run_landing (length a.y.arena.blocks) word (λ g v. exec c no_step g v))
              (run_inside (length a.y.arena.blocks) e (λ g v. exec c (code_of (stored ++ body)) g v) a.regs (y0 some names))
              ≡ given_back setting placed a c word (exec c (code_of body) (put some names).regs' (y1 some names))
          whole =
              ap
              (λ q. landed (length a.y.arena.blocks) (run_landing (length a.y.arena.blocks) word (λ g v. exec c no_step g v))
              (mid_go_on q (λ g v. jumped (give_back (length a.y.arena.blocks) g v))))
              ((parts_then {c = c} stored body (put some names).runs (record { same = refl })).same)
