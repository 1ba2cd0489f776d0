-- **A list is copied into a block that is lent**: where so many words are left, its words stand there as arguments while the code inside runs.
use Rattle.std.proofs.Common.{◌≡◌, inr, ℕ, zero, suc, ◌+◌, ◌*◌, ◌/◌, ◌%◌, ◌^◌, ◌<◌, ◌≤◌, true, List, [], ◌∷◌, length, Some, refl, sym, ◌∙◌, subst, arith}
use Rattle.std.specs.Prelude.{slice_set, slice_index_or}
use Rattle.std.proofs.Math.ListN.{length-set}
use Rattle.std.proofs.lemmas.Bool.{lt-ltb, le-leb, lt-leb}
use Rattle.lang_meaning.specs.State.{DynamicContext, Limit, words, unlimited}
use Rattle.lang_meaning.specs.Values.{Value, nil}
use Rattle.flat_language.specs.FlatState.{FlatState}
use Rattle.mid_code.specs.Arena.{Arena, lent_block, lent_from, left, stack_from, is_lent, word_at, with_word, with_new_block}
use Rattle.mid_code.specs.Meaning.{Context, give_back, exec, exec_step}
use Rattle.mid_code.specs.MidCode.{MidCode, lend}
use Rattle.mid_code.specs.State.{Registers, register, no_room, ends, with_arena, MidState}
use Rattle.mid_code.specs.State.{charged as mid_charged, go_on as mid_go_on}
use Rattle.mid_arena.specs.Growing.{Grows}
use Rattle.mid_arena.specs.Places.{end_of, WordsOf}
use Rattle.mid_arena.specs.Standing.{ArenaStands, ValueAt}
use Rattle.mid_arena.proofs.Growing.{spot_below}
use Rattle.mid_arena.proofs.Memory.{grows_with_new_block, lent_with_word}
use Rattle.mid_arena.proofs.Running.{some_found, first_chosen, second_chosen}
use Rattle.back_lowering.specs.ControlWords.{site_address, serials_address, current_address, link_address, handlers_address, bindings_address}
use Rattle.back_relation.specs.Setting.{Setting, control_spot}
use Rattle.back_relation.specs.Placed.{IsPlaced}
use Rattle.back_relation.specs.Room.{words_for_handler}
use Rattle.back_relation.specs.Worlds.{World, Standing}
use Rattle.back_relation.specs.StackWords.{HasWordAt}
use Rattle.back_relation.specs.Things.{Things}
use Rattle.back_relation.specs.Around.{RoomFor, CallBegins, SiteStored}
use Rattle.back_relation.specs.Procedures.{ArgumentsLent}
use Rattle.back_relation.specs.Cuts.{boxes_cut}
use Rattle.back_relation.specs.Stores.{stores, Differs, Aligned}
use Rattle.back_relation.proofs.Windows.{stored_here, stored_elsewhere}
use Rattle.back_relation.proofs.Boxes.{stack_above}
use Rattle.back_exits.specs.Going.{world_with}
use Rattle.back_exits.specs.Touching.{Touches, Touched, touched, ExitsMade}
use Rattle.back_exits.proofs.Touching.{world_touched, stored_blocks, stored_heap}
use Rattle.back_exits.proofs.Words.{control_of}
use Rattle.back_exits.proofs.Bodies.{around_deeper}
use Rattle.back_calling.specs.Lending.{with_lent, LentBegins}
use Rattle.back_generics.proofs.ListBlocks.{block_arena, block_at, block_from, block_to, block_low, block_aligned, block_lent, block_there, Opened, at_from, words_left, deeper}
use Rattle.back_generics.proofs.Copying.{placed_words}

-- ---- the step

module _ (c : Context) (block count n : ℕ) (inside : MidCode) (regs : Registers) (y : MidState) (held : register count regs ≡ Some n) (small : n < 2 ^ 24) where
  pub lend_runs :
      n + 2 ≤ left y.arena
      → exec_step c (lend block count inside) regs y
      ≡ mid_go_on
      (exec c inside (slice_set regs block (Some (lent_from (length (with_new_block (lent_block n) y.arena).memory) (with_new_block (lent_block n) y.arena).blocks))) (with_arena (with_new_block (lent_block n) y.arena) (mid_charged 36 y)))
      (λ g v. give_back (length y.arena.blocks) g v)
  unfolding exec
  lend_runs h = some_found _ regs _ held ∙ first_chosen _ _ regs _ (lt-ltb n (2 ^ 24) small) ∙ first_chosen _ _ regs _ (le-leb _ _ h)

  pub lend_wanting : left y.arena < n + 2 → exec_step c (lend block count inside) regs y ≡ ends (no_room (n + 2) (left y.arena)) regs (mid_charged 36 y)
  unfolding exec
  lend_wanting h = some_found _ regs _ held ∙ first_chosen _ _ regs _ (lt-ltb n (2 ^ 24) small) ∙ second_chosen _ _ regs _ (lt-leb _ _ h)

-- ---- words that are stored one after another

words_aligned : (from : ℕ) (ws : List ℕ) → from % 4 ≡ 0 → Aligned (placed_words from ws)
words_aligned from [] even = tt
words_aligned from (w ∷ ws) even = (even, words_aligned (from + 4) ws (omega (arith, even)))

words_differ : (x from : ℕ) (ws : List ℕ) → x < from → Differs x (placed_words from ws)
words_differ x from [] low = tt
words_differ x from (w ∷ ws) low = ((λ e. omega (arith, e, low)), words_differ x (from + 4) ws (omega (arith, low)))

words_touch : (low high from : ℕ) (ws : List ℕ) → low ≤ from → from + 4 * length ws ≤ high → from % 4 ≡ 0 → Touches low high (placed_words from ws)
words_touch low high from [] l h even = tt
words_touch low high from (w ∷ ws) l h even = (even, inr (l, omega (arith, h)), words_touch low high (from + 4) ws (omega (arith, l)) (omega (arith, h)) (omega (arith, even)))

-- words of an arena are lent, and there
record AreLentFrom (m : Arena) (from size : ℕ) : Type 0 where
  pub lent : (k : ℕ) → k < size → k % 4 ≡ 0 → is_lent m (from + k) ≡ true
  pub there : (k : ℕ) → k < size → (from + k) / 4 < length m.memory

lent_behind : (m : Arena) (from size x w : ℕ) → AreLentFrom m from (4 + size) → AreLentFrom (with_word x w m) (from + 4) size
lent_behind m from size x w h = record {
  lent = λ k few even.
      let same : from + (4 + k) ≡ from + 4 + k = omega arith in
      lent_with_word m x w (from + 4 + k) ∙ subst (λ p. is_lent m p ≡ true) same (h.lent (4 + k) (omega (arith, few)) (omega (arith, even)));
  there = λ k few.
      let same : from + (4 + k) ≡ from + 4 + k = omega arith in
      let at = h.there (4 + k) (omega (arith, few)) in
      let many : length (with_word x w m).memory ≡ length m.memory = length-set m.memory (x / 4) (Some w) in
      omega (arith, at, many);
}

-- each value stands at its place
values_stand :
    (setting : Setting) (w : World) (vs : List Value) (ws : List ℕ) (from : ℕ) (m : Arena) → WordsOf w.places vs ws → from % 4 ≡ 0 → AreLentFrom m from (4 * length ws) → (i : ℕ) → i < length vs
    → ValueAt w.places (stores (placed_words from ws) m) (from + 4 * i) (slice_index_or vs i nil)
values_stand setting w [] ws from m of even h i few = absurd (omega (arith, few))
values_stand setting w (v ∷ vs) [] from m of even h i few = absurd of
values_stand setting w (v ∷ vs) (x ∷ xs) from m of even h zero few =
    let at : from + 0 ≡ from + 4 * zero = omega arith in
    let here : from + 0 ≡ from = omega arith in
    let found =
    stored_here [] (placed_words (from + 4) xs) from x m (subst (λ p. is_lent m p ≡ true) here (h.lent 0 (omega arith) refl)) (let there = h.there 0 (omega arith) in omega (arith, there))
    (words_aligned (from + 4) xs (omega (arith, even))) (words_differ from (from + 4) xs (omega arith)) in
    record { word = x; of_value = of.0; stands = subst (λ p. word_at (stores (placed_words from (x ∷ xs)) m) p ≡ Some x) (sym here ∙ at) found }
values_stand setting w (v ∷ vs) (x ∷ xs) from m of even h (suc i) few =
    let same : from + 4 + 4 * i ≡ from + 4 * suc i = omega arith in
    let size : 4 * length (x ∷ xs) ≡ 4 + 4 * length xs = omega arith in
    subst (λ p. ValueAt w.places (stores (placed_words (from + 4) xs) (with_word from x m)) p (slice_index_or vs i nil)) same
    (values_stand setting w vs xs (from + 4) (with_word from x m) of.1 (omega (arith, even)) (lent_behind m from (4 * length xs) from x (subst (λ n. AreLentFrom m from n) size h)) i (omega (arith, few)))

-- ---- where the code inside runs

module _ (setting : Setting) (placed : IsPlaced setting) (w : World) (z : FlatState) (y : MidState) (vs : List Value) (ws : List ℕ) (n : ℕ) (many_values : length vs ≡ n) (many_words : length ws ≡ n)
    (things : Things setting w z y) (of_values : WordsOf w.places vs ws) (room : n + 2 ≤ left y.arena) where
  stands : ArenaStands y.arena
  stands = things.represents.arena

  abbrev pub inner : Arena
  inner = block_arena n things.represents.arena room

  abbrev pub at : ℕ
  at = block_at n things.represents.arena room

  grows : Grows y.arena inner
  grows = grows_with_new_block (lent_block n) stands room

  to : at + 4 * n ≡ stack_from y.arena
  to = block_to n stands room

  below_heap : end_of (control_spot setting) ≤ y.arena.heap_to
  below_heap = spot_below stands (control_of setting things)

  above : 220 ≤ at
  above = let low = block_low n stands room in let below = below_heap in omega (arith, low, below)

  pub aligned : at % 4 ≡ 0
  aligned = block_aligned n stands room

  pub at_small : at + 4 * n < 2 ^ 32
  at_small = let t = to in let size = stands.size in let fits = stands.blocks in omega (arith, t, size, fits)

  pub inner_lent : (k : ℕ) → k < 4 * n → k % 4 ≡ 0 → is_lent inner (at + k) ≡ true
  inner_lent k few even = block_lent n stands room k few even

  pub inner_heap : inner.heap_to ≤ at
  inner_heap = let low = block_low n stands room in omega (arith, low)

  pub inner_words : (x : ℕ) → x < y.arena.heap_to → word_at inner x ≡ word_at y.arena x
  inner_words x low = grows.words x low

  abbrev pub puts : List (ℕ × ℕ)
  puts = placed_words at ws

  abbrev pub block_laid : MidState
  block_laid = with_arena inner (mid_charged 36 y)

  abbrev pub w_lent : World
  w_lent = world_with (boxes_cut (stack_from y.arena) w.boxes) w.exit_forms w

  module _ (total : ℕ) where
    abbrev pub y_lent : MidState
    y_lent = touched puts inner total y

    before : (x m : ℕ) → x < 220 → HasWordAt y x m → HasWordAt y_lent x m
    before x m low e =
        let up = above in
        let below = below_heap in
        stored_elsewhere puts inner x (words_aligned at ws aligned) (words_differ x at ws (omega (arith, up, low))) ∙ grows.words x (omega (arith, low, below)) ∙ e

    touching : Touched y.arena inner puts (stack_from y.arena)
    touching = record {
      grows = grows;
      from = at;
      to = at + 4 * n;
      touches = words_touch at (at + 4 * n) at ws (omega arith) (omega (arith, many_words)) aligned;
      low = let low = block_low n stands room in omega (arith, low);
      high = let t = to in omega (arith, t);
      before = omega arith;
      after = let from = block_from n stands room in let t = to in omega (arith, from, t);
      least = λ x low high. low;
    }

    made : ExitsMade w z w.exit_forms z.state.exits (stores puts inner)
    made =
        let s = things.serials in
        record {
          drawn = s.0;
          word = before serials_address s.0 (omega arith) s.1;
          count = s.2;
          low = s.3;
          more = omega arith;
          form_count = things.exit_forms;
          forms_kept = λ e o f. f;
        }

    pub opened : Opened setting n w w_lent z y y_lent
    opened = record {
      room = room;
      stands = stands;
      world = world_touched setting total z.state.made placed things touching made;
      blocks = stored_blocks puts inner;
      heap_to = stored_heap puts inner;
      control = record {
        current = λ m e. before current_address m (omega arith) e;
        link = λ m e. before link_address m (omega arith) e;
        handlers = λ m e. before handlers_address m (omega arith) e;
        bindings = λ m e. before bindings_address m (omega arith) e;
      };
    }

    pub site_lent : (around : DynamicContext) → SiteStored setting around y → SiteStored setting around y_lent
    site_lent around s = (s.0, before site_address s.0 (omega arith) s.1, s.2)

    pub begins_lent :
        {rs valid : List Standing} {around : DynamicContext} (room_here : ℕ) → CallBegins setting rs valid room_here w around z y → LentBegins setting rs valid room_here (length vs) w_lent around z y_lent
    begins_lent {around = around} room_here b = record {
      things = opened.world.things;
      around_stands = around_deeper setting opened.world.later (deeper setting opened) opened.control opened.world.end (omega arith) b.around_stands;
      room = by setting.limit b.room;
    }
      where
        by : (l : Limit) → RoomFor l (room_here + words_for_handler * length around.handlers) z.state y → RoomFor l (room_here + words_for_handler * length around.handlers) (with_lent (length vs) z.state) y_lent
        by unlimited h = tt
        by (words m) h = let fewer = words_left setting opened in omega (arith, h, fewer, many_values)

    pub arguments : ArgumentsLent setting w_lent y_lent.arena at vs
    arguments = record {
      low = let from = at_from setting opened in omega (arith, from);
      is_word = let small = at_small in omega (arith, small);
      values = λ i few.
          values_stand setting w_lent vs ws at inner of_values aligned
          (record { lent = λ k few even. inner_lent k (omega (arith, few, many_words)) even; there = λ k few. block_there n stands room k (omega (arith, few, many_words)) }) i few;
      plain = λ k few j e. let low = stack_above (stack_from y.arena) j (at + k) w.boxes e in let t = to in omega (arith, low, t, few, many_values);
    }
