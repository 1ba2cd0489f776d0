-- A block that was laid: what stands inside it, how transfers pass out of it, and where it is given back.
use Rattle.std.proofs.Common.{◌≡◌, ℕ, ◌+◌, ◌*◌, ◌/◌, ◌<◌, ◌≤◌, true, List, [], ◌∷◌, length, Some, refl, sym, ap, ◌∙◌, arith}
use Rattle.std.specs.Prelude.{◌%◌, if◌then◌else◌}
use Rattle.std.proofs.lemmas.Bool.{le-leb, lt-ltb, eq-eqb, ne_eqb, and_from, or_left, or_right}
use Rattle.lang_meaning.specs.Counts.{unit_cost}
use Rattle.lang_meaning.specs.State.{DynamicContext}
use Rattle.flat_language.specs.FlatState.{FlatState, FlatEvaluated}
use Rattle.mid_code.specs.Arena.{Arena, record_of, begin_of, lent_from, left, stack_from, words_of, blocks_from, is_within, is_lent, with_blocks, with_new_block}
use Rattle.mid_code.specs.State.{Registers, MidState, MidOutcome, cuts, ends}
use Rattle.mid_code.proofs.Growth.{length-emptied}
use Rattle.mid_arena.specs.Growing.{Grows}
use Rattle.mid_arena.specs.Places.{of_other}
use Rattle.mid_arena.specs.Standing.{ArenaStands}
use Rattle.mid_arena.proofs.Growing.{spot_below}
use Rattle.mid_arena.proofs.Memory.{room_below, grows_with_blocks}
use Rattle.back_lowering.specs.ControlWords.{serials_address}
use Rattle.back_relation.specs.Setting.{Setting, control_spot}
use Rattle.back_relation.specs.Placed.{IsPlaced}
use Rattle.back_relation.specs.Worlds.{World, Standing, record_of_exit, first_stop}
use Rattle.back_relation.specs.Ends.{ChargedFrom, TakenCharged, WorldKept, Transfers, walk_cost}
use Rattle.back_relation.specs.Cuts.{boxes_cut}
use Rattle.back_relation.specs.Stores.{stores}
use Rattle.back_relation.proofs.Windows.{stored_elsewhere}
use Rattle.back_relation.proofs.Worlds.{Deeper}
use Rattle.back_exits.specs.Going.{world_with}
use Rattle.back_exits.specs.Touching.{Touched, touched, ExitsMade}
use Rattle.back_exits.proofs.Inside.{world_both}
use Rattle.back_exits.proofs.Leaving.{AreControls, controls_touch, controls_aligned, controls_differ}
use Rattle.back_exits.proofs.Touching.{world_touched, stored_from, stored_heap}

-- ---- the words of a block that was laid

module _ (n : ℕ) {a : Arena} (stands : ArenaStands a) (room : n + 2 ≤ left a) where
  abbrev pub block_arena : Arena
  block_arena = with_new_block (record_of n) a

  abbrev pub block_at : ℕ
  block_at = lent_from (length block_arena.memory) block_arena.blocks

  pub block_size : length block_arena.memory ≡ length a.memory
  block_size = length-emptied _ (record_of n).words a.memory

  pub block_from : stack_from block_arena + 8 ≡ block_at
  block_from = omega arith

  pub block_to : block_at + 4 * n ≡ stack_from a
  block_to = omega (arith, block_size, room_below (n + 2) stands room)

  pub block_low : a.heap_to + 8 ≤ block_at
  block_low = omega (arith, block_to, room_below (n + 2) stands room)

  pub block_aligned : block_at % 4 ≡ 0
  block_aligned = omega arith

  pub block_lent : (k : ℕ) → k < 4 * n → k % 4 ≡ 0 → is_lent block_arena (block_at + k) ≡ true
  block_lent k few aligned =
      let word : (block_at + k) % 4 ≡ 0 = omega (arith, aligned) in
      let low : block_at ≤ block_at + k = omega arith in
      let high : block_at + k < begin_of (length block_arena.memory) a.blocks = omega (arith, few, block_size, block_to) in
      let inside : is_within block_at (begin_of (length block_arena.memory) a.blocks) (block_at + k) ≡ true =
      and_from _ _ (le-leb block_at (block_at + k) low) (lt-ltb (block_at + k) (begin_of (length block_arena.memory) a.blocks) high) in
      and_from _ _ (eq-eqb ((block_at + k) % 4) 0 word) (or_right _ _ (or_left _ _ inside))

  pub block_there : (k : ℕ) → k < 4 * n → (block_at + k) / 4 < length block_arena.memory
  block_there k few = omega (arith, few, block_size, block_to)

-- ---- what stands inside

module _ (setting : Setting) where
  -- a block of so many words was laid, and nothing was taken or given back
  pub record Opened (n : ℕ) (w w1 : World) (z z1 : FlatState) (y y1 : MidState) : Type 0 where
    pub room : n + 2 ≤ left y.arena
    pub stands : ArenaStands y.arena
    pub world : WorldKept setting w w1 z z1 y y1
    pub blocks : y1.arena.blocks ≡ record_of n ∷ y.arena.blocks
    pub heap_to : y1.arena.heap_to ≡ y.arena.heap_to
    pub heap : z1.state.heap ≡ z.state.heap
    pub stack : z1.state.stack ≡ z.state.stack

  module _ {n : ℕ} {w w1 : World} {z z1 : FlatState} {y y1 : MidState} (o : Opened n w w1 z z1 y y1) where
    abbrev pub at : ℕ
    at = block_at n o.stands o.room

    pub at_from : stack_from y1.arena + 8 ≡ at
    at_from =
        let same = o.world.same_size in
        let size = block_size n o.stands o.room in
        let from = block_from n o.stands o.room in
        let here : stack_from y1.arena ≡ begin_of (length y1.arena.memory) (record_of n ∷ y.arena.blocks) = ap (begin_of (length y1.arena.memory)) o.blocks in
        omega (arith, same, size, from, here)

    pub at_to : at + 4 * n ≡ stack_from y.arena
    at_to = block_to n o.stands o.room

    pub words_left : left y1.arena + (n + 2) ≡ left y.arena
    words_left =
        let from = at_from in
        let to = at_to in
        let low = block_low n o.stands o.room in
        let same = o.heap_to in
        omega (arith, from, to, low, same)

    blocks_there : (p : ℕ) → blocks_from (length y1.arena.memory) y1.arena.blocks p ≡ blocks_from (length y.arena.memory) (record_of n ∷ y.arena.blocks) p
    blocks_there p = ap (λ m. blocks_from m y1.arena.blocks p) o.world.same_size ∙ ap (λ bs. blocks_from (length y.arena.memory) bs p) o.blocks

    same_address : lent_from (length y.arena.memory) (record_of n ∷ y.arena.blocks) ≡ at
    same_address = ap (λ m. lent_from m (record_of n ∷ y.arena.blocks)) (sym (block_size n o.stands o.room))

    pub found_new : blocks_from (length y1.arena.memory) y1.arena.blocks at ≡ Some (record_of n ∷ y.arena.blocks)
    found_new =
        blocks_there at
        ∙ ap (λ t. if t then Some (record_of n ∷ y.arena.blocks) else blocks_from (length y.arena.memory) y.arena.blocks at) (eq-eqb _ _ same_address)

    module _ (some : 1 ≤ n) where
      pub found_outside : (p : ℕ) → stack_from y.arena ≤ p → blocks_from (length y1.arena.memory) y1.arena.blocks p ≡ blocks_from (length y.arena.memory) y.arena.blocks p
      found_outside p low =
          blocks_there p
          ∙ ap (λ t. if t then Some (record_of n ∷ y.arena.blocks) else blocks_from (length y.arena.memory) y.arena.blocks p)
          (ne_eqb _ _ (λ e. let same = same_address in let to = at_to in omega (arith, e, same, to, low, some)))

      -- what stood stands, one block deeper
      pub deeper : Deeper w w1 y y1
      deeper = record {
        from = let from = at_from in let to = at_to in omega (arith, from, to);
        size = o.world.same_size;
        blocks = λ p bs low found. found_outside p low ∙ found;
        stack = o.world.stack;
      }

      -- **a transfer passes out of it**
      module _ {rs valid rs1 valid1 : List Standing} {around around1 : DynamicContext} {c1 c2 : ℕ} {r : FlatEvaluated} {q : MidOutcome} (x : Transfers setting c1 rs1 valid1 w1 around1 z1 y1 r q) (regs : Registers)
          (valid_there : record_of_exit x.exit_number around.exits valid ≡ Some x.target) (stop_there : first_stop x.target.address rs ≡ x.to ∷ x.outer) (low : stack_from y.arena ≤ x.to.address)
          (enough : y1.cost + walk_cost * length rs1 + unit_cost * z.state.units + c1 ≤ y.cost + walk_cost * length rs + unit_cost * z1.state.units + c2) where
        unfoldable pub transfer_out : Transfers setting c2 rs valid w around z y r (ends (cuts x.to.outside x.word) regs q.state)
        transfer_out = record {
          exit_number = x.exit_number;
          result = x.result;
          landing = x.landing;
          outcome = x.outcome;
          target = x.target;
          valid_target = valid_there;
          to = x.to;
          outer = x.outer;
          stop = stop_there;
          word = x.word;
          end = refl;
          blocks = sym (found_outside x.to.address low) ∙ x.blocks;
          w' = x.w';
          of_value = x.of_value;
          world = world_both setting o.world x.world (λ a low high. let from = deeper.from in omega (arith, low, from));
          charged =
              let charged = x.charged in
              let heap = o.heap in
              let stack = o.stack in
              let fewer = words_left in
              let from = at_from in
              let to = at_to in
              omega (arith, charged, heap, stack, fewer, from, to);
          paid = let paid = x.paid in omega (arith, paid, enough);
          pending = x.pending;
          landing_word = x.landing_word;
          landing_stands = x.landing_stands;
          landing_is = x.landing_is;
          lands = x.lands;
        }

      -- ---- **it is given back**, and control words are stored

      module _ {w2 : World} {z2 : FlatState} {y2 : MidState} (placed : IsPlaced setting) (world : WorldKept setting w1 w2 z1 z2 y1 y2) (blocks : y2.arena.blocks ≡ record_of n ∷ y.arena.blocks) (ps : List (ℕ × ℕ))
          (controls : AreControls ps) (total : ℕ) where
        abbrev pub arena_back : Arena
        arena_back = with_blocks y.arena.blocks y2.arena

        abbrev pub state_back : MidState
        state_back = touched ps arena_back total y2

        abbrev pub world_back : World
        world_back = world_with (boxes_cut (stack_from arena_back) w2.boxes) w2.exit_forms w2

        stands : ArenaStands y2.arena
        stands = world.things.represents.arena

        grows : Grows y2.arena arena_back
        grows = grows_with_blocks (record_of n ∷ []) y.arena.blocks stands blocks

        from_before : stack_from y2.arena ≤ stack_from arena_back
        from_before =
            let same : stack_from y2.arena ≡ begin_of (length y2.arena.memory) (record_of n ∷ y.arena.blocks) = ap (begin_of (length y2.arena.memory)) blocks in
            omega (arith, same)

        gives : Touched y2.arena arena_back ps (stack_from arena_back)
        gives = record {
          grows = grows;
          from = y2.arena.heap_to;
          to = y2.arena.heap_to;
          touches = controls_touch y2.arena.heap_to y2.arena.heap_to ps controls;
          low = omega arith;
          high = stands.room;
          before = from_before;
          after = omega arith;
          least = λ x low high. high;
        }

        made : ExitsMade w2 z2 w2.exit_forms z2.state.exits (stores ps arena_back)
        made =
            let s = world.things.serials in
            let low = spot_below stands (world.things.represents.spots (of_other 1) (control_spot setting) world.things.control) in
            record {
              drawn = s.0;
              word =
                  stored_elsewhere ps arena_back serials_address (controls_aligned ps controls) (controls_differ ps controls)
                  ∙ grows.words serials_address (omega (arith, low)) ∙ s.1;
              count = s.2;
              low = s.3;
              more = omega arith;
              form_count = world.things.exit_forms;
              forms_kept = λ e o f. f;
            }

        pub gave : WorldKept setting w2 world_back z2 z2 y2 state_back
        gave = world_touched setting total z2.state.made placed world.things gives made

        pub world_given : WorldKept setting w world_back z z2 y state_back
        world_given =
            world_both setting (world_both setting o.world world (λ x low high. let from = deeper.from in omega (arith, low, from))) gave
            (λ x low high. let from = from_before in let same = stored_from ps arena_back in omega (arith, high, from, same))

        -- the words that were taken were charged
        pub charged_back : TakenCharged z1 y1 z2 y2 → ChargedFrom z y z2 state_back
        charged_back h =
            let from = stored_from ps arena_back in
            let heap_to = stored_heap ps arena_back in
            let size = world.same_size ∙ o.world.same_size in
            let before : stack_from y2.arena ≤ stack_from arena_back = from_before in
            let room = stands.room in
            let stack = o.stack in
            let heap = o.heap in
            let fewer = words_left in
            let low = at_from in
            let to = at_to in
            omega (arith, h, from, heap_to, size, before, room, stack, heap, fewer, low, to)

        pub charged_given : ChargedFrom z1 y1 z2 y2 → ChargedFrom z y z2 state_back
        charged_given h =
            let from = stored_from ps arena_back in
            let heap_to = stored_heap ps arena_back in
            let size = world.same_size ∙ o.world.same_size in
            let room = stands.room in
            let fits = stands.blocks in
            let before : words_of y2.arena.blocks ≡ words_of (record_of n ∷ y.arena.blocks) = ap words_of blocks in
            let stack = o.stack in
            let heap = o.heap in
            let fewer = words_left in
            omega (arith, h, from, heap_to, size, room, fits, before, stack, heap, fewer)
