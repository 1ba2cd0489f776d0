-- The record of the end is laid: what words said goes on being said, and it stands.
use Rattle.std.proofs.Common.{◌≡◌, ℕ, ◌+◌, ◌<◌, ◌≤◌, List, [], ◌∷◌, length, Option, Some, refl, ap, ◌∙◌, arith}
use Rattle.std.specs.Prelude.{◌%◌, slice_get, if◌then◌else◌}
use Rattle.std.proofs.lemmas.Bool.{eq-eqb, ne_eqb}
use Rattle.lang_meaning.specs.State.{Limit, words, unlimited}
use Rattle.flat_language.specs.FlatState.{FlatState}
use Rattle.mid_code.specs.Arena.{Arena, record_of, left, stack_from, blocks_from, word_at}
use Rattle.mid_code.specs.State.{Registers, MidState}
use Rattle.mid_arena.specs.Growing.{Grows, Changes}
use Rattle.mid_arena.specs.Places.{end_of}
use Rattle.mid_arena.specs.Standing.{ArenaStands, SpotStands}
use Rattle.mid_arena.proofs.Growing.{spot_below, spot_grown}
use Rattle.mid_arena.proofs.Memory.{grows_with_new_block, stands_with_new_block, word_elsewhere, word_here}
use Rattle.mid_arena.proofs.OwnWords.{changes_in_spot}
use Rattle.back_lowering.specs.ControlWords.{control_address, record_words, current_address, link_address, serials_address, handlers_address, bindings_address, end_address, end_kind}
use Rattle.back_lowering.specs.Placement.{global_address, dynamic_address}
use Rattle.back_relation.specs.Setting.{Setting, control_spot}
use Rattle.back_relation.specs.Placed.{IsPlaced}
use Rattle.back_relation.specs.Worlds.{World, BoxPlace, on_heap, on_stack, gone}
use Rattle.back_relation.specs.StackWords.{HasWordAt, RecordAt}
use Rattle.back_relation.specs.Things.{Things}
use Rattle.back_relation.specs.Around.{RoomFor}
use Rattle.back_relation.specs.Ends.{WorldKept}
use Rattle.back_relation.specs.Cuts.{boxes_cut}
use Rattle.back_relation.specs.Stores.{stores}
use Rattle.back_relation.proofs.Windows.{stored_size}
use Rattle.back_exits.specs.Going.{BoxWas, world_with, GoesOn}
use Rattle.back_exits.specs.RecordSteps.{ControlSays, ControlLent, RecordLent}
use Rattle.back_exits.specs.Touching.{Touched, touched, ExitsMade}
use Rattle.back_exits.proofs.Moving.{things_go_on}
use Rattle.back_exits.proofs.Puts.{Put, of_control, of_record, pairs, last_control, last_record, or_before, puts_touch, control_stands, record_stands}
use Rattle.back_exits.proofs.Steps.{laid_size, laid_from, laid_to, laid_low, laid_aligned, record_lent, record_there}
use Rattle.back_exits.proofs.Touching.{world_touched, stored_blocks, stored_heap, stored_from}
use Rattle.back_exits.proofs.Words.{control_lent, control_there, control_of}
use Rattle.back_relation.proofs.Boxes.{stack_above}
use Rattle.back_levels.specs.Beginning.{arena_laid, laid_at, block_laid, end_there, end_record, NothingAround, EndBegins, LawOfBeginnings}
use Rattle.back_levels.specs.MainSteps.{end_stores}
use Rattle.back_levels.specs.Surroundings.{EndStands}
use Rattle.back_levels.proofs.MainSteps.{laid_runs}
use Rattle.back_levels.proofs.Surroundings.{main_forms_law}

module _ (setting : Setting) (placed : IsPlaced setting) {current link : ℕ} {w : World} {z : FlatState} {y : MidState} (b : NothingAround setting current link w z y) where
  stands : ArenaStands y.arena
  stands = b.things.represents.arena

  abbrev inner : Arena
  inner = arena_laid y.arena

  abbrev at : ℕ
  at = laid_at y.arena

  grows : Grows y.arena inner
  grows = grows_with_new_block (record_of record_words) stands b.room

  stands_inside : ArenaStands inner
  stands_inside = stands_with_new_block (record_of record_words) stands b.room

  to : at + 24 ≡ stack_from y.arena
  to = laid_to stands b.room

  from : stack_from inner + 8 ≡ at
  from = laid_from stands b.room

  below_heap : end_of (control_spot setting) ≤ y.arena.heap_to
  below_heap = spot_below stands (control_of setting b.things)

  above : 220 ≤ at
  above = let low = laid_low stands b.room in let below = below_heap in omega (arith, low, below)

  at_aligned : at % 4 ≡ 0
  at_aligned = laid_aligned stands b.room

  spot_inside : SpotStands inner (control_spot setting)
  spot_inside = spot_grown grows.heap (control_of setting b.things)

  lent_control : ControlLent inner
  lent_control = control_lent setting spot_inside

  lent_record : RecordLent inner at
  lent_record = record {
    aligned = at_aligned;
    above = above;
    low = let size = stands.size in let t = to in omega (arith, size, t);
    lent = record_lent stands b.room;
  }

  word_inside : (x n : ℕ) → x < 220 → HasWordAt y x n → word_at inner x ≡ Some n
  word_inside x n low e = let below = below_heap in grows.words x (omega (arith, low, below)) ∙ e

  pub says_inside : ControlSays inner current link 0 0
  says_inside = record {
    current_word = word_inside current_address current (omega arith) b.current_word;
    link_word = word_inside link_address link (omega arith) b.link_word;
    handlers_word = word_inside handlers_address 0 (omega arith) b.no_handler;
    bindings_word = word_inside bindings_address 0 (omega arith) b.no_binding;
  }

  -- all stores but the last one
  abbrev puts : List Put
  puts = of_record 4 end_kind ∷ of_record 8 current ∷ of_control 0 at ∷ of_record 0 0 ∷ of_record 12 link ∷ of_control 4 at ∷ []

  abbrev y1 : MidState
  y1 = touched (pairs at puts) inner (y.cost + 36 + 106) y

  abbrev w1 : World
  w1 = world_with (boxes_cut (stack_from y.arena) w.boxes) w.exit_forms w

  control_word : (k n m : ℕ) → k < 36 → k % 4 ≡ 0 → word_at inner (control_address + k) ≡ Some n → or_before (last_control k puts) (Some n) ≡ Some m
      → HasWordAt y1 (control_address + k) m
  control_word k n m few aligned before e =
      control_stands at at_aligned above k puts inner refl few (lent_control k few aligned) (control_there setting spot_inside stands_inside k few)
      ∙ ap (or_before (last_control k puts)) before ∙ e

  record_word : (k n : ℕ) → k < 24 → k % 4 ≡ 0 → last_record k puts ≡ Some n → HasWordAt y1 (at + k) n
  record_word k n few aligned e =
      record_stands at at_aligned above k puts inner refl (record_lent stands b.room k few aligned) (record_there stands b.room k few)
      ∙ ap (λ o. or_before o (word_at inner (at + k))) e

  touching : Touched y.arena inner (pairs at puts) (stack_from y.arena)
  touching = record {
    grows = grows;
    from = at;
    to = at + 24;
    touches = puts_touch at at_aligned above puts refl;
    low = let low = laid_low stands b.room in omega (arith, low);
    high = let t = to in omega (arith, t);
    before = omega arith;
    after = let f = from in let t = to in omega (arith, f, t);
    least = λ x low high. low;
  }

  made : ExitsMade w z w.exit_forms z.state.exits (stores (pairs at puts) inner)
  made =
      let s = b.things.serials in
      record {
        drawn = s.0;
        word = control_word 8 s.0 s.0 (omega arith) refl (word_inside serials_address s.0 (omega arith) s.1) refl;
        count = s.2;
        low = s.3;
        more = omega arith;
        form_count = b.things.exit_forms;
        forms_kept = λ e o f. f;
      }

  world_then : WorldKept setting w w1 z z y y1
  world_then = world_touched setting (y.cost + 36 + 106) z.state.made placed b.things touching made

  -- ---- the last store

  abbrev y2 : MidState
  y2 = end_there current link y

  spot_then : SpotStands y1.arena (control_spot setting)
  spot_then = control_of setting world_then.things

  beside : (x : ℕ) → (end_address ≡ x → ⊥) → word_at y2.arena x ≡ word_at y1.arena x
  beside x h = word_elsewhere y1.arena end_address at x refl (ne_eqb end_address x h)

  end_word : HasWordAt y2 end_address at
  end_word =
      word_here y1.arena end_address at (control_lent setting spot_then 32 (omega arith) refl)
      (control_there setting spot_then world_then.things.represents.arena 32 (omega arith))

  changes : Changes (control_spot setting) y1.arena y2.arena
  changes = changes_in_spot end_address at world_then.things.represents.arena spot_then refl (omega arith) (omega arith)

  after : stack_from y2.arena ≡ stack_from inner
  after = stored_from (end_stores at current link) inner

  goes_on : GoesOn setting w1 w1.boxes w.exit_forms z.state.exits y1 y2
  goes_on =
      let s = world_then.things.serials in
      record {
        changes = changes;
        streams = record { printed = refl; input = refl };
        globals = λ n has. beside (global_address setting.at n) (λ same. omega (arith, same));
        dynamics = λ n has. beside (dynamic_address setting.at n) (λ same. omega (arith, same));
        serials = (s.0, beside serials_address (λ same. omega (arith, same)) ∙ s.1, s.2, s.3);
        box_count = refl;
        boxes_were = were;
        boxes_kept = λ i a e. e;
        form_count = world_then.things.exit_forms;
        forms_kept = λ e o f. f;
      }
    where
      were : (i : ℕ) (p : BoxPlace) → slice_get w1.boxes i ≡ Some p → BoxWas w1 y1.arena y2.arena i p
      were i (on_heap x) e = e
      were i (on_stack x) e =
          let high = stack_above (stack_from y.arena) i x w.boxes e in
          let t = to in
          let up = above in
          (e, beside x (λ same. omega (arith, same, high, t, up)))
      were i gone e = tt

  pub things_then : Things setting w1 z y2
  things_then = things_go_on setting z.state.made world_then.things goes_on

  -- ---- the record of the end

  pub found : blocks_from (length y2.arena.memory) y2.arena.blocks at ≡ Some (record_of record_words ∷ y.arena.blocks)
  found =
      ap (λ n. blocks_from n y2.arena.blocks at) (stored_size (end_stores at current link) inner)
      ∙ ap (λ bs. blocks_from (length inner.memory) bs at) (stored_blocks (end_stores at current link) inner)
      ∙ ap (λ t. if t then Some (record_of record_words ∷ y.arena.blocks) else blocks_from (length inner.memory) y.arena.blocks at) (eq-eqb at at refl)

  in_record : (k n : ℕ) → k < 24 → k % 4 ≡ 0 → last_record k puts ≡ Some n → HasWordAt y2 (at + k) n
  in_record k n few aligned e = beside (at + k) (λ same. let up = above in omega (arith, same, up)) ∙ record_word k n few aligned e

  in_control : (k n m : ℕ) → k < 32 → k % 4 ≡ 0 → word_at inner (control_address + k) ≡ Some n → or_before (last_control k puts) (Some n) ≡ Some m
      → HasWordAt y2 (control_address + k) m
  in_control k n m few aligned before e = beside (control_address + k) (λ same. omega (arith, same, few)) ∙ control_word k n m (omega (arith, few)) aligned before e

  record_at : RecordAt w1 y2 (end_record current link y)
  record_at = record {
    block = record { blocks = record_of record_words ∷ y.arena.blocks; found = found; count = omega arith };
    low = let f = from in let same = after in omega (arith, f, same);
    high =
        let t = to in
        let size = laid_size stands b.room in
        let same = stored_size (end_stores at current link) inner in
        omega (arith, t, size, same);
    plain = λ k few i e. let low = stack_above (stack_from y.arena) i (at + k) w.boxes e in let t = to in omega (arith, low, t, few);
    kind = in_record 4 end_kind (omega arith) refl refl;
    outer = in_record 8 current (omega arith) refl refl;
    role = (in_record 0 0 (omega arith) refl refl, in_record 12 link (omega arith) refl refl, tt);
  }

  pub end_stands : EndStands w1 y2 (end_record current link y)
  end_stands = record {
    role = refl;
    there = record_at;
    current = in_control 0 current at (omega arith) refl says_inside.current_word refl;
    link = in_control 4 link at (omega arith) refl says_inside.link_word refl;
    end = end_word;
    no_handler = in_control 20 0 0 (omega arith) refl says_inside.handlers_word refl;
    no_binding = in_control 24 0 0 (omega arith) refl says_inside.bindings_word refl;
    end_form = b.end_form;
  }

  -- ---- the words that are left

  heap_then : y2.arena.heap_to ≡ y.arena.heap_to
  heap_then = stored_heap (end_stores at current link) inner

  pub words_left : left y2.arena + 8 ≡ left y.arena
  words_left =
      let f = from in
      let t = to in
      let low = laid_low stands b.room in
      let same = heap_then in
      let there = after in
      omega (arith, f, t, low, same, there)

  pub room_inside : (l : Limit) (n : ℕ) → RoomFor l (8 + n) z.state y → RoomFor l n z.state y2
  room_inside unlimited n h = tt
  room_inside (words m) n h = let fewer = words_left in omega (arith, h, fewer)

  pub begins_then : (n : ℕ) (tail : Registers) (r1 r2 r3 r4 r5 r6 r7 r8 : Option ℕ) → EndBegins setting current link n w z y tail r1 r2 r3 r4 r5 r6 r7 r8
  begins_then n tail r1 r2 r3 r4 r5 r6 r7 r8 = record {
    runs = λ c. (laid_runs c (r8 ∷ tail) r1 r2 r3 r4 r5 r6 r7 at current link 0 0 (block_laid y) lent_control lent_record says_inside).same;
    w' = w1;
    later = world_then.later;
    things = things_then;
    stands = end_stands;
    begins = λ room none.
        main_forms_law setting n w1 z y2 (end_record current link y)
        (Some at ∷ Some current ∷ Some link ∷ Some 0 ∷ Some 0 ∷ r5 ∷ Some 0 ∷ Some 0 ∷ r8 ∷ tail) things_then end_stands (room_inside setting.limit n room) none (omega arith);
  }

pub beginnings_law : LawOfBeginnings
beginnings_law setting current link n w z y tail r1 r2 r3 r4 r5 r6 r7 r8 placed b = begins_then setting placed b n tail r1 r2 r3 r4 r5 r6 r7 r8
