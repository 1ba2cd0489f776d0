-- Behind the code inside a record: its block is given back, and what was around the record is around again.
use Rattle.std.proofs.Common.{◌≡◌, inl, ℕ, ◌+◌, ◌<◌, ◌≤◌, List, [], ◌∷◌, length, Some, refl, sym, ap, ◌∙◌, subst, arith}
use Rattle.std.specs.Prelude.{◌%◌, slice_get}
use Rattle.lang_meaning.specs.declared.scope.ExitForm.{ExitForm}
use Rattle.lang_meaning.specs.State.{Exit}
use Rattle.flat_language.specs.FlatState.{FlatState}
use Rattle.mid_code.specs.Arena.{Arena, record_of, begin_of, stack_from, word_in, with_blocks}
use Rattle.mid_code.specs.State.{Registers, MidState}
use Rattle.mid_arena.specs.Growing.{Grows}
use Rattle.mid_arena.specs.Places.{of_other}
use Rattle.mid_arena.specs.Standing.{ArenaStands}
use Rattle.mid_arena.proofs.Growing.{spot_below}
use Rattle.mid_arena.proofs.Memory.{grows_with_blocks}
use Rattle.back_lowering.specs.ControlWords.{record_words, serials_address}
use Rattle.back_lowering.specs.declared.scope.OwnExit.{OwnExit}
use Rattle.back_relation.specs.Setting.{Setting, control_spot}
use Rattle.back_relation.specs.Placed.{IsPlaced}
use Rattle.back_relation.specs.Worlds.{World, RecordRole, Standing}
use Rattle.back_relation.specs.Activation.{RegistersKept, ExitReached, ActivationStands}
use Rattle.back_relation.specs.Ends.{ChargedFrom, TakenCharged, PaidFrom, WorldKept}
use Rattle.back_relation.specs.Cuts.{boxes_cut}
use Rattle.back_relation.specs.Starts.{Start, ReachedFrom}
use Rattle.back_relation.specs.Stores.{stores, Aligned, Differs}
use Rattle.back_relation.proofs.Activations.{activation_later}
use Rattle.back_relation.proofs.Windows.{stored_elsewhere}
use Rattle.back_relation.proofs.Worlds.{Same}
use Rattle.back_relation.proofs.Boxes.{stack_stays}
use Rattle.back_exits.specs.Going.{world_with}
use Rattle.back_exits.specs.Inside.{scope_with, environment_with, around_with, ExitsStand, around_at, LaidAt}
use Rattle.back_exits.specs.RecordSteps.{ControlSays}
use Rattle.back_exits.specs.Touching.{IsStored, Touches, Touched, touched, ExitsMade}
use Rattle.back_exits.proofs.Inside.{world_both, method_shallower, activation_with, at_from, at_to, words_left, deeper}
use Rattle.back_exits.proofs.Touching.{world_touched, stored_from, stored_heap}

-- control words are stored, but not that of the serials
abbrev pub AreControls : List (ℕ × ℕ) → Type 0
AreControls [] = Unit {0}
AreControls (p ∷ ps) = (p.0 % 4 ≡ 0) × IsStored p.0 × (p.0 ≡ serials_address → ⊥) × AreControls ps

pub controls_touch : (from to : ℕ) (ps : List (ℕ × ℕ)) → AreControls ps → Touches from to ps
controls_touch from to [] h = tt
controls_touch from to (p ∷ ps) h = (h.0, inl h.1, controls_touch from to ps h.3)

pub controls_aligned : (ps : List (ℕ × ℕ)) → AreControls ps → Aligned ps
controls_aligned [] h = tt
controls_aligned (p ∷ ps) h = (h.0, controls_aligned ps h.3)

pub controls_differ : (ps : List (ℕ × ℕ)) → AreControls ps → Differs serials_address ps
controls_differ [] h = tt
controls_differ (p ∷ ps) h = (h.2, controls_differ ps h.3)

module _ (setting : Setting) (a : Start setting) {units cost : ℕ} {role : RecordRole} {link : ℕ} {w : World} {z : FlatState} {regs : Registers} {y : MidState} (laid : LaidAt setting a units cost role link w z regs y)
    {w2 : World} {z2 : FlatState} {y2 : MidState} (world : WorldKept setting w w2 z z2 y y2) where
  -- what the code inside kept is kept from where the record was laid
  pub world_outside : WorldKept setting a.w w2 a.z z2 a.y y2
  world_outside = world_both setting laid.world world (λ x low high. let from = (deeper setting a laid).from in omega (arith, low, from))

  module _ {g : Registers} {own : List OwnExit} {count : ℕ} {forms : List ExitForm} {numbers : List ℕ} {rs valid : List Standing} {exits : List Exit} (n : ℕ)
      (kept : RegistersKept (scope_with count forms own a.s).code (a.d + n) regs g)
      (activation : ActivationStands setting (scope_with count forms own a.s) rs valid w2 (environment_with numbers a.env) (around_with exits a.around) z2 g y2) where
    own_register : (r : ℕ) → r < a.d → ((i : ℕ) → slice_get a.s.code.slots i ≡ Some r → ⊥) → slice_get g r ≡ slice_get a.regs r
    own_register r low none = kept.same r (omega (arith, low)) none ∙ laid.same r low

    pub registers_outside : RegistersKept a.s.code a.d a.regs g
    registers_outside = record { count = kept.count ∙ laid.count; same = λ i low none. own_register i low none }

    exits_outside : ExitsStand a.s.code.exits a.s.flat.exits a.s.exits.own a.env.exits a.rs a.valid a.around.exits w2 g
    exits_outside =
        let t = a.begins.activation in
        record {
          exit_count = t.exit_count;
          flat_count = t.flat_count;
          reached = λ i x e.
              let old = t.exits i x e in
              let own = a.begins.scope.exits i x e in (
                old.0,
                old.1,
                ap word_in (own_register x.serial own.0.0 own.0.1) ∙ old.2,
                subst (λ o. ExitReached x.reach a.rs a.valid a.around.exits old.0 o)
                    (sym (ap word_in (own_register x.record_register own.1.0 own.1.1))) old.3,
              );
          exit_forms = λ i e f. world_outside.later.exit_forms e (slice_get a.s.exits.own i) (t.exit_forms i e f);
        }

    -- the activation outside, as the code inside left it
    pub activation_outside : ActivationStands setting a.s a.rs a.valid w2 a.env a.around z2 g y2
    activation_outside = activation_with setting {y' = y2} activation exits_outside activation.method

    -- ---- the block is given back

    module _ (placed : IsPlaced setting) (blocks : y2.arena.blocks ≡ record_of record_words ∷ a.y.arena.blocks) (ps : List (ℕ × ℕ)) (controls : AreControls ps) (total : ℕ) where
      abbrev pub arena_back : Arena
      arena_back = with_blocks a.y.arena.blocks y2.arena

      abbrev pub state_back : MidState
      state_back = touched ps arena_back total y2

      abbrev pub world_back : World
      world_back = world_with (boxes_cut (stack_from arena_back) w2.boxes) w2.exit_forms w2

      stands : ArenaStands y2.arena
      stands = world.things.represents.arena

      grows : Grows y2.arena arena_back
      grows = grows_with_blocks (record_of record_words ∷ []) a.y.arena.blocks stands blocks

      from_before : stack_from y2.arena ≤ stack_from arena_back
      from_before =
          let same : stack_from y2.arena ≡ begin_of (length y2.arena.memory) (record_of record_words ∷ a.y.arena.blocks) = ap (begin_of (length y2.arena.memory)) blocks in
          omega (arith, same)

      gives : Touched y2.arena arena_back ps (stack_from arena_back)
      gives = record {
        grows = grows;
        from = y2.arena.heap_to;
        to = y2.arena.heap_to;
        touches = controls_touch y2.arena.heap_to y2.arena.heap_to ps controls;
        low = omega arith;
        high = stands.room;
        before = from_before;
        after = omega arith;
        least = λ x low high. high;
      }

      made : ExitsMade w2 z2 w2.exit_forms z2.state.exits (stores ps arena_back)
      made =
          let s = world.things.serials in
          let low = spot_below stands (world.things.represents.spots (of_other 1) (control_spot setting) world.things.control) in
          record {
            drawn = s.0;
            word =
                stored_elsewhere ps arena_back serials_address (controls_aligned ps controls) (controls_differ ps controls)
                ∙ grows.words serials_address (omega (arith, low)) ∙ s.1;
            count = s.2;
            low = s.3;
            more = omega arith;
            form_count = world.things.exit_forms;
            forms_kept = λ e o f. f;
          }

      gave : WorldKept setting w2 world_back z2 z2 y2 state_back
      gave = world_touched setting total z2.state.made placed world.things gives made

      pub outside_kept : WorldKept setting a.w world_back a.z z2 a.y state_back
      outside_kept =
          world_both setting world_outside gave
          (λ x low high. let from = from_before in let same = stored_from ps arena_back in omega (arith, high, from, same))

      -- the words that were taken were charged
      pub charged_back : TakenCharged z y z2 y2 → ChargedFrom a.z a.y z2 state_back
      charged_back h =
          let from = stored_from ps arena_back in
          let heap_to = stored_heap ps arena_back in
          let size = world.same_size ∙ laid.world.same_size in
          let before : stack_from y2.arena ≤ stack_from arena_back = from_before in
          let room = stands.room in
          let stack = laid.stack in
          let heap = laid.heap in
          let fewer = words_left setting a laid in
          let at = at_from setting a laid in
          let to = at_to setting a laid in
          omega (arith, h, from, heap_to, size, before, room, stack, heap, fewer, at, to)

      stays : Same w2 world_back state_back state_back
      stays = record {
        blocks = refl;
        size = refl;
        stack = record {
          words = λ x low high plain. refl;
          bindings = λ i x e low high. stack_stays (stack_from arena_back) i x w2.boxes e (let same = stored_from ps arena_back in omega (arith, low, same));
        };
      }

      pub activation_back :
          (g' : Registers) → ((i : ℕ) → i < a.d → slice_get g' i ≡ slice_get g i) → ActivationStands setting a.s a.rs a.valid world_back a.env a.around z2 g' state_back
      activation_back g' same =
          activation_later setting {d = a.d} gave.later stays refl (λ n cs e. e) (λ r few. ap word_in (same r few)) a.begins.scope
          (activation_with setting {y' = state_back} activation exits_outside
          (method_shallower setting w2 y2 state_back a.s.keeps_method g a.s.code.method a.env.method
          (let from = from_before in let after = stored_from ps arena_back in omega (arith, from, after))
          (λ x low plain. gave.stack.words x (let from = from_before in let after = stored_from ps arena_back in omega (arith, low, from, after)) low plain)
          activation.method))

      pub registers_back :
          (g' : Registers) → length g' ≡ length g → ((i : ℕ) → i < a.d → slice_get g' i ≡ slice_get g i) → RegistersKept a.s.code a.d a.regs g'
      registers_back g' size same = record {
        count = size ∙ kept.count ∙ laid.count;
        same = λ i low none. same i low ∙ own_register i low none;
      }

      -- **outside the record again**
      pub reached_outside :
          {credit : ℕ} (g' : Registers) → length g' ≡ length g → ((i : ℕ) → i < a.d → slice_get g' i ≡ slice_get g i) → (stores ps arena_back).blocks ≡ a.y.arena.blocks
          → ControlSays (stores ps arena_back) (around_at setting a).current (around_at setting a).link (around_at setting a).handlers_cell (around_at setting a).bindings_cell
          → ChargedFrom a.z a.y z2 state_back → PaidFrom credit a.z a.y z2 state_back → ReachedFrom setting credit a a.d world_back z2 g' state_back
      reached_outside g' size same same_blocks says charged paid =
          let t = around_at setting a in
          record {
            kept = record {
              world = outside_kept;
              activation = activation_back g' same;
              registers = registers_back g' size same;
            };
            back = record {
              control = record {
                current = λ n e. says.current_word ∙ sym t.current_word ∙ e;
                link = λ n e. says.link_word ∙ sym t.link_word ∙ e;
                handlers = λ n e. says.handlers_word ∙ sym t.handlers_word ∙ e;
                bindings = λ n e. says.bindings_word ∙ sym t.bindings_word ∙ e;
              };
              blocks = same_blocks;
              charged = charged;
              paid = paid;
            };
          }
