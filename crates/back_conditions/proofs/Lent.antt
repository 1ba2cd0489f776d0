-- **Where the code inside a block begins that was lent to a form**: words of the block were stored and one control word, and all that stood outside
-- stands.
use Rattle.std.proofs.Common.{◌≡◌, inl, inr, ℕ, ◌+◌, ◌*◌, ◌%◌, ◌<◌, ◌≤◌, Bool, List, [], ◌∷◌, length, Option, Some, None, refl, sym, ap, ◌∙◌, subst, arith}
use Rattle.std.specs.Prelude.{if◌then◌else◌, slice_get}
use Rattle.std.proofs.lemmas.Bool.{ne_eqb}
use Rattle.base.specs.declared.place.Place.{Place}
use Rattle.lang_meaning.specs.declared.scope.ExitForm.{ExitForm}
use Rattle.lang_meaning.specs.Objects.{Called}
use Rattle.lang_meaning.specs.State.{ExitKind, block_exit, tagbody_exit, catch_exit, signal_exit, end_exit, Limit, words, unlimited}
use Rattle.lang_meaning.specs.Values.{Value}
use Rattle.flat_language.specs.FlatState.{FrameSlot, holds, holds_box, Captured, of_value, of_box, of_exit, of_method}
use Rattle.mid_code.specs.Arena.{Arena, record_of, lent_from, left, stack_from, blocks_from, word_at, with_new_block}
use Rattle.mid_code.specs.State.{Registers, register, MidState}
use Rattle.mid_code.proofs.Growth.{length-emptied}
use Rattle.mid_arena.specs.Growing.{Grows}
use Rattle.mid_arena.specs.Places.{of_other}
use Rattle.mid_arena.specs.Standing.{ArenaStands, ValueAt}
use Rattle.mid_arena.proofs.Growing.{spot_below}
use Rattle.mid_arena.proofs.Memory.{grows_with_new_block, room_below}
use Rattle.back_lowering.specs.ControlWords.{current_address, link_address, serials_address, handlers_address, bindings_address, end_address, record_serial, record_kind, record_outer, record_link, record_tag, record_mark, handler_function, handler_outer, binding_variable, binding_value, binding_outer}
use Rattle.back_lowering.specs.declared.scope.SitePlace.{SitePlace}
use Rattle.back_lowering.specs.declared.scope.SitePlace.TheVariants.{Known, Held}
use Rattle.back_relation.specs.Setting.{Setting, control_spot}
use Rattle.back_relation.specs.Placed.{IsPlaced}
use Rattle.back_relation.specs.Room.{words_for_handler}
use Rattle.back_relation.specs.Worlds.{World, BoxPlace, on_heap, on_stack, Plain, Standing, RecordRole, for_cleanup, for_exit, record_bytes}
use Rattle.back_relation.specs.StackWords.{HasWordAt, TagsAt, UseAt, RecordAt, HandlersAt, BindingsAt}
use Rattle.back_relation.specs.Things.{Things, MadeBy, AreMadeBy}
use Rattle.back_relation.specs.Around.{RoomFor}
use Rattle.back_relation.specs.Activation.{SlotIs, ExitReached, SelfHeld, ArgumentsHeld, in_heap, ArgumentsThere, MethodHeld, MethodThere, SiteHeld, ActivationStands}
use Rattle.back_relation.specs.Activation.{on_stack as arguments_on_stack}
use Rattle.back_relation.specs.Ends.{WorldKept}
use Rattle.back_relation.specs.Cuts.{boxes_cut}
use Rattle.back_relation.specs.Starts.{Start}
use Rattle.back_relation.specs.Stores.{stores, Differs}
use Rattle.back_relation.proofs.Starts.{scope_later}
use Rattle.back_relation.proofs.Windows.{stored_elsewhere, stored_size}
use Rattle.back_relation.proofs.Worlds.{chain_lower}
use Rattle.back_exits.specs.Going.{world_with}
use Rattle.back_exits.specs.Touching.{IsStored, Touches, Touched, touched, ExitsMade}
use Rattle.back_exits.proofs.Touching.{world_touched, stored_from, stored_blocks, touches_aligned, touches_beside}
use Rattle.back_conditions.proofs.Within.{IsFound, found_block, outer_around, inner_around, inner_state, inner_world, Within}

module _ (setting : Setting) (placed : IsPlaced setting) (a : Start setting) where
  abbrev pub lent_arena : ℕ → Arena
  lent_arena count = with_new_block (record_of count) a.y.arena

  abbrev pub lent_address : ℕ → ℕ
  lent_address count = lent_from (length (lent_arena count).memory) (lent_arena count).blocks

  abbrev pub lent_state : (count : ℕ) → List (ℕ × ℕ) → (cost : ℕ) → MidState
  lent_state count ps cost = touched ps (lent_arena count) cost a.y

  -- what was stored: words of the block, and the control word
  pub record Lent (count slot : ℕ) (ps : List (ℕ × ℕ)) : Type 0 where
    pub room : count + 2 ≤ left a.y.arena
    pub touches : Touches (lent_address count) (stack_from a.y.arena) ps
    pub only : (x : ℕ) → x ≤ end_address → (slot ≡ x → ⊥) → Differs x ps
    pub slot_stored : IsStored slot
    pub slot_aligned : slot % 4 ≡ 0
    pub slot_other : slot ≡ serials_address → ⊥

  outer_stands : ArenaStands a.y.arena
  outer_stands = a.begins.call.things.represents.arena

  -- ---- where the block is

  module _ (count : ℕ) (room : count + 2 ≤ left a.y.arena) where
    pub lent_size : length (lent_arena count).memory ≡ length a.y.arena.memory
    lent_size = length-emptied _ (record_of count).words a.y.arena.memory

    pub lent_high : lent_address count + 4 * count ≡ stack_from a.y.arena
    lent_high = omega (arith, lent_size, room_below (count + 2) outer_stands room, outer_stands.blocks)

    pub lent_low : stack_from (lent_arena count) + 8 ≡ lent_address count
    lent_low = omega arith

    pub lent_above : a.y.arena.heap_to + 8 ≤ lent_address count
    lent_above = omega (arith, lent_high, room_below (count + 2) outer_stands room)

    pub lent_grows : Grows a.y.arena (lent_arena count)
    lent_grows = grows_with_new_block (record_of count) outer_stands room

  control_below : end_address < a.y.arena.heap_to
  control_below =
      let t = a.begins.call.things in
      let low = spot_below outer_stands (t.represents.spots (of_other 1) (control_spot setting) t.control) in
      omega (arith, low)

  -- ---- what stands outside, one block deeper

  module _ {count slot : ℕ} {ps : List (ℕ × ℕ)} (h : Lent count slot ps) (cost : ℕ) where
    abbrev y1 : MidState
    y1 = lent_state count ps cost

    abbrev pub cut_world : World
    cut_world = world_with (boxes_cut (stack_from a.y.arena) a.w.boxes) a.w.exit_forms a.w

    from_inside : stack_from y1.arena ≡ stack_from (lent_arena count)
    from_inside = stored_from ps (lent_arena count)

    from_less : stack_from y1.arena ≤ stack_from a.y.arena
    from_less = omega (arith, from_inside, lent_low count h.room, lent_high count h.room)

    size_same : length y1.arena.memory ≡ length a.y.arena.memory
    size_same = stored_size ps (lent_arena count) ∙ lent_size count h.room

    pub outer_words : (x : ℕ) → stack_from a.y.arena ≤ x → word_at y1.arena x ≡ word_at a.y.arena x
    outer_words x low =
        stored_elsewhere ps (lent_arena count) x (touches_aligned _ _ ps h.touches)
        (touches_beside (lent_address count) (stack_from a.y.arena) ps x (omega (arith, control_below, outer_stands.room, low)) (inr low) h.touches)
        ∙ (lent_grows count h.room).stack x low (omega (arith, low, lent_low count h.room, lent_high count h.room))

    pub control_stays : (x : ℕ) → x ≤ end_address → (slot ≡ x → ⊥) → word_at y1.arena x ≡ word_at a.y.arena x
    control_stays x low other =
        stored_elsewhere ps (lent_arena count) x (touches_aligned _ _ ps h.touches) (h.only x low other)
        ∙ (lent_grows count h.room).heap.words x (omega (arith, control_below, low))

    stored_touched : Touched a.y.arena (lent_arena count) ps (stack_from a.y.arena)
    stored_touched = record {
      grows = lent_grows count h.room;
      from = lent_address count;
      to = stack_from a.y.arena;
      touches = h.touches;
      low = omega (arith, lent_above count h.room);
      high = omega arith;
      before = omega arith;
      after = omega (arith, lent_low count h.room, lent_high count h.room);
      least = λ x low high. low;
    }

    exits_made : ExitsMade a.w a.z a.w.exit_forms a.z.state.exits (stores ps (lent_arena count))
    exits_made =
        let s = a.begins.call.things.serials in
        record {
          drawn = s.0;
          word = control_stays serials_address (omega arith) h.slot_other ∙ s.1;
          count = s.2;
          low = s.3;
          more = omega arith;
          form_count = a.begins.call.things.exit_forms;
          forms_kept = λ e o f. f;
        }

    -- all things stand, in the world as far as the stack stands
    pub lent_world : WorldKept setting a.w cut_world a.z a.z a.y y1
    lent_world = world_touched setting cost a.z.state.made placed a.begins.call.things stored_touched exits_made

    -- ---- in a world with other places of variables

    module _ (boxes : List BoxPlace)
        (old_places : (i x : ℕ) → slice_get a.w.boxes i ≡ Some (on_stack x) → stack_from a.y.arena ≤ x → slice_get boxes i ≡ Some (on_stack x))
        (new_places : (i x : ℕ) → slice_get boxes i ≡ Some (on_stack x) → stack_from a.y.arena ≤ x → slice_get a.w.boxes i ≡ Some (on_stack x))
        (heap_places : (i x : ℕ) → slice_get a.w.boxes i ≡ Some (on_heap x) → slice_get boxes i ≡ Some (on_heap x)) where
      abbrev w1 : World
      w1 = inner_world setting placed a boxes

      plain_inside : (x : ℕ) → stack_from a.y.arena ≤ x → Plain a.w x → Plain w1 x
      plain_inside x low plain i e = plain i (new_places i x e low)

      word_inside : (x n : ℕ) → stack_from a.y.arena ≤ x → HasWordAt a.y x n → HasWordAt y1 x n
      word_inside x n low e = outer_words x low ∙ e

      value_inside : (x : ℕ) (v : Value) → stack_from a.y.arena ≤ x → ValueAt a.w.places a.y.arena x v → ValueAt w1.places y1.arena x v
      value_inside x v low at = record { word = at.word; of_value = at.of_value; stands = word_inside x at.word low at.stands }

      tags_inside : (x : ℕ) (k : ExitKind) → stack_from a.y.arena ≤ x → TagsAt a.w a.y x k → TagsAt w1 y1 x k
      tags_inside x block_exit low t = tt
      tags_inside x tagbody_exit low t = tt
      tags_inside x (catch_exit tag) low t = value_inside (x + record_tag) tag (omega arith) t
      tags_inside x (signal_exit c mark) low t = (value_inside (x + record_tag) c (omega arith) t.0, value_inside (x + record_mark) mark (omega arith) t.1)
      tags_inside x end_exit low t = tt

      pub record_inside : (r : Standing) → RecordAt a.w a.y r → RecordAt w1 y1 r
      record_inside r at = record {
        block = record { blocks = at.block.blocks; found = found_again ∙ at.block.found; count = at.block.count };
        low = omega (arith, from_less, at.low);
        high = subst (λ n. r.address + record_bytes ≤ 4 * n) (sym size_same) at.high;
        plain = λ k few. plain_inside (r.address + k) (let low = at.low in omega (arith, low)) (at.plain k few);
        kind = word_inside (r.address + record_kind) _ (let low = at.low in omega (arith, low)) at.kind;
        outer = word_inside (r.address + record_outer) _ (let low = at.low in omega (arith, low)) at.outer;
        role = by r.role at.role;
      }
        where
          found : IsFound (length a.y.arena.memory) r.address a.y.arena.blocks at.block.blocks
          found = found_block (length a.y.arena.memory) r.address a.y.arena.blocks at.block.blocks at.block.found

          other : lent_from (length a.y.arena.memory) (record_of count ∷ a.y.arena.blocks) ≡ r.address → ⊥
          other e =
              let below = room_below (count + 2) outer_stands h.room in
              let here = found.here in
              let fewer = found.fewer_words in
              omega (arith, e, here, fewer, below, outer_stands.blocks)

          found_again : blocks_from (length y1.arena.memory) y1.arena.blocks r.address ≡ blocks_from (length a.y.arena.memory) a.y.arena.blocks r.address
          found_again =
              ap (λ n. blocks_from n y1.arena.blocks r.address) size_same
              ∙ ap (λ l. blocks_from (length a.y.arena.memory) l r.address) (stored_blocks ps (lent_arena count))
              ∙ ap (λ b. if b then Some (record_of count ∷ a.y.arena.blocks) else blocks_from (length a.y.arena.memory) a.y.arena.blocks r.address) (ne_eqb _ _ other)

          by : (u : RecordRole) → UseAt a.w a.y r u → UseAt w1 y1 r u
          by for_cleanup u = tt
          by (for_exit x) u =
              let low = at.low in (
                word_inside (r.address + record_serial) x.number (omega (arith, low)) u.0,
                word_inside (r.address + record_link) r.link (omega (arith, low)) u.1,
                tags_inside r.address x.kind low u.2,
              )

      pub handlers_inside : (hs : List Value) (x : ℕ) → HandlersAt a.w a.y x hs → HandlersAt w1 y1 x hs
      handlers_inside [] x t = t
      handlers_inside (v ∷ hs) x t =
          let low : stack_from a.y.arena ≤ x = t.1 in (
            value_inside (x + handler_function) v (omega arith) t.0,
            omega (arith, from_less, low),
            plain_inside (x + handler_function) (omega arith) t.2,
            plain_inside (x + handler_outer) (omega arith) t.3,
            t.4,
            (t.5.0, word_inside (x + handler_outer) t.5.0 (omega arith) t.5.1, handlers_inside hs t.5.0 t.5.2),
          )

      pub bindings_inside : (bs : List (List ℕ × ℕ)) (x : ℕ) → BindingsAt setting a.w a.y x bs → BindingsAt setting w1 y1 x bs
      bindings_inside [] x t = t
      bindings_inside (b ∷ bs) x t =
          let low : stack_from a.y.arena ≤ x = t.2 in (
            (t.0.0, t.0.1, t.0.2, word_inside (x + binding_variable) _ (omega arith) t.0.3),
            old_places b.1 (x + binding_value) t.1 (omega arith),
            omega (arith, from_less, low),
            plain_inside (x + binding_variable) (omega arith) t.3,
            plain_inside (x + binding_outer) (omega arith) t.4,
            t.5,
            (t.6.0, word_inside (x + binding_outer) t.6.0 (omega arith) t.6.1, bindings_inside bs t.6.0 t.6.2),
          )

      -- ---- the activation

      slot_inside : (word : ℕ) (f : FrameSlot) → SlotIs a.w word f → SlotIs w1 word f
      slot_inside word (holds v) e = e
      slot_inside word (holds_box i) e = heap_places i word e

      made_inside : (cs : List Captured) (forms : List (Option ExitForm)) → AreMadeBy a.w cs forms → AreMadeBy w1 cs forms
      made_inside [] [] t = tt
      made_inside [] (f ∷ fs) t = t
      made_inside (c ∷ cs) [] t = t
      made_inside (c ∷ cs) (f ∷ fs) t = (one c t.0, made_inside cs fs t.1)
        where
          one : (c : Captured) → MadeBy a.w c f → MadeBy w1 c f
          one (of_exit (Some e)) k = k
          one (of_exit None) k = tt
          one (of_value v) k = tt
          one (of_box o) k = tt
          one (of_method o) k = tt

      self_inside : (made : List (ℕ × List Captured)) (word word' : Option ℕ) (cs : List Captured) → word' ≡ word → SelfHeld a.w made word cs → SelfHeld w1 made word' cs
      self_inside made word word' [] e t = tt
      self_inside made word word' (c ∷ cs) e t =
          (t.0, e ∙ t.1, record { number = t.2.number; captured = t.2.captured; spot = t.2.spot; there = t.2.there; here = t.2.here })

      arguments_inside : (address : ℕ) (c : Called) → ArgumentsThere a.w a.y.arena address c → ArgumentsHeld a.w a.y.arena address c → ArgumentsHeld w1 y1.arena address c
      arguments_inside address c (inl k) held = in_heap k
      arguments_inside address c (inr low) (in_heap k) = in_heap k
      arguments_inside address c (inr low) (arguments_on_stack values plain) =
          arguments_on_stack (λ high i few. value_inside (address + 4 * i) _ (omega (arith, low.0)) (values low.0 i few))
          (λ k few. plain_inside (address + k) (omega (arith, low.0)) (plain k few))

      -- registers in front of the first one are as they were
      module _ (regs : Registers) (same : (i : ℕ) → i < a.d → register i regs ≡ register i a.regs) where
        there_inside : (m : Option ℕ) (called : Option Called) → ((r : ℕ) → m ≡ Some r → register (r + 2) regs ≡ register (r + 2) a.regs) → MethodThere setting a.w a.y.arena a.regs m called → MethodThere setting w1 y1.arena regs m called
        there_inside (Some m) (Some c) kept t = λ address e. by address (t address (sym (kept m refl) ∙ e))
          where
            by : (address : ℕ) → ArgumentsThere a.w a.y.arena address c → ArgumentsThere w1 y1.arena address c
            by address (inl k) = inl k
            by address (inr low) = inr (omega (arith, low.0, from_less), low.1)
        there_inside (Some m) None kept t = tt
        there_inside None (Some c) kept t = tt
        there_inside None None kept t = tt

        method_inside :
            (keeps : Bool) (m : Option ℕ) (called : Option Called)
            → ((r : ℕ) → m ≡ Some r → (register r regs ≡ register r a.regs) × (register (r + 1) regs ≡ register (r + 1) a.regs) × (register (r + 2) regs ≡ register (r + 2) a.regs))
            → MethodThere setting a.w a.y.arena a.regs m called → MethodHeld setting a.w a.y.arena keeps a.regs m called → MethodHeld setting w1 y1.arena keeps regs m called
        method_inside keeps None None kept there t = tt
        method_inside keeps None (Some c) kept there t = t
        method_inside keeps (Some m) None kept there t = let e = kept m refl in (t.0, t.1, e.0 ∙ t.2, e.1 ∙ t.3, e.2 ∙ t.4)
        method_inside keeps (Some m) (Some c) kept there t =
            let e = kept m refl in
            record {
              chain = t.chain;
              arguments = t.arguments;
              chain_word = e.0 ∙ t.chain_word;
              count_word = e.1 ∙ t.count_word;
              arguments_word = e.2 ∙ t.arguments_word;
              chain_stands = t.chain_stands;
              takes = t.takes;
              held = arguments_inside t.arguments c (there t.arguments t.arguments_word) t.held;
              kept = λ keep. t.kept keep;
            }

        site_inside : (p : SitePlace) (place : Place) → ((r : ℕ) → p ≡ Held r → register r regs ≡ register r a.regs) → SiteHeld setting a.regs p place → SiteHeld setting regs p place
        site_inside (Known n) place kept t = t
        site_inside (Held r) place kept t = (t.0, kept r refl ∙ t.1, t.2)

        method_registers :
            (r : ℕ) → a.s.code.method ≡ Some r
            → (register r regs ≡ register r a.regs) × (register (r + 1) regs ≡ register (r + 1) a.regs) × (register (r + 2) regs ≡ register (r + 2) a.regs)
        method_registers r e = let own = a.begins.scope.method r e in (same r own.0.0, same (r + 1) own.1.0, same (r + 2) own.2.0)

        activation_inside :
            (vs : List Value) (bs : List (List ℕ × ℕ)) (hs : List Value)
            → ActivationStands setting a.s a.rs a.valid w1 a.env (inner_around setting placed a bs hs) (inner_state setting placed a vs) regs y1
        activation_inside vs bs hs =
            let t = a.begins.activation in
            let scope = a.begins.scope in
            record {
              slot_count = t.slot_count;
              home_count = t.home_count;
              homes = t.homes;
              slots = λ n r f e g. let old = t.slots n r f e g in (old.0, same r (scope.slots_below n r e) ∙ old.1, slot_inside old.0 f old.2);
              exit_count = t.exit_count;
              flat_count = t.flat_count;
              exits = λ n x e.
                  let old = t.exits n x e in
                  let own = scope.exits n x e in (
                    old.0,
                    old.1,
                    same x.serial own.0.0 ∙ old.2,
                    subst (λ o. ExitReached x.reach a.rs a.valid a.around.exits old.0 o) (sym (same x.record_register own.1.0)) old.3,
                  );
              exit_forms = t.exit_forms;
              kinds = t.kinds;
              made_by = made_inside a.env.captured a.s.exits.captured t.made_by;
              self = self_inside a.z.captured (register a.s.code.function a.regs) (register a.s.code.function regs) a.env.captured (same a.s.code.function scope.self.0) t.self;
              method = method_inside a.s.keeps_method a.s.code.method a.env.method method_registers a.begins.method_there t.method;
              site = site_inside a.s.code.site a.around.site (λ r e. same r (scope.site r e).0) t.site;
            }

        -- **what is around inside**, and where the code begins
        pub lent_within :
            {old keeper d n bindings_cell handlers_cell paid : ℕ} {vs : List Value} {bs : List (List ℕ × ℕ)} {hs : List Value}
            → Things setting w1 (inner_state setting placed a vs) y1 → HasWordAt y1 bindings_address bindings_cell → BindingsAt setting w1 y1 bindings_cell bs
            → HasWordAt y1 handlers_address handlers_cell → HandlersAt w1 y1 handlers_cell hs
            → n + words_for_handler * length hs + (count + 2) ≤ a.n + words_for_handler * length a.around.handlers
            → (slot ≡ current_address → ⊥) → (slot ≡ link_address → ⊥) → HasWordAt a.y slot old
            → cost ≡ a.y.cost + paid → length regs ≡ length a.regs → ((i : ℕ) → i < a.d → slice_get regs i ≡ slice_get a.regs i)
            → a.d < keeper → keeper < d → d < length regs → register keeper regs ≡ Some old
            → Within setting placed a count paid slot old keeper d n boxes vs bs hs regs y1
        lent_within {old} {keeper} {d} {n} {bindings_cell} {handlers_cell} {paid} {vs} {bs} {hs} things b_word b_cells h_word h_cells enough no_current no_link old_word cost_is many below high low first kept =
            let t = outer_around setting placed a in
            record {
              begins = record {
                call = record {
                  things = things;
                  around_stands = record {
                    current = t.current;
                    link = t.link;
                    handlers_cell = handlers_cell;
                    bindings_cell = bindings_cell;
                    current_word = control_stays current_address (omega arith) no_current ∙ t.current_word;
                    link_word = control_stays link_address (omega arith) no_link ∙ t.link_word;
                    handlers_word = h_word;
                    bindings_word = b_word;
                    chain = chain_lower (stack_from a.y.arena) (stack_from y1.arena) t.current a.rs from_less t.chain;
                    records = λ r i. record_inside r (t.records r i);
                    links = t.links;
                    handlers = h_cells;
                    bindings = b_cells;
                    ends_at_end = t.ends_at_end;
                    end_record = t.end_record;
                    end_valid = t.end_valid;
                    end_word = control_stays end_address (omega arith) (λ e. let stored = h.slot_stored in omega (arith, e, stored)) ∙ t.end_word;
                    end_form = t.end_form;
                    tags_land = t.tags_land;
                  };
                  room = room_inside setting.limit a.begins.call.room;
                };
                activation = activation_inside vs bs hs;
                scope = scope_later a.s.code a.d d (omega (arith, high, low)) a.begins.scope;
                method_there = there_inside a.s.code.method a.env.method (λ r e. (method_registers r e).2) a.begins.method_there;
                first = first;
              };
              room = h.room;
              blocks = stored_blocks ps (lent_arena count);
              size = size_same;
              heap_to = heap_same;
              outer_words = outer_words;
              old_places = old_places;
              new_places = new_places;
              heap_places = heap_places;
              slot_stored = h.slot_stored;
              slot_aligned = h.slot_aligned;
              slot_other = h.slot_other;
              old_word = old_word;
              controls = λ x m above below other e. control_stays x below other ∙ e;
              paid = cost_is;
              register_count = many;
              same = below;
              keeper_high = high;
              keeper_low = low;
              kept_old = kept;
            }
          where
            heap_of : (ps : List (ℕ × ℕ)) (b : Arena) → (stores ps b).heap_to ≡ b.heap_to
            heap_of [] b = refl
            heap_of (p ∷ ps) b = heap_of ps _

            heap_same : y1.arena.heap_to ≡ a.y.arena.heap_to
            heap_same = heap_of ps (lent_arena count)

            room_inside : (l : Limit) → RoomFor l (a.n + words_for_handler * length a.around.handlers) a.z.state a.y
                → RoomFor l (n + words_for_handler * length hs) (inner_state setting placed a vs).state y1
            room_inside unlimited r = tt
            room_inside (words k) r =
                let from = from_inside in
                let lent_at = lent_low count h.room in
                let lent_to = lent_high count h.room in
                let above = lent_above count h.room in
                let heap = heap_same in
                omega (arith, r, enough, from, lent_at, lent_to, above, heap, outer_stands.aligned)
