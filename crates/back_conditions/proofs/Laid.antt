-- The record of a signal's exit is laid, and the handlers outside the innermost one are around.
use Rattle.std.proofs.Common.{◌≡◌, inl, inr, ℕ, ◌+◌, ◌<◌, ◌≤◌, true, false, List, [], ◌∷◌, ◌++◌, length, Option, Some, None, refl, sym, ap, ◌∙◌, subst, arith, length-append}
use Rattle.std.specs.Prelude.{◌%◌, ◌^◌, ◌==◌, ◌-◌, slice_get, if◌then◌else◌}
use Rattle.std.proofs.lemmas.Bool.{eqb-false, ne_eqb}
use Rattle.base.specs.Names.{slice_get-front, slice_get-behind}
use Rattle.lang_meaning.specs.declared.scope.ExitForm.{ExitForm}
use Rattle.lang_meaning.specs.State.{DynamicContext, Exit, signal_exit, end_exit}
use Rattle.lang_meaning.specs.Values.{Value}
use Rattle.flat_language.specs.FlatState.{FlatState, charged}
use Rattle.mid_code.specs.Arena.{Arena, record_of, left, stack_from, is_lent, word_at}
use Rattle.mid_code.specs.Costs.{record_cost}
use Rattle.mid_code.specs.Meaning.{Context, exec}
use Rattle.mid_code.specs.MidCode.{code_of}
use Rattle.mid_code.specs.State.{Registers, exhausted, ends, MidState, with_arena}
use Rattle.mid_code.specs.State.{charged as mid_charged}
use Rattle.mid_arena.specs.Growing.{Grows}
use Rattle.mid_arena.specs.Places.{end_of}
use Rattle.mid_arena.specs.Standing.{ArenaStands, SpotStands}
use Rattle.mid_arena.proofs.Growing.{spot_below, spot_grown}
use Rattle.mid_arena.proofs.Memory.{grows_with_new_block, stands_with_new_block}
use Rattle.mid_arena.proofs.Running.{and_then, and_ends, constant_falls, load_falls, store_falls, address_above}
use Rattle.back_lowering.specs.ControlWords.{control_address, record_words, record_tag, record_mark, signal_kind, serials_address, current_address, link_address, handlers_address, bindings_address, site_address, handler_function, handler_outer}
use Rattle.back_lowering.specs.Records.{exit_laid}
use Rattle.back_lowering.specs.Steps.{Steps, load, store}
use Rattle.back_relation.specs.Setting.{Setting, control_spot}
use Rattle.back_relation.specs.Placed.{IsPlaced}
use Rattle.back_relation.specs.Worlds.{World, for_exit, Standing, IsIn, EndsAtEnd, TagsLand, record_of_exit, record_bytes}
use Rattle.back_relation.specs.StackWords.{HasWordAt, HandlersAt, RecordAt}
use Rattle.back_relation.specs.Things.{Things}
use Rattle.back_relation.specs.Around.{AroundStands, SiteStored}
use Rattle.back_relation.specs.Ends.{WorldKept}
use Rattle.back_relation.specs.Forms.{code_at}
use Rattle.back_relation.specs.RoutineClaims.{WordIs}
use Rattle.back_relation.specs.Cuts.{boxes_cut}
use Rattle.back_relation.specs.Stores.{stores}
use Rattle.back_relation.proofs.Straight.{things_units}
use Rattle.back_relation.proofs.Windows.{draw_in, stored_elsewhere, stored_lent}
use Rattle.back_relation.proofs.Worlds.{word_later, record_stays, handlers_stay, bindings_stay, chain_lower}
use Rattle.back_relation.proofs.Boxes.{stack_above}
use Rattle.back_exits.specs.Going.{world_with, exits_counted}
use Rattle.back_exits.specs.RecordSteps.{ControlLent}
use Rattle.back_exits.specs.Touching.{Touched, touched, ExitsMade}
use Rattle.back_exits.proofs.Inside.{links_in}
use Rattle.back_exits.proofs.Puts.{Put, of_control, of_record, pairs, are_puts, or_before, last_control, last_record, puts_touch, control_stands, record_stands}
use Rattle.back_exits.proofs.Touching.{world_touched, stored_blocks, stored_heap, touches_aligned, touches_beside}
use Rattle.back_exits.proofs.Words.{control_lent, control_there, control_of}
use Rattle.back_conditions.proofs.Frames.{word_there}
use Rattle.back_conditions.proofs.Drawing.{draw_ends}
use Rattle.back_conditions.proofs.Blocks.{block_arena, block_at, block_from, block_to, block_low, block_aligned, block_lent, block_there, Opened, at_from, found_new, deeper}

exit_of_role : (x e : Exit) → for_exit x ≡ for_exit e → x ≡ e
exit_of_role x e same = cc same

ends_behind : (x : Exit) (xs : List Exit) → (x.kind ≡ end_exit → ⊥) → EndsAtEnd xs → EndsAtEnd (x ∷ xs)
ends_behind x [] n e = absurd e
ends_behind x (y ∷ ys) n e = (n, e)

module _ (setting : Setting) (placed : IsPlaced setting) (k t : ℕ) (rs valid : List Standing) (w : World) (around : DynamicContext) (z : FlatState) (y : MidState)
    (things : Things setting w z y) (ar : AroundStands setting w rs valid around z y) (c mark h : Value) (hs : List Value) (c_word mark_word : ℕ)
    (of_condition : WordIs setting w c_word c) (of_mark : WordIs setting w mark_word mark) (handlers : HandlersAt w y ar.handlers_cell (h ∷ hs)) (room : 8 ≤ left y.arena) where
  abbrev cx : Context
  cx = code_at setting k t

  stands : ArenaStands y.arena
  stands = things.represents.arena

  abbrev pub inner : Arena
  inner = block_arena 6 things.represents.arena room

  abbrev pub at : ℕ
  at = block_at 6 things.represents.arena room

  abbrev pub drawn : ℕ
  drawn = things.serials.0

  abbrev pub cell : ℕ
  cell = ar.handlers_cell

  abbrev pub outer : ℕ
  outer = handlers.5.0

  abbrev pub h_word : ℕ
  h_word = handlers.0.word

  grows : Grows y.arena inner
  grows = grows_with_new_block (record_of record_words) stands room

  stands_inside : ArenaStands inner
  stands_inside = stands_with_new_block (record_of record_words) stands room

  to : at + 24 ≡ stack_from y.arena
  to = block_to 6 stands room

  below_heap : end_of (control_spot setting) ≤ y.arena.heap_to
  below_heap = spot_below stands (control_of setting things)

  pub above : 220 ≤ at
  above = let low = block_low 6 stands room in let below = below_heap in omega (arith, low, below)

  pub at_aligned : at % 4 ≡ 0
  at_aligned = block_aligned 6 stands room

  high : at + 24 < 2 ^ 32
  high = let size = stands.size in let t = to in omega (arith, size, t)

  spot_inside : SpotStands inner (control_spot setting)
  spot_inside = spot_grown grows.heap (control_of setting things)

  lent_control : ControlLent inner
  lent_control = control_lent setting spot_inside

  -- words are lent behind stores
  control_lent_then : (ps : List Put) (i : ℕ) → i < 36 → i % 4 ≡ 0 → is_lent (stores (pairs at ps) inner) (control_address + i) ≡ true
  control_lent_then ps i few aligned = stored_lent (pairs at ps) inner (control_address + i) ∙ lent_control i few aligned

  record_lent_then : (ps : List Put) (i : ℕ) → i < 24 → i % 4 ≡ 0 → is_lent (stores (pairs at ps) inner) (at + i) ≡ true
  record_lent_then ps i few aligned = stored_lent (pairs at ps) inner (at + i) ∙ block_lent 6 stands room i (omega (arith, few)) aligned

  pub word_inside : (x n : ℕ) → x < 220 → HasWordAt y x n → word_at inner x ≡ Some n
  word_inside x n low e = let below = below_heap in grows.words x (omega (arith, low, below)) ∙ e

  pub control_after : (i : ℕ) (ps : List Put) → are_puts ps ≡ true → i < 36 → i % 4 ≡ 0
      → word_at (stores (pairs at ps) inner) (control_address + i) ≡ or_before (last_control i ps) (word_at inner (control_address + i))
  control_after i ps are few word = control_stands at at_aligned above i ps inner are few (lent_control i few word) (control_there setting spot_inside stands_inside i few)

  record_after : (i : ℕ) (ps : List Put) → are_puts ps ≡ true → i < 24 → i % 4 ≡ 0
      → word_at (stores (pairs at ps) inner) (at + i) ≡ or_before (last_record i ps) (word_at inner (at + i))
  record_after i ps are few word = record_stands at at_aligned above i ps inner are (block_lent 6 stands room i (omega (arith, few)) word) (block_there 6 stands room i (omega (arith, few)))

  stack_after : (ps : List Put) → are_puts ps ≡ true → (x : ℕ) → stack_from y.arena ≤ x → word_at (stores (pairs at ps) inner) x ≡ word_at y.arena x
  stack_after ps are x low =
      let t = to in
      let up = above in
      let touches = puts_touch at at_aligned above ps are in
      stored_elsewhere (pairs at ps) inner x (touches_aligned at (at + 24) (pairs at ps) touches)
      (touches_beside at (at + 24) (pairs at ps) x (omega (arith, t, up, low)) (inr (omega (arith, t, low))) touches)
      ∙ grows.stack x low (let from = block_from 6 stands room in omega (arith, from, t, low))

  -- ---- the steps

  abbrev two : List Put
  two = of_record 16 c_word ∷ of_record 20 mark_word ∷ []

  abbrev three : List Put
  three = of_record 16 c_word ∷ of_record 20 mark_word ∷ of_record 4 3 ∷ []

  abbrev four : List Put
  four = of_record 16 c_word ∷ of_record 20 mark_word ∷ of_record 4 3 ∷ of_record 8 ar.current ∷ []

  abbrev five : List Put
  five = of_record 16 c_word ∷ of_record 20 mark_word ∷ of_record 4 3 ∷ of_record 8 ar.current ∷ of_control 0 at ∷ []

  abbrev six : List Put
  six = of_record 16 c_word ∷ of_record 20 mark_word ∷ of_record 4 3 ∷ of_record 8 ar.current ∷ of_control 0 at ∷ of_control 8 (drawn + 1) ∷ []

  abbrev seven : List Put
  seven = of_record 16 c_word ∷ of_record 20 mark_word ∷ of_record 4 3 ∷ of_record 8 ar.current ∷ of_control 0 at ∷ of_control 8 (drawn + 1) ∷ of_record 0 (drawn + 1) ∷ []

  abbrev eight : List Put
  eight =
      of_record 16 c_word ∷ of_record 20 mark_word ∷ of_record 4 3 ∷ of_record 8 ar.current ∷ of_control 0 at ∷ of_control 8 (drawn + 1) ∷ of_record 0 (drawn + 1)
      ∷ of_record 12 ar.link ∷ []

  abbrev nine : List Put
  nine =
      of_record 16 c_word ∷ of_record 20 mark_word ∷ of_record 4 3 ∷ of_record 8 ar.current ∷ of_control 0 at ∷ of_control 8 (drawn + 1) ∷ of_record 0 (drawn + 1)
      ∷ of_record 12 ar.link ∷ of_control 4 at ∷ []

  abbrev pub puts : List Put
  puts =
      of_record 16 c_word ∷ of_record 20 mark_word ∷ of_record 4 3 ∷ of_record 8 ar.current ∷ of_control 0 at ∷ of_control 8 (drawn + 1) ∷ of_record 0 (drawn + 1)
      ∷ of_record 12 ar.link ∷ of_control 4 at ∷ of_control 20 outer ∷ []

  -- the state where the block was laid, and where all words were stored
  abbrev pub block_laid : MidState
  block_laid = with_arena inner (mid_charged record_cost y)

  abbrev pub laid_cost : ℕ
  laid_cost = y.cost + 36 + 8 + 8 + 6 + 6 + 8 + 8 + 8 + 8 + 8 + 8 + 8 + 26 + 8 + 8 + 8 + 8 + 8 + 8

  abbrev pub y_laid : MidState
  y_laid = touched (pairs at puts) inner laid_cost y

  module _ (r2 site : ℕ) where
    abbrev pub regs_before : Registers
    regs_before =
        Some c_word ∷ Some mark_word ∷ Some r2 ∷ Some 0 ∷ Some cell ∷ None ∷ None ∷ Some site ∷ Some at ∷ None ∷ None ∷ None ∷ None ∷ None ∷ None ∷ None ∷ None ∷ None ∷ []

    abbrev pub regs_laid : Registers
    regs_laid =
        Some c_word ∷ Some mark_word ∷ Some r2 ∷ Some 0 ∷ Some cell ∷ Some h_word ∷ None ∷ Some site ∷ Some at ∷ Some ar.current ∷ Some ar.link ∷ Some cell ∷ Some ar.bindings_cell
        ∷ Some (drawn + 1) ∷ Some 0 ∷ Some signal_kind ∷ None ∷ None ∷ []

    abbrev pub laying : Steps → Steps
    laying rest =
        store 0 8 record_tag ∷ store 1 8 record_mark
        ∷ (exit_laid 13 8 14 signal_kind ++ (load 5 4 handler_outer ∷ store 5 14 handlers_address ∷ load 5 4 handler_function ∷ rest))

    cell_low : cell + 4 < 2 ^ 32
    cell_low = let size = stands.size in let there = word_there y.arena (cell + handler_outer) outer stands handlers.5.1 in omega (arith, size, there.below)

    pub lays : (drawn == 2 ^ 32 - 1) ≡ false → (rest : Steps) → exec cx (code_of (laying rest)) regs_before block_laid ≡ exec cx (code_of rest) regs_laid y_laid
    lays fewer rest =
        let up = high in
        (and_then (store_falls refl refl (address_above at 16 (at + 16) refl (omega (arith, up))) (record_lent_then [] 16 (omega arith) refl))
        (and_then (store_falls refl refl (address_above at 20 (at + 20) refl (omega (arith, up))) (record_lent_then (of_record 16 c_word ∷ []) 20 (omega arith) refl))
        (and_then constant_falls
        (and_then constant_falls
        (and_then (store_falls refl refl (address_above at 4 (at + 4) refl (omega (arith, up))) (record_lent_then two 4 (omega arith) refl))
        (and_then (load_falls refl (address_above 0 current_address current_address (omega arith) (omega arith)) (control_after 0 three refl (omega arith) refl ∙ word_inside current_address ar.current (omega arith) ar.current_word))
        (and_then (store_falls refl refl (address_above at 8 (at + 8) refl (omega (arith, up))) (record_lent_then three 8 (omega arith) refl))
        (and_then (load_falls refl (address_above 0 link_address link_address (omega arith) (omega arith)) (control_after 4 four refl (omega arith) refl ∙ word_inside link_address ar.link (omega arith) ar.link_word))
        (and_then (load_falls refl (address_above 0 handlers_address handlers_address (omega arith) (omega arith)) (control_after 20 four refl (omega arith) refl ∙ word_inside handlers_address cell (omega arith) ar.handlers_word))
        (and_then (load_falls refl (address_above 0 bindings_address bindings_address (omega arith) (omega arith)) (control_after 24 four refl (omega arith) refl ∙ word_inside bindings_address ar.bindings_cell (omega arith) ar.bindings_word))
        (and_then (store_falls refl refl (address_above 0 current_address current_address (omega arith) (omega arith)) (control_lent_then four 0 (omega arith) refl))
        (and_then
        (draw_in cx [] 0 refl
        (Some c_word ∷ Some mark_word ∷ Some r2 ∷ Some 0 ∷ Some cell ∷ None ∷ None ∷ Some site ∷ Some at ∷ Some ar.current ∷ Some ar.link ∷ Some cell ∷ Some ar.bindings_cell
        ∷ None ∷ Some 0 ∷ Some signal_kind ∷ None ∷ None ∷ [])
        (touched (pairs at five) inner (y.cost + 36 + 8 + 8 + 6 + 6 + 8 + 8 + 8 + 8 + 8 + 8 + 8) y) 13 13 14 14 0 serials_address drawn refl refl refl (omega arith)
        (control_after 8 five refl (omega arith) refl ∙ word_inside serials_address drawn (omega arith) things.serials.1) fewer (control_lent_then five 8 (omega arith) refl))
        (and_then (store_falls refl refl (address_above at 0 (at + 0) refl (omega (arith, up))) (record_lent_then six 0 (omega arith) refl))
        (and_then (store_falls refl refl (address_above at 12 (at + 12) refl (omega (arith, up))) (record_lent_then seven 12 (omega arith) refl))
        (and_then (store_falls refl refl (address_above 0 link_address link_address (omega arith) (omega arith)) (control_lent_then eight 4 (omega arith) refl))
        (and_then (load_falls refl (address_above cell 4 (cell + 4) refl cell_low) (stack_after nine refl (cell + 4) (let low = handlers.1 in omega (arith, low)) ∙ handlers.5.1))
        (and_then (store_falls refl refl (address_above 0 handlers_address handlers_address (omega arith) (omega arith)) (control_lent_then nine 20 (omega arith) refl))
        (and_then (load_falls refl (address_above cell 0 (cell + 0) refl (let low = cell_low in omega (arith, low))) (stack_after puts refl (cell + 0) (let low = handlers.1 in omega (arith, low)) ∙ handlers.0.stands))
        (record { same = refl }))))))))))))))))))).same

    -- there is no serial number left
    abbrev pub none_state : MidState
    none_state = mid_charged 26 (touched (pairs at five) inner (y.cost + 36 + 8 + 8 + 6 + 6 + 8 + 8 + 8 + 8 + 8 + 8 + 8) y)

    abbrev pub none_regs : Registers
    none_regs =
        Some c_word ∷ Some mark_word ∷ Some r2 ∷ Some 0 ∷ Some cell ∷ None ∷ None ∷ Some site ∷ Some at ∷ Some ar.current ∷ Some ar.link ∷ Some cell ∷ Some ar.bindings_cell
        ∷ None ∷ Some 0 ∷ Some signal_kind ∷ None ∷ None ∷ []

    pub lays_none : (drawn == 2 ^ 32 - 1) ≡ true → (rest : Steps) → exec cx (code_of (laying rest)) regs_before block_laid ≡ ends exhausted none_regs none_state
    lays_none last rest =
        let up = high in
        (and_then (store_falls refl refl (address_above at 16 (at + 16) refl (omega (arith, up))) (record_lent_then [] 16 (omega arith) refl))
        (and_then (store_falls refl refl (address_above at 20 (at + 20) refl (omega (arith, up))) (record_lent_then (of_record 16 c_word ∷ []) 20 (omega arith) refl))
        (and_then constant_falls
        (and_then constant_falls
        (and_then (store_falls refl refl (address_above at 4 (at + 4) refl (omega (arith, up))) (record_lent_then two 4 (omega arith) refl))
        (and_then (load_falls refl (address_above 0 current_address current_address (omega arith) (omega arith)) (control_after 0 three refl (omega arith) refl ∙ word_inside current_address ar.current (omega arith) ar.current_word))
        (and_then (store_falls refl refl (address_above at 8 (at + 8) refl (omega (arith, up))) (record_lent_then three 8 (omega arith) refl))
        (and_then (load_falls refl (address_above 0 link_address link_address (omega arith) (omega arith)) (control_after 4 four refl (omega arith) refl ∙ word_inside link_address ar.link (omega arith) ar.link_word))
        (and_then (load_falls refl (address_above 0 handlers_address handlers_address (omega arith) (omega arith)) (control_after 20 four refl (omega arith) refl ∙ word_inside handlers_address cell (omega arith) ar.handlers_word))
        (and_then (load_falls refl (address_above 0 bindings_address bindings_address (omega arith) (omega arith)) (control_after 24 four refl (omega arith) refl ∙ word_inside bindings_address ar.bindings_cell (omega arith) ar.bindings_word))
        (and_then (store_falls refl refl (address_above 0 current_address current_address (omega arith) (omega arith)) (control_lent_then four 0 (omega arith) refl))
        (and_ends tt
        (record {
          same =
              draw_ends cx none_regs (touched (pairs at five) inner (y.cost + 36 + 8 + 8 + 6 + 6 + 8 + 8 + 8 + 8 + 8 + 8 + 8) y) 13 14 0 serials_address drawn refl (omega arith)
              (control_after 8 five refl (omega arith) refl ∙ word_inside serials_address drawn (omega arith) things.serials.1) last;
        }))))))))))))).same

  -- ---- what stands then

  module _ (fewer : (drawn == 2 ^ 32 - 1) ≡ false) where
    abbrev pub forms : List (Option ExitForm)
    forms = w.exit_forms ++ None ∷ []

    abbrev pub w_laid : World
    w_laid = world_with (boxes_cut (stack_from y.arena) w.boxes) forms w

    abbrev pub z_laid : FlatState
    z_laid = exits_counted (z.state.exits + 1) (z.state.exits ∷ z.state.made) (charged 1 z)

    abbrev pub the_exit : Exit
    the_exit = record { number = z.state.exits; kind = signal_exit c mark }

    abbrev pub new : Standing
    new = record { address = at; outside = length y.arena.blocks; outer = ar.current; link = ar.link; role = for_exit the_exit }

    abbrev pub around_inside : DynamicContext
    around_inside = record around { exits = the_exit ∷ around.exits; handlers = hs }

    made : ExitsMade w (charged 1 z) forms (z.state.exits + 1) (stores (pairs at puts) inner)
    made =
        let s = things.serials in
        let count = s.2 in
        let low = s.3 in
        let not_last : s.0 ≡ 2 ^ 32 - 1 → ⊥ = eqb-false s.0 (2 ^ 32 - 1) fewer in
        record {
          drawn = s.0 + 1;
          word = control_after 8 puts refl (omega arith) refl;
          count = omega (arith, count);
          low = omega (arith, low, not_last);
          more = omega arith;
          form_count = length-append w.exit_forms (None ∷ []) ∙ ap (λ n. n + 1) things.exit_forms;
          forms_kept = λ e o g. slice_get-front w.exit_forms (None ∷ []) e o g;
        }

    touching : Touched y.arena inner (pairs at puts) (stack_from y.arena)
    touching = record {
      grows = grows;
      from = at;
      to = at + 24;
      touches = puts_touch at at_aligned above puts refl;
      low = let low = block_low 6 stands room in omega (arith, low);
      high = let t = to in omega (arith, t);
      before = omega arith;
      after = let from = block_from 6 stands room in let t = to in omega (arith, from, t);
      least = λ x low high. low;
    }

    charged_world : WorldKept setting w w_laid (charged 1 z) z_laid y y_laid
    charged_world = world_touched setting laid_cost (z.state.exits ∷ z.state.made) placed (things_units setting 1 things) touching made

    pub opened : Opened setting 6 w w_laid z z_laid y y_laid
    opened = record {
      room = room;
      stands = stands;
      world = record {
        later = charged_world.later;
        things = charged_world.things;
        stack = charged_world.stack;
        end = charged_world.end;
        more_exits = omega arith;
        same_size = charged_world.same_size;
      };
      blocks = stored_blocks (pairs at puts) inner;
      heap_to = stored_heap (pairs at puts) inner;
      heap = refl;
      stack = refl;
    }

    number_made : 1 ≤ z.state.exits
    number_made = let count = things.serials.2 in omega (arith, count)

    new_stands : RecordAt w_laid y_laid new
    new_stands = record {
      block = record { blocks = record_of 6 ∷ y.arena.blocks; found = found_new setting opened; count = omega arith };
      low = let from = at_from setting opened in omega (arith, from);
      high = let t = to in let same = opened.world.same_size in omega (arith, t, same);
      plain = λ i few j e. let low = stack_above (stack_from y.arena) j (at + i) w.boxes e in let t = to in omega (arith, low, t, few);
      kind = record_after 4 puts refl (omega arith) refl;
      outer = record_after 8 puts refl (omega arith) refl;
      role = (
        record_after 0 puts refl (omega arith) refl ∙ ap Some things.serials.2,
        record_after 12 puts refl (omega arith) refl,
        (
          record { word = c_word; of_value = word_later opened.world.later c c_word of_condition; stands = record_after 16 puts refl (omega arith) refl },
          record { word = mark_word; of_value = word_later opened.world.later mark mark_word of_mark; stands = record_after 20 puts refl (omega arith) refl },
        ),
      );
    }

    records_inside : (r : Standing) → IsIn r (new ∷ rs) → RecordAt w_laid y_laid r
    records_inside r (inl e) = subst (λ q. RecordAt w_laid y_laid q) (sym e) new_stands
    records_inside r (inr i) = record_stays opened.world.later (deeper setting opened (omega arith)) r (ar.records r i)

    lands : TagsLand w_laid (new ∷ rs)
    lands e v (inl same) role tagged =
        let is : the_exit ≡ e = exit_of_role the_exit e (ap (λ (r : Standing). r.role) (sym same) ∙ role) in
        subst (λ (o : Exit). slice_get w_laid.exit_forms o.number ≡ Some None) is
        (ap (slice_get (w.exit_forms ++ None ∷ [])) (sym things.exit_forms) ∙ slice_get-behind w.exit_forms None)
    lands e v (inr i) role tagged = opened.world.later.exit_forms e.number None (ar.tags_land e v i role tagged)

    -- **what is around inside**
    pub around_laid : AroundStands setting w_laid (new ∷ rs) (new ∷ valid) around_inside z_laid y_laid
    around_laid = record {
      current = at;
      link = at;
      handlers_cell = outer;
      bindings_cell = ar.bindings_cell;
      current_word = control_after 0 puts refl (omega arith) refl;
      link_word = control_after 4 puts refl (omega arith) refl;
      handlers_word = control_after 20 puts refl (omega arith) refl;
      bindings_word = control_after 24 puts refl (omega arith) refl ∙ word_inside bindings_address ar.bindings_cell (omega arith) ar.bindings_word;
      chain =
          let from = at_from setting opened in
          let t = to in (
            refl,
            omega (arith, from),
            chain_lower (stack_from y.arena) (at + record_bytes) ar.current rs (omega (arith, t)) ar.chain,
          );
      records = λ r i. records_inside r i;
      links = (refl, inl refl, refl, omega arith, links_in new rs ar.link z.state.exits around.exits valid ar.links);
      handlers = handlers_stay opened.world.later (deeper setting opened (omega arith)) hs outer handlers.5.2;
      bindings = bindings_stay opened.world.later (deeper setting opened (omega arith)) setting around.bindings ar.bindings_cell ar.bindings;
      ends_at_end = ends_behind the_exit around.exits (λ e. cc e) ar.ends_at_end;
      end_record = ar.end_record;
      end_valid =
          ap (λ b. if b then Some new else record_of_exit 0 around.exits valid) (ne_eqb z.state.exits 0 (λ e. let some = number_made in omega (arith, e, some)))
          ∙ ar.end_valid;
      end_word = opened.world.end ar.end_record.address ar.end_word;
      end_form = opened.world.later.exit_forms 0 None ar.end_form;
      tags_land = lands;
    }

    abbrev pub site_laid : SiteStored setting around y → SiteStored setting around_inside y_laid
    site_laid s = (s.0, control_after 28 puts refl (omega arith) refl ∙ word_inside site_address s.0 (omega arith) s.1, s.2)
