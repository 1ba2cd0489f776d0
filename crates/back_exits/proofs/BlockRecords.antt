-- The record of a block: it is laid, or there are no words or no serial number for it.
use Rattle.std.proofs.Common.{◌≡◌, ℕ, ◌+◌, ◌*◌, ◌<◌, ◌≤◌, true, false, List, [], ◌∷◌, ◌++◌, length, Some, refl, sym, ap, ◌∙◌, subst, arith}
use Rattle.std.specs.Prelude.{◌^◌, ◌-◌, ◌==◌, pos, slice_set}
use Rattle.std.proofs.lemmas.Bool.{eqb-true}
use Rattle.lang_meaning.specs.declared.scope.ExitForm.TheVariants.{Block}
use Rattle.lang_meaning.specs.Prefixes.{IsPrefix}
use Rattle.lang_meaning.specs.State.{Exit, block_exit, Limit, words, unlimited}
use Rattle.flat_language.specs.FlatState.{FlatState, FlatEvaluated}
use Rattle.mid_code.specs.declared.operation.Operation.TheVariants.{Draw}
use Rattle.mid_code.specs.Arena.{left, word_at}
use Rattle.mid_code.specs.Costs.{record_cost}
use Rattle.mid_code.specs.Meaning.{Context, exec}
use Rattle.mid_code.specs.MidCode.{perform, code_of}
use Rattle.mid_code.specs.State.{Registers, falls, no_room, exhausted, ends, MidState, with_arena}
use Rattle.mid_code.specs.State.{charged as mid_charged}
use Rattle.mid_arena.proofs.Running.{and_ends, parts_then}
use Rattle.back_lowering.specs.ControlWords.{serials_address, exit_kind, record_serial, record_link, link_address}
use Rattle.back_lowering.specs.Records.{record_laid, exit_laid}
use Rattle.back_lowering.specs.Steps.{store}
use Rattle.back_relation.specs.Setting.{Setting}
use Rattle.back_relation.specs.Placed.{IsPlaced}
use Rattle.back_relation.specs.Room.{words_for_handler}
use Rattle.back_relation.specs.Worlds.{World, for_exit}
use Rattle.back_relation.specs.Around.{RoomFor}
use Rattle.back_relation.specs.Things.{WithinLimit}
use Rattle.back_relation.specs.Ends.{RoomEnded, stopped}
use Rattle.back_relation.specs.Forms.{code_at}
use Rattle.back_relation.specs.Starts.{FlatGrown, Start, EndsAt}
use Rattle.back_relation.specs.Stores.{stores}
use Rattle.back_relation.proofs.Windows.{set_here}
use Rattle.back_exits.specs.Going.{exits_counted}
use Rattle.back_exits.specs.Inside.{around_at, arena_inside, address_inside, LaidAt, IsInnermost}
use Rattle.back_exits.specs.RecordSteps.{record_registers, record_stores, with_stores}
use Rattle.back_exits.specs.Touching.{touched, ExitsMade}
use Rattle.back_exits.proofs.Laying.{record_steps_law}
use Rattle.back_exits.proofs.Puts.{Put, of_control, of_record, pairs}
use Rattle.back_exits.proofs.Steps.{draw_ends, Window}
use Rattle.back_exits.proofs.Words.{charges_none, lent_control, lent_record, says_inside, word_inside, control_after, one_more, record_has, world_laid, laid_stands}

-- what is stored where the record of an exit is laid
abbrev pub exit_puts : (kind address current link drawn : ℕ) → List Put
exit_puts kind address current link drawn =
    of_record 4 kind ∷ of_record 8 current ∷ of_control 0 address ∷ of_control 8 (drawn + 1) ∷ of_record 0 (drawn + 1) ∷ of_record 12 link ∷ of_control 4 address ∷ []

-- ---- no room

module _ (setting : Setting) (a : Start setting) where
  printed_before : (r : FlatEvaluated) → FlatGrown a.z r.state → IsPrefix a.y.printed r.state.state.printed
  printed_before r g = subst (λ xs. IsPrefix xs r.state.state.printed) (sym a.begins.call.things.represents.printed) g.printed

  wants : (r : FlatEvaluated) (l : Limit) → 8 ≤ a.n → left a.y.arena < 8 → RoomFor l (a.n + words_for_handler * length a.around.handlers) a.z.state a.y → WithinLimit l a.z.state → RoomEnded setting l r.outcome
  wants r unlimited enough few h g = tt
  wants r (words m) enough few h g = absurd (omega (arith, enough, few, h, g))

  pub no_words : {credit : ℕ} (cost : ℕ) → cost ≤ credit → (r : FlatEvaluated) → FlatGrown a.z r.state → 8 ≤ a.n → left a.y.arena < 8 → EndsAt setting credit a r (ends (no_room 8 (left a.y.arena)) a.regs (mid_charged cost a.y))
  no_words cost cheap r g enough few =
      stopped (record {
        because = (wants r setting.limit enough few a.begins.call.room a.begins.call.things.within_limit, few);
        printed = printed_before r g;
        paid = λ ended. omega (arith, cheap, g.units);
      })

  -- ---- no serial number

  pub no_serial :
      {credit : ℕ} (r : FlatEvaluated) (regs : Registers) (y : MidState) → y.printed ≡ a.y.printed → y.cost ≤ a.y.cost + credit → FlatGrown a.z r.state → a.z.state.exits + 1 ≤ r.state.state.exits
      → (a.begins.call.things.serials.0 == 2 ^ 32 - 1) ≡ true → EndsAt setting credit a r (ends exhausted regs y)
  no_serial r regs y same cheap g more last =
      let s = a.begins.call.things.serials in
      let drawn : s.0 ≡ 2 ^ 32 - 1 = eqb-true s.0 (2 ^ 32 - 1) last in
      let count = s.2 in
      stopped (record {
        because = omega (arith, drawn, count, more);
        printed = subst (λ xs. IsPrefix xs r.state.state.printed) (sym same) (printed_before r g);
        paid = λ ended. omega (arith, cheap, g.units);
      })

module _ (setting : Setting) (placed : IsPlaced setting) (k turns : ℕ) (a : Start setting) (room : 8 ≤ left a.y.arena) (win : Window a.regs a.d) where
  abbrev c : Context
  c = code_at setting k turns

  abbrev pub drawn : ℕ
  drawn = a.begins.call.things.serials.0

  abbrev at : ℕ
  at = address_inside setting a

  -- the state where the block of the record was laid
  abbrev pub block_laid : MidState
  block_laid = with_arena (arena_inside setting a) (mid_charged record_cost a.y)

  window_set : slice_set a.regs (a.d + 1) (Some at) ≡ win.front ++ win.r0 ∷ Some at ∷ win.r2 ∷ win.r3 ∷ win.r4 ∷ win.r5 ∷ win.r6 ∷ win.r7 ∷ win.tail
  window_set = ap (λ rs. slice_set rs (a.d + 1) (Some at)) win.parts ∙ set_here c win.front a.d win.many _ (a.d + 1) 1 (Some at) refl

  abbrev pub laid_registers : Registers
  laid_registers =
      record_registers win.front (Some (drawn + 1)) at (around_at setting a).current (around_at setting a).link (around_at setting a).handlers_cell (around_at setting a).bindings_cell (Some 0) (Some exit_kind) win.tail

  abbrev pub puts : List Put
  puts = exit_puts exit_kind at (around_at setting a).current (around_at setting a).link drawn

  serial_word : word_at (arena_inside setting a) serials_address ≡ Some drawn
  serial_word = word_inside setting a placed room serials_address drawn (omega arith) a.begins.call.things.serials.1

  -- the record is laid
  pub lays :
      (drawn == 2 ^ 32 - 1) ≡ false
      → exec c (code_of (exit_laid a.d (a.d + 1) (a.d + 6) exit_kind)) (slice_set a.regs (a.d + 1) (Some at)) block_laid
      ≡ ends falls laid_registers (touched (pairs at puts) (arena_inside setting a) (a.y.cost + 36 + 118) a.y)
  lays fewer =
      ap (λ rs. exec c (code_of (exit_laid a.d (a.d + 1) (a.d + 6) exit_kind)) rs block_laid) window_set
      ∙ record_steps_law.exit_laid c win.front win.tail a.d win.r0 win.r2 win.r3 win.r4 win.r5 win.r6 win.r7 exit_kind at (around_at setting a).current (around_at setting a).link
      (around_at setting a).handlers_cell (around_at setting a).bindings_cell drawn block_laid win.many (lent_control setting a placed room) (lent_record setting a placed room) (says_inside setting a placed room)
      serial_word fewer

  -- or there is no serial number
  abbrev pub ended_registers : Registers
  ended_registers =
      record_registers win.front win.r0 at (around_at setting a).current (around_at setting a).link (around_at setting a).handlers_cell (around_at setting a).bindings_cell (Some 0) (Some exit_kind) win.tail

  abbrev pub ended_state : MidState
  ended_state = mid_charged 26 (with_stores (record_stores exit_kind at (around_at setting a).current) 68 block_laid)

  pub lays_none :
      (drawn == 2 ^ 32 - 1) ≡ true
      → exec c (code_of (exit_laid a.d (a.d + 1) (a.d + 6) exit_kind)) (slice_set a.regs (a.d + 1) (Some at)) block_laid ≡ ends exhausted ended_registers ended_state
  lays_none last =
      ap (λ rs. exec c (code_of (exit_laid a.d (a.d + 1) (a.d + 6) exit_kind)) rs block_laid) window_set
      ∙ (parts_then (record_laid (a.d + 1) (a.d + 6) exit_kind)
      (perform (Draw a.d (a.d + 6) (pos serials_address)) ∷ store a.d (a.d + 1) record_serial ∷ store (a.d + 1 + 2) (a.d + 1) record_link ∷ store (a.d + 1) (a.d + 6) link_address ∷ [])
      (record {
        same =
            record_steps_law.laid c win.front win.tail a.d win.r0 win.r2 win.r3 win.r4 win.r5 win.r6 win.r7 exit_kind at (around_at setting a).current (around_at setting a).link
            (around_at setting a).handlers_cell (around_at setting a).bindings_cell block_laid win.many (lent_control setting a placed room) (lent_record setting a placed room) (says_inside setting a placed room);
      })
      (and_ends tt
      (draw_ends c win.front a.d win.many _ _ a.d (a.d + 6) 6 0 serials_address drawn refl refl (omega arith)
      (control_after setting a placed room 8 (of_record 4 exit_kind ∷ of_record 8 (around_at setting a).current ∷ of_control 0 at ∷ []) refl (omega arith) refl ∙ serial_word)
      last))).same

  -- ---- the record of a block

  module _ (fewer : (drawn == 2 ^ 32 - 1) ≡ false) where
    abbrev pub the_exit : Exit
    the_exit = record { number = a.z.state.exits; kind = block_exit }

    pub made : ExitsMade a.w a.z (a.w.exit_forms ++ Some Block ∷ []) (a.z.state.exits + 1) (stores (pairs at puts) (arena_inside setting a))
    made = one_more setting a placed room a.z puts (Some Block) refl refl fewer refl

    abbrev pub world_of_block : World
    world_of_block = world_laid setting a placed room c a.z (charges_none setting a) 154 (a.y.cost + 36 + 118) (omega arith) puts refl (a.w.exit_forms ++ Some Block ∷ []) (a.z.state.exits + 1) (a.z.state.exits ∷ a.z.state.made) made

    abbrev pub flat_of_block : FlatState
    flat_of_block = exits_counted (a.z.state.exits + 1) (a.z.state.exits ∷ a.z.state.made) a.z

    abbrev pub state_of_block : MidState
    state_of_block = touched (pairs at puts) (arena_inside setting a) (a.y.cost + 36 + 118) a.y

    number : Some (drawn + 1) ≡ Some a.z.state.exits
    number = ap Some a.begins.call.things.serials.2

    pub block_stands : LaidAt setting a 0 154 (for_exit the_exit) at world_of_block flat_of_block laid_registers state_of_block
    block_stands =
        laid_stands setting a placed room c a.z (charges_none setting a) 154 (a.y.cost + 36 + 118) (omega arith) puts refl (a.w.exit_forms ++ Some Block ∷ []) (a.z.state.exits + 1) (a.z.state.exits ∷ a.z.state.made) made
        (for_exit the_exit) at refl refl refl refl refl refl (
          record_has setting a placed room c a.z (charges_none setting a) 154 (a.y.cost + 36 + 118) (omega arith) puts refl (a.w.exit_forms ++ Some Block ∷ []) (a.z.state.exits + 1) (a.z.state.exits ∷ a.z.state.made) made 0 a.z.state.exits
              (omega arith) refl number,
          record_has setting a placed room c a.z (charges_none setting a) 154 (a.y.cost + 36 + 118) (omega arith) puts refl (a.w.exit_forms ++ Some Block ∷ []) (a.z.state.exits + 1) (a.z.state.exits ∷ a.z.state.made) made 12 (around_at setting a).link
              (omega arith) refl refl,
          tt,
        )
        win.front win.tail win.many win.r0 win.r1 win.r2 win.r3 win.r4 win.r5 win.r6 win.r7 win.parts (Some (drawn + 1)) (Some 0) (Some exit_kind)

    pub block_first : IsInnermost setting a the_exit world_of_block flat_of_block
    block_first = record {
      some = let count = a.begins.call.things.serials.2 in omega (arith, count);
      made = omega arith;
      no_end = λ e. absurd (cc e);
      links = (around_at setting a).links;
      unnamed = λ f. absurd f;
    }
