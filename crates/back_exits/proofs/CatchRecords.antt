-- The record of a catch: its tag is stored, and it is laid as that of an exit.
use Rattle.std.proofs.Common.{◌≡◌, ℕ, ◌+◌, ◌<◌, ◌≤◌, true, false, List, [], ◌∷◌, ◌++◌, Option, Some, None, refl, sym, ap, ◌∙◌, arith}
use Rattle.std.specs.Prelude.{◌%◌, ◌^◌, ◌-◌, ◌==◌, pos, slice_get, slice_set}
use Rattle.base.specs.Names.{slice_get-behind}
use Rattle.lang_meaning.specs.declared.scope.ExitForm.{ExitForm}
use Rattle.lang_meaning.specs.State.{Exit, catch_exit}
use Rattle.lang_meaning.specs.Values.{Value}
use Rattle.flat_language.specs.FlatState.{FlatState}
use Rattle.mid_code.specs.declared.operation.Operation.TheVariants.{Draw}
use Rattle.mid_code.specs.Arena.{Arena, left, word_at}
use Rattle.mid_code.specs.Costs.{record_cost}
use Rattle.mid_code.specs.Meaning.{Context, exec}
use Rattle.mid_code.specs.MidCode.{perform, code_of}
use Rattle.mid_code.specs.State.{Registers, register, falls, exhausted, ends, MidState, with_arena}
use Rattle.mid_code.specs.State.{charged as mid_charged}
use Rattle.mid_arena.specs.Places.{word_of}
use Rattle.mid_arena.proofs.Running.{StepsTo, and_then, and_ends, parts_then}
use Rattle.back_lowering.specs.ControlWords.{control_address, serials_address, link_address, catch_kind, record_serial, record_link, record_tag}
use Rattle.back_lowering.specs.Records.{record_laid, exit_laid}
use Rattle.back_lowering.specs.Steps.{Steps, store}
use Rattle.back_relation.specs.Setting.{Setting}
use Rattle.back_relation.specs.Placed.{IsPlaced}
use Rattle.back_relation.specs.Worlds.{World, for_exit}
use Rattle.back_relation.specs.StackWords.{HasWordAt}
use Rattle.back_relation.specs.Forms.{code_at}
use Rattle.back_relation.specs.Starts.{Start}
use Rattle.back_relation.specs.Stores.{stores}
use Rattle.back_relation.proofs.Windows.{here, set_here, store_in, stored_lent}
use Rattle.back_exits.specs.Going.{exits_counted}
use Rattle.back_exits.specs.Inside.{around_at, arena_inside, address_inside, LaidAt, IsInnermost}
use Rattle.back_exits.specs.RecordSteps.{record_registers, record_stores, with_stores, ControlSays, ControlLent, RecordLent}
use Rattle.back_exits.specs.Touching.{touched, ExitsMade}
use Rattle.back_exits.proofs.BlockRecords.{exit_puts}
use Rattle.back_exits.proofs.Laying.{record_steps_law}
use Rattle.back_exits.proofs.Puts.{Put, of_control, of_record, pairs, last_record}
use Rattle.back_exits.proofs.Steps.{draw_ends, Window}
use Rattle.back_exits.proofs.Words.{charges_none, lent_control, lent_record, says_inside, word_inside, control_after, one_more, record_has, world_laid, laid_stands}

module _ (setting : Setting) (placed : IsPlaced setting) (k turns : ℕ) (a : Start setting) (room : 8 ≤ left a.y.arena) (win : Window a.regs a.d) (v : Value) (word : ℕ)
    (in_register : register a.d a.regs ≡ Some word) (of_value : word_of a.w.places v ≡ Some word) where
  abbrev c : Context
  c = code_at setting k turns

  abbrev pub drawn : ℕ
  drawn = a.begins.call.things.serials.0

  abbrev at : ℕ
  at = address_inside setting a

  abbrev inner : Arena
  inner = arena_inside setting a

  -- the state where the block of the record was laid, and where the tag was stored
  abbrev pub block_laid : MidState
  block_laid = with_arena (arena_inside setting a) (mid_charged record_cost a.y)

  abbrev tagged : MidState
  tagged = touched (pairs at (of_record 16 word ∷ [])) inner (a.y.cost + 36 + 8) a.y

  abbrev pub steps : Steps
  steps = store a.d (a.d + 1) record_tag ∷ exit_laid a.d (a.d + 1) (a.d + 6) catch_kind

  tag_held : win.r0 ≡ Some word
  tag_held = sym (here c win.front a.d win.many (win.r0 ∷ win.r1 ∷ win.r2 ∷ win.r3 ∷ win.r4 ∷ win.r5 ∷ win.r6 ∷ win.r7 ∷ win.tail) a.d 0 (omega arith)) ∙ ap (register a.d) (sym win.parts) ∙ in_register

  abbrev window : Registers
  window = win.front ++ win.r0 ∷ Some at ∷ win.r2 ∷ win.r3 ∷ win.r4 ∷ win.r5 ∷ win.r6 ∷ win.r7 ∷ win.tail

  window_set : slice_set a.regs (a.d + 1) (Some at) ≡ window
  window_set = ap (λ rs. slice_set rs (a.d + 1) (Some at)) win.parts ∙ set_here c win.front a.d win.many _ (a.d + 1) 1 (Some at) refl

  lent_then : ControlLent tagged.arena
  lent_then i few aligned = stored_lent (pairs at (of_record 16 word ∷ [])) inner (control_address + i) ∙ lent_control setting a placed room i few aligned

  record_then : RecordLent tagged.arena at
  record_then =
      let l = lent_record setting a placed room in
      record {
        aligned = l.aligned;
        above = l.above;
        low = l.low;
        lent = λ i few aligned. stored_lent (pairs at (of_record 16 word ∷ [])) inner (at + i) ∙ l.lent i few aligned;
      }

  says_then : ControlSays tagged.arena (around_at setting a).current (around_at setting a).link (around_at setting a).handlers_cell (around_at setting a).bindings_cell
  says_then =
      let says = says_inside setting a placed room in
      let l : List Put = of_record 16 word ∷ [] in
      record {
        current_word = control_after setting a placed room 0 l refl (omega arith) refl ∙ says.current_word;
        link_word = control_after setting a placed room 4 l refl (omega arith) refl ∙ says.link_word;
        handlers_word = control_after setting a placed room 20 l refl (omega arith) refl ∙ says.handlers_word;
        bindings_word = control_after setting a placed room 24 l refl (omega arith) refl ∙ says.bindings_word;
      }

  serial_inside : word_at inner serials_address ≡ Some drawn
  serial_inside = word_inside setting a placed room serials_address drawn (omega arith) a.begins.call.things.serials.1

  serial_then : word_at tagged.arena serials_address ≡ Some drawn
  serial_then = control_after setting a placed room 8 (of_record 16 word ∷ []) refl (omega arith) refl ∙ serial_inside

  tag_stored : StepsTo c (store a.d (a.d + 1) record_tag) window block_laid (ends falls window tagged)
  tag_stored =
      store_in c win.front a.d win.many _ block_laid a.d 0 (a.d + 1) 1 at 16 word (omega arith) (omega arith) tag_held refl
      (let low = (lent_record setting a placed room).low in omega (arith, low)) ((lent_record setting a placed room).lent 16 (omega arith) refl)

  abbrev pub laid_registers : Registers
  laid_registers =
      record_registers win.front (Some (drawn + 1)) at (around_at setting a).current (around_at setting a).link (around_at setting a).handlers_cell (around_at setting a).bindings_cell (Some 0) (Some catch_kind) win.tail

  abbrev pub puts : List Put
  puts = of_record 16 word ∷ exit_puts catch_kind at (around_at setting a).current (around_at setting a).link drawn

  -- the record is laid
  pub lays :
      (drawn == 2 ^ 32 - 1) ≡ false
      → exec c (code_of steps) (slice_set a.regs (a.d + 1) (Some at)) block_laid ≡ ends falls laid_registers (touched (pairs at puts) inner (a.y.cost + 36 + 8 + 118) a.y)
  lays fewer =
      ap (λ rs. exec c (code_of steps) rs block_laid) window_set
      ∙ (and_then tag_stored
      (record {
        same =
            record_steps_law.exit_laid c win.front win.tail a.d win.r0 win.r2 win.r3 win.r4 win.r5 win.r6 win.r7 catch_kind at (around_at setting a).current (around_at setting a).link
            (around_at setting a).handlers_cell (around_at setting a).bindings_cell drawn tagged win.many lent_then record_then says_then serial_then fewer;
      })).same

  -- or there is no serial number
  abbrev pub ended_registers : Registers
  ended_registers =
      record_registers win.front win.r0 at (around_at setting a).current (around_at setting a).link (around_at setting a).handlers_cell (around_at setting a).bindings_cell (Some 0) (Some catch_kind) win.tail

  abbrev pub ended_state : MidState
  ended_state = mid_charged 26 (with_stores (record_stores catch_kind at (around_at setting a).current) 68 tagged)

  pub lays_none :
      (drawn == 2 ^ 32 - 1) ≡ true → exec c (code_of steps) (slice_set a.regs (a.d + 1) (Some at)) block_laid ≡ ends exhausted ended_registers ended_state
  lays_none last =
      ap (λ rs. exec c (code_of steps) rs block_laid) window_set
      ∙ (and_then tag_stored
      (parts_then (record_laid (a.d + 1) (a.d + 6) catch_kind)
      (perform (Draw a.d (a.d + 6) (pos serials_address)) ∷ store a.d (a.d + 1) record_serial ∷ store (a.d + 1 + 2) (a.d + 1) record_link ∷ store (a.d + 1) (a.d + 6) link_address ∷ [])
      (record {
        same =
            record_steps_law.laid c win.front win.tail a.d win.r0 win.r2 win.r3 win.r4 win.r5 win.r6 win.r7 catch_kind at (around_at setting a).current (around_at setting a).link
            (around_at setting a).handlers_cell (around_at setting a).bindings_cell tagged win.many lent_then record_then says_then;
      })
      (and_ends tt
      (draw_ends c win.front a.d win.many _ _ a.d (a.d + 6) 6 0 serials_address drawn refl refl (omega arith)
      (control_after setting a placed room 8 (of_record 16 word ∷ of_record 4 catch_kind ∷ of_record 8 (around_at setting a).current ∷ of_control 0 at ∷ []) refl (omega arith) refl ∙ serial_inside)
      last)))).same

  -- ---- the record of a catch

  module _ (fewer : (drawn == 2 ^ 32 - 1) ≡ false) where
    abbrev pub the_exit : Exit
    the_exit = record { number = a.z.state.exits; kind = catch_exit v }

    abbrev pub forms_then : List (Option ExitForm)
    forms_then = a.w.exit_forms ++ None ∷ []

    pub made : ExitsMade a.w a.z (a.w.exit_forms ++ None ∷ []) (a.z.state.exits + 1) (stores (pairs at puts) inner)
    made = one_more setting a placed room a.z puts None refl refl fewer refl

    abbrev pub world_of_catch : World
    world_of_catch = world_laid setting a placed room c a.z (charges_none setting a) 162 (a.y.cost + 36 + 8 + 118) (omega arith) puts refl (a.w.exit_forms ++ None ∷ []) (a.z.state.exits + 1) (a.z.state.exits ∷ a.z.state.made) made

    abbrev pub flat_of_catch : FlatState
    flat_of_catch = exits_counted (a.z.state.exits + 1) (a.z.state.exits ∷ a.z.state.made) a.z

    abbrev pub state_of_catch : MidState
    state_of_catch = touched (pairs at puts) inner (a.y.cost + 36 + 8 + 118) a.y

    has : (i n : ℕ) → i < 24 → i % 4 ≡ 0 → last_record i puts ≡ Some n → HasWordAt state_of_catch (at + i) n
    has i n few aligned e =
        record_has setting a placed room c a.z (charges_none setting a) 162 (a.y.cost + 36 + 8 + 118) (omega arith) puts refl (a.w.exit_forms ++ None ∷ []) (a.z.state.exits + 1) (a.z.state.exits ∷ a.z.state.made) made i n few aligned e

    pub catch_stands : LaidAt setting a 0 162 (for_exit the_exit) at world_of_catch flat_of_catch laid_registers state_of_catch
    catch_stands =
        laid_stands setting a placed room c a.z (charges_none setting a) 162 (a.y.cost + 36 + 8 + 118) (omega arith) puts refl (a.w.exit_forms ++ None ∷ []) (a.z.state.exits + 1) (a.z.state.exits ∷ a.z.state.made) made
        (for_exit the_exit) at refl refl refl refl refl refl (
          has 0 a.z.state.exits (omega arith) refl (ap Some a.begins.call.things.serials.2),
          has 12 (around_at setting a).link (omega arith) refl refl,
          record { word = word; of_value = of_value; stands = has 16 word (omega arith) refl refl },
        )
        win.front win.tail win.many win.r0 win.r1 win.r2 win.r3 win.r4 win.r5 win.r6 win.r7 win.parts (Some (drawn + 1)) (Some 0) (Some catch_kind)

    pub catch_first : IsInnermost setting a the_exit world_of_catch flat_of_catch
    catch_first = record {
      some = let count = a.begins.call.things.serials.2 in omega (arith, count);
      made = omega arith;
      no_end = λ e. absurd (cc e);
      links = (around_at setting a).links;
      unnamed = λ f. ap (slice_get (a.w.exit_forms ++ None ∷ [])) (sym a.begins.call.things.exit_forms) ∙ slice_get-behind a.w.exit_forms None;
    }
