-- The record of a cleanup is laid.
use Rattle.std.proofs.Common.{◌≡◌, ℕ, ◌+◌, ◌≤◌, List, [], ◌∷◌, Some, refl, ap, ◌∙◌, arith}
use Rattle.std.specs.Prelude.{slice_set}
use Rattle.mid_code.specs.Arena.{left}
use Rattle.mid_code.specs.Meaning.{Context, exec}
use Rattle.mid_code.specs.MidCode.{code_of}
use Rattle.mid_code.specs.State.{Registers, falls, ends, MidState}
use Rattle.back_lowering.specs.ControlWords.{serials_address, cleanup_kind}
use Rattle.back_lowering.specs.Records.{record_laid}
use Rattle.back_relation.specs.Setting.{Setting}
use Rattle.back_relation.specs.Placed.{IsPlaced}
use Rattle.back_relation.specs.Worlds.{World, for_cleanup}
use Rattle.back_relation.specs.Forms.{code_at}
use Rattle.back_relation.specs.Starts.{Start}
use Rattle.back_relation.specs.Stores.{stores}
use Rattle.back_relation.proofs.Windows.{set_here}
use Rattle.back_exits.specs.Inside.{around_at, arena_inside, address_inside, LaidAt}
use Rattle.back_exits.specs.RecordSteps.{record_registers}
use Rattle.back_exits.specs.Touching.{touched, ExitsMade}
use Rattle.back_exits.proofs.BlockRecords.{block_laid}
use Rattle.back_exits.proofs.Laying.{record_steps_law}
use Rattle.back_exits.proofs.Puts.{Put, of_control, of_record, pairs}
use Rattle.back_exits.proofs.Steps.{Window}
use Rattle.back_exits.proofs.Words.{charges_none, lent_control, lent_record, says_inside, word_inside, control_after, world_laid, laid_stands}

module _ (setting : Setting) (placed : IsPlaced setting) (k turns : ℕ) (a : Start setting) (room : 8 ≤ left a.y.arena) (win : Window a.regs a.d) where
  abbrev c : Context
  c = code_at setting k turns

  abbrev at : ℕ
  at = address_inside setting a

  abbrev pub puts : List Put
  puts = of_record 4 cleanup_kind ∷ of_record 8 (around_at setting a).current ∷ of_control 0 at ∷ []

  abbrev pub laid_registers : Registers
  laid_registers =
      record_registers win.front win.r0 at (around_at setting a).current (around_at setting a).link (around_at setting a).handlers_cell (around_at setting a).bindings_cell (Some 0) (Some cleanup_kind) win.tail

  abbrev pub state_of_cleanup : MidState
  state_of_cleanup = touched (pairs at puts) (arena_inside setting a) (a.y.cost + 36 + 68) a.y

  pub lays :
      exec c (code_of (record_laid (a.d + 1) (a.d + 6) cleanup_kind)) (slice_set a.regs (a.d + 1) (Some at)) (block_laid setting placed k turns a room win)
      ≡ ends falls laid_registers state_of_cleanup
  lays =
      ap (λ rs. exec c (code_of (record_laid (a.d + 1) (a.d + 6) cleanup_kind)) rs (block_laid setting placed k turns a room win))
      (ap (λ rs. slice_set rs (a.d + 1) (Some at)) win.parts ∙ set_here c win.front a.d win.many _ (a.d + 1) 1 (Some at) refl)
      ∙ record_steps_law.laid c win.front win.tail a.d win.r0 win.r2 win.r3 win.r4 win.r5 win.r6 win.r7 cleanup_kind at (around_at setting a).current (around_at setting a).link
      (around_at setting a).handlers_cell (around_at setting a).bindings_cell (block_laid setting placed k turns a room win) win.many (lent_control setting a placed room) (lent_record setting a placed room)
      (says_inside setting a placed room)

  pub made : ExitsMade a.w a.z a.w.exit_forms a.z.state.exits (stores (pairs at puts) (arena_inside setting a))
  made =
      let s = a.begins.call.things.serials in
      record {
        drawn = s.0;
        word = control_after setting a placed room 8 puts refl (omega arith) refl ∙ word_inside setting a placed room serials_address s.0 (omega arith) s.1;
        count = s.2;
        low = s.3;
        more = omega arith;
        form_count = a.begins.call.things.exit_forms;
        forms_kept = λ e o f. f;
      }

  abbrev pub world_of_cleanup : World
  world_of_cleanup = world_laid setting a placed room c a.z (charges_none setting a) 104 (a.y.cost + 36 + 68) (omega arith) puts refl a.w.exit_forms a.z.state.exits a.z.state.made made

  -- **the record of a cleanup was laid**
  pub cleanup_stands : LaidAt setting a 0 104 for_cleanup (around_at setting a).link world_of_cleanup a.z laid_registers state_of_cleanup
  cleanup_stands =
      laid_stands setting a placed room c a.z (charges_none setting a) 104 (a.y.cost + 36 + 68) (omega arith) puts refl a.w.exit_forms a.z.state.exits a.z.state.made made for_cleanup (around_at setting a).link
      refl refl refl refl refl refl tt win.front win.tail win.many win.r0 win.r1 win.r2 win.r3 win.r4 win.r5 win.r6 win.r7 win.parts win.r0 (Some 0) (Some cleanup_kind)
