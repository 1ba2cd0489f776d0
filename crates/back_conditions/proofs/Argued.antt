-- The block of the argument of a handler, and the call of the routine of functions.
use Rattle.std.proofs.Common.{◌≡◌, inr, ℕ, zero, suc, ◌+◌, ◌*◌, ◌<◌, ◌≤◌, true, List, [], ◌∷◌, length, Option, Some, None, refl, ◌∙◌, arith}
use Rattle.std.specs.Prelude.{◌%◌, slice_index_or}
use Rattle.lang_meaning.specs.State.{DynamicContext, Limit, words, unlimited}
use Rattle.lang_meaning.specs.Values.{Value, nil}
use Rattle.flat_language.specs.FlatState.{FlatState}
use Rattle.mid_code.specs.declared.operation.Counted.TheVariants.{Turn}
use Rattle.mid_code.specs.Arena.{Arena, record_of, left, stack_from, is_lent}
use Rattle.mid_code.specs.Costs.{record_cost}
use Rattle.mid_code.specs.Meaning.{Context, exec}
use Rattle.mid_code.specs.Meaning.{called as mid_called}
use Rattle.mid_code.specs.MidCode.{code_of}
use Rattle.mid_code.specs.State.{Registers, MidState, MidOutcome, with_arena}
use Rattle.mid_code.specs.State.{charged as mid_charged}
use Rattle.mid_arena.specs.Growing.{Grows}
use Rattle.mid_arena.specs.Places.{end_of}
use Rattle.mid_arena.specs.Standing.{ArenaStands, ValueAt}
use Rattle.mid_arena.proofs.Growing.{spot_below}
use Rattle.mid_arena.proofs.Memory.{grows_with_new_block, word_here}
use Rattle.mid_arena.proofs.Running.{and_then, constant_falls, store_falls, address_above}
use Rattle.back_lowering.specs.ControlWords.{site_address, serials_address, current_address, link_address, handlers_address, bindings_address}
use Rattle.back_lowering.specs.Program.{procedure_with, framed, passing_frame}
use Rattle.back_lowering.specs.RoutineCodes.{function_code}
use Rattle.back_lowering.specs.Routines.{function_routine}
use Rattle.back_lowering.specs.Steps.{Steps, constant, store, call}
use Rattle.back_relation.specs.Setting.{Setting, control_spot}
use Rattle.back_relation.specs.Placed.{IsPlaced}
use Rattle.back_relation.specs.Room.{words_for_handler}
use Rattle.back_relation.specs.Worlds.{World, Standing}
use Rattle.back_relation.specs.StackWords.{HasWordAt}
use Rattle.back_relation.specs.Things.{Things}
use Rattle.back_relation.specs.Around.{RoomFor, AroundStands, CallBegins, SiteStored}
use Rattle.back_relation.specs.Ends.{ControlBack}
use Rattle.back_relation.specs.Forms.{code_at}
use Rattle.back_relation.specs.Procedures.{called, ArgumentsLent}
use Rattle.back_relation.specs.RoutineClaims.{WordIs}
use Rattle.back_relation.specs.Cuts.{boxes_cut}
use Rattle.back_relation.specs.Stores.{stores}
use Rattle.back_relation.proofs.Parts.{single_step}
use Rattle.back_relation.proofs.Windows.{stored_elsewhere}
use Rattle.back_relation.proofs.Worlds.{word_later}
use Rattle.back_relation.proofs.Boxes.{stack_above}
use Rattle.back_exits.specs.Going.{world_with}
use Rattle.back_exits.specs.Touching.{Touched, touched, ExitsMade}
use Rattle.back_exits.proofs.Touching.{world_touched, stored_blocks, stored_heap}
use Rattle.back_exits.proofs.Words.{control_of}
use Rattle.back_exits.proofs.Bodies.{around_deeper}
use Rattle.back_exits.proofs.Entries.{UsedAt, routine_used}
use Rattle.back_exits.proofs.Returning.{call_steps}
use Rattle.back_conditions.proofs.Blocks.{block_arena, block_at, block_from, block_to, block_low, block_aligned, block_lent, block_there, Opened, at_from, words_left, deeper}

pub function_used : (setting : Setting) → IsPlaced setting → UsedAt setting.procedures (function_routine setting.at) (framed passing_frame (procedure_with Turn 3 (function_code setting.at)))
function_used setting placed = routine_used setting placed 10 (framed passing_frame (procedure_with Turn 3 (function_code setting.at))) refl

module _ (setting : Setting) (placed : IsPlaced setting) (k t : ℕ) (rs valid : List Standing) (w : World) (around : DynamicContext) (z : FlatState) (y : MidState)
    (things : Things setting w z y) (ar : AroundStands setting w rs valid around z y) (c : Value) (c_word : ℕ) (of_condition : WordIs setting w c_word c) (room : 3 ≤ left y.arena) where
  abbrev cx : Context
  cx = code_at setting k t

  stands : ArenaStands y.arena
  stands = things.represents.arena

  abbrev pub inner : Arena
  inner = block_arena 1 things.represents.arena room

  abbrev pub at : ℕ
  at = block_at 1 things.represents.arena room

  grows : Grows y.arena inner
  grows = grows_with_new_block (record_of 1) stands room

  to : at + 4 ≡ stack_from y.arena
  to = block_to 1 stands room

  below_heap : end_of (control_spot setting) ≤ y.arena.heap_to
  below_heap = spot_below stands (control_of setting things)

  above : 220 ≤ at
  above = let low = block_low 1 stands room in let below = below_heap in omega (arith, low, below)

  aligned : at % 4 ≡ 0
  aligned = block_aligned 1 stands room

  lent : is_lent inner (at + 0) ≡ true
  lent = block_lent 1 stands room 0 (omega arith) refl

  abbrev pub puts : List (ℕ × ℕ)
  puts = (at + 0, c_word) ∷ []

  abbrev pub block_laid : MidState
  block_laid = with_arena inner (mid_charged record_cost y)

  abbrev pub y_argued : MidState
  y_argued = touched puts inner (y.cost + 36 + 8 + 6 + 58) y

  abbrev pub w_argued : World
  w_argued = world_with (boxes_cut (stack_from y.arena) w.boxes) w.exit_forms w

  before : (x n : ℕ) → x < 220 → HasWordAt y x n → HasWordAt y_argued x n
  before x n low e =
      let up = above in
      let below = below_heap in
      stored_elsewhere puts inner x (omega (arith, aligned), tt) ((λ same. omega (arith, same, up, low)), tt) ∙ grows.words x (omega (arith, low, below)) ∙ e

  touching : Touched y.arena inner puts (stack_from y.arena)
  touching = record {
    grows = grows;
    from = at;
    to = at + 4;
    touches = (omega (arith, aligned), inr (omega arith, omega arith), tt);
    low = let low = block_low 1 stands room in omega (arith, low);
    high = let t = to in omega (arith, t);
    before = omega arith;
    after = let from = block_from 1 stands room in let t = to in omega (arith, from, t);
    least = λ x low high. low;
  }

  made : ExitsMade w z w.exit_forms z.state.exits (stores puts inner)
  made =
      let s = things.serials in
      record {
        drawn = s.0;
        word = before serials_address s.0 (omega arith) s.1;
        count = s.2;
        low = s.3;
        more = omega arith;
        form_count = things.exit_forms;
        forms_kept = λ e o f. f;
      }

  pub opened : Opened setting 1 w w_argued z z y y_argued
  opened = record {
    room = room;
    stands = stands;
    world = world_touched setting (y.cost + 36 + 8 + 6 + 58) z.state.made placed things touching made;
    blocks = stored_blocks puts inner;
    heap_to = stored_heap puts inner;
    heap = refl;
    stack = refl;
  }

  pub control : ControlBack y y_argued
  control = record {
    current = λ n e. before current_address n (omega arith) e;
    link = λ n e. before link_address n (omega arith) e;
    handlers = λ n e. before handlers_address n (omega arith) e;
    bindings = λ n e. before bindings_address n (omega arith) e;
  }

  pub site_argued : SiteStored setting around y → SiteStored setting around y_argued
  site_argued s = (s.0, before site_address s.0 (omega arith) s.1, s.2)

  pub begins_argued : (n : ℕ) → RoomFor setting.limit (n + 3 + words_for_handler * length around.handlers) z.state y → CallBegins setting rs valid n w_argued around z y_argued
  begins_argued n enough = record {
    things = opened.world.things;
    around_stands = around_deeper setting opened.world.later (deeper setting opened (omega arith)) control opened.world.end (omega arith) ar;
    room = by setting.limit enough;
  }
    where
      by : (l : Limit) → RoomFor l (n + 3 + words_for_handler * length around.handlers) z.state y → RoomFor l (n + words_for_handler * length around.handlers) z.state y_argued
      by unlimited h = tt
      by (words m) h = let fewer = words_left setting opened in omega (arith, h, fewer)

  pub arguments : ArgumentsLent setting w_argued y_argued.arena at (c ∷ [])
  arguments = record {
    low = let from = at_from setting opened in omega (arith, from);
    is_word = let size = stands.size in let t = to in omega (arith, size, t);
    values = λ i few. value i few;
    plain = λ i few j e. let low = stack_above (stack_from y.arena) j (at + i) w.boxes e in let t = to in omega (arith, low, t, few);
  }
    where
      value : (i : ℕ) → i < 1 → ValueAt w_argued.places y_argued.arena (at + 4 * i) (slice_index_or (c ∷ []) i nil)
      value zero few = record {
        word = c_word;
        of_value = word_later opened.world.later c c_word of_condition;
        stands = word_here inner (at + 0) c_word lent (block_there 1 stands room 0 (omega arith));
      }
      value (suc i) few = absurd (omega (arith, few))

  -- ---- the steps

  abbrev pub steps : Steps
  steps = store 0 16 0 ∷ constant 17 1 ∷ call 6 (function_routine setting.at) (5 ∷ 17 ∷ 16 ∷ []) ∷ []

  module _ (r1 r2 r3 r4 r6 r7 r8 r9 r10 r11 r12 r13 r14 r15 : Option ℕ) (h_word : ℕ) where
    abbrev pub regs_before : Registers
    regs_before = Some c_word ∷ r1 ∷ r2 ∷ r3 ∷ r4 ∷ Some h_word ∷ r6 ∷ r7 ∷ r8 ∷ r9 ∷ r10 ∷ r11 ∷ r12 ∷ r13 ∷ r14 ∷ r15 ∷ Some at ∷ None ∷ []

    abbrev pub regs_argued : Registers
    regs_argued = Some c_word ∷ r1 ∷ r2 ∷ r3 ∷ r4 ∷ Some h_word ∷ r6 ∷ r7 ∷ r8 ∷ r9 ∷ r10 ∷ r11 ∷ r12 ∷ r13 ∷ r14 ∷ r15 ∷ Some at ∷ Some 1 ∷ []

    abbrev pub came : MidOutcome
    came = called cx (function_routine setting.at) (h_word ∷ 1 ∷ at ∷ []) y_argued

    pub argued : exec cx (code_of steps) regs_before block_laid ≡ mid_called came 6 regs_argued
    argued =
        let size = stands.size in
        let t = to in
        (and_then (store_falls refl refl (address_above at 0 (at + 0) refl (omega (arith, size, t))) lent)
        (and_then constant_falls
        (record {
          same =
              single_step cx (call 6 (function_routine setting.at) (5 ∷ 17 ∷ 16 ∷ [])) regs_argued (touched puts inner (y.cost + 36 + 8 + 6) y)
              ∙ call_steps cx 6 (function_routine setting.at) (5 ∷ 17 ∷ 16 ∷ []) (h_word ∷ 1 ∷ at ∷ []) regs_argued (touched puts inner (y.cost + 36 + 8 + 6) y) (function_used setting placed).there
              (refl, (refl, (refl, tt)));
        }))).same
