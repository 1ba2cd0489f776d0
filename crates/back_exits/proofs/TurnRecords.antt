-- The record of a turn: it is laid with the serial number of the tagbody, where there are words for it.
use Rattle.std.proofs.Common.{◌≡◌, ℕ, zero, suc, ◌+◌, ◌<◌, ◌≤◌, true, List, [], ◌∷◌, ◌++◌, length, Option, Some, refl, sym, ap, ◌∙◌, subst, arith, length-append}
use Rattle.std.specs.Prelude.{◌%◌, ◌^◌, slice_set}
use Rattle.lang_meaning.specs.State.{Exit, tagbody_exit}
use Rattle.mid_code.specs.Arena.{left, word_at, is_lent}
use Rattle.mid_code.specs.Costs.{record_cost}
use Rattle.mid_code.specs.Meaning.{Context, exec}
use Rattle.mid_code.specs.MidCode.{code_of}
use Rattle.mid_code.specs.State.{Registers, register, falls, ends, MidState, with_arena}
use Rattle.mid_code.specs.State.{charged as mid_charged}
use Rattle.mid_arena.proofs.Running.{RunsTo, and_then, none_left, parts_then, costing}
use Rattle.back_lowering.specs.ControlWords.{control_address, serials_address, current_address, link_address, handlers_address, bindings_address, exit_kind, record_serial, record_kind, record_outer, record_link}
use Rattle.back_lowering.specs.Records.{record_laid}
use Rattle.back_lowering.specs.Steps.{store}
use Rattle.back_relation.specs.Setting.{Setting}
use Rattle.back_relation.specs.Placed.{IsPlaced}
use Rattle.back_relation.specs.Worlds.{World, for_exit, Standing, Links}
use Rattle.back_relation.specs.Forms.{code_at}
use Rattle.back_relation.specs.Starts.{Start}
use Rattle.back_relation.specs.Stores.{stores}
use Rattle.back_relation.proofs.Windows.{here, set_here, constant_in, load_in, store_in, stored_elsewhere, stored_lent}
use Rattle.back_exits.specs.Inside.{around_at, arena_inside, address_inside, LaidAt, IsInnermost}
use Rattle.back_exits.specs.RecordSteps.{ControlSays, ControlLent, RecordLent, record_stores, with_stores}
use Rattle.back_exits.specs.Touching.{touched, ExitsMade}
use Rattle.back_exits.proofs.Puts.{Put, of_control, of_record, pairs}
use Rattle.back_exits.proofs.Steps.{same_front}
use Rattle.back_exits.proofs.Words.{charges_none, lent_control, lent_record, says_inside, word_inside, control_after, record_has, world_laid, laid_stands}
use Rattle.back_exits.specs.Turns.{turn_laid, IsNewest, TurnBegins}

-- ---- registers

-- registers from one on, written out
pub record Nine (regs : Registers) (d : ℕ) : Type 0 where
  pub front : Registers
  pub r0 : Option ℕ
  pub r1 : Option ℕ
  pub r2 : Option ℕ
  pub r3 : Option ℕ
  pub r4 : Option ℕ
  pub r5 : Option ℕ
  pub r6 : Option ℕ
  pub r7 : Option ℕ
  pub r8 : Option ℕ
  pub tail : Registers
  pub many : length front ≡ d
  pub parts : regs ≡ front ++ r0 ∷ r1 ∷ r2 ∷ r3 ∷ r4 ∷ r5 ∷ r6 ∷ r7 ∷ r8 ∷ tail

pub nine_of : (regs : Registers) (d : ℕ) → d + 9 ≤ length regs → Nine regs d
nine_of (r0 ∷ r1 ∷ r2 ∷ r3 ∷ r4 ∷ r5 ∷ r6 ∷ r7 ∷ r8 ∷ tail) zero h =
    record { front = []; r0 = r0; r1 = r1; r2 = r2; r3 = r3; r4 = r4; r5 = r5; r6 = r6; r7 = r7; r8 = r8; tail = tail; many = refl; parts = refl }
nine_of [] (suc d) h = absurd (omega (arith, h))
nine_of (x ∷ xs) (suc d) h =
    let w = nine_of xs d (omega (arith, h)) in
    record {
      front = x ∷ w.front;
      r0 = w.r0;
      r1 = w.r1;
      r2 = w.r2;
      r3 = w.r3;
      r4 = w.r4;
      r5 = w.r5;
      r6 = w.r6;
      r7 = w.r7;
      r8 = w.r8;
      tail = w.tail;
      many = ap suc w.many;
      parts = ap (λ rs. x ∷ rs) w.parts;
    }
nine_of regs zero h = absurd (omega (arith, h))

-- ---- the steps

-- what is stored where the record of a turn is laid
abbrev pub turn_puts : (address current link serial : ℕ) → List Put
turn_puts address current link serial =
    of_record 4 exit_kind ∷ of_record 8 current ∷ of_control 0 address ∷ of_record 0 serial ∷ of_record 12 link ∷ of_control 4 address ∷ []

module _ (c : Context) (front tail : Registers) (d : ℕ) (many : length front ≡ d) (r2 r3 r4 r5 r6 r7 r8 : Option ℕ) (serial address current link handlers bindings : ℕ) (y : MidState)
    (control : ControlLent y.arena) (record_lent : RecordLent y.arena address) (says : ControlSays y.arena current link handlers bindings) where
  above : 220 ≤ address
  above = record_lent.above

  aligned : address % 4 ≡ 0
  aligned = record_lent.aligned

  low : address + 24 < 2 ^ 32
  low = record_lent.low

  abbrev p1 : ℕ × ℕ
  p1 = (address + record_kind, exit_kind)

  abbrev p2 : ℕ × ℕ
  p2 = (address + record_outer, current)

  abbrev p3 : ℕ × ℕ
  p3 = (current_address, address)

  abbrev p4 : ℕ × ℕ
  p4 = (address + record_serial, serial)

  abbrev p5 : ℕ × ℕ
  p5 = (address + record_link, link)

  lent_at : (ps : List (ℕ × ℕ)) (k : ℕ) → k < 36 → k % 4 ≡ 0 → is_lent (stores ps y.arena) (control_address + k) ≡ true
  lent_at ps k h e = stored_lent ps y.arena (control_address + k) ∙ control k h e

  lent_in : (ps : List (ℕ × ℕ)) (k : ℕ) → k < 24 → k % 4 ≡ 0 → is_lent (stores ps y.arena) (address + k) ≡ true
  lent_in ps k h e = stored_lent ps y.arena (address + k) ∙ record_lent.lent k h e

  behind_kind : (x w : ℕ) → x < 220 → word_at y.arena x ≡ Some w → word_at (stores (p1 ∷ []) y.arena) x ≡ Some w
  behind_kind x w h e =
      let g = above in
      stored_elsewhere (p1 ∷ []) y.arena x (omega (arith, aligned), tt) ((λ same. omega (arith, same, g, h)), tt) ∙ e

  behind_outer : (x w : ℕ) → x < 220 → word_at y.arena x ≡ Some w → word_at (stores (p1 ∷ p2 ∷ []) y.arena) x ≡ Some w
  behind_outer x w h e =
      let g = above in
      stored_elsewhere (p1 ∷ p2 ∷ []) y.arena x (omega (arith, aligned), (omega (arith, aligned), tt))
      ((λ same. omega (arith, same, g, h)), ((λ same. omega (arith, same, g, h)), tt))
      ∙ e

  abbrev pub turn_registers : Registers
  turn_registers = front ++ Some serial ∷ Some address ∷ Some current ∷ Some link ∷ Some handlers ∷ Some bindings ∷ r6 ∷ Some 0 ∷ Some exit_kind ∷ tail

  laid_runs :
      RunsTo c (code_of (record_laid (d + 1) (d + 7) exit_kind)) (front ++ Some serial ∷ Some address ∷ r2 ∷ r3 ∷ r4 ∷ r5 ∷ r6 ∷ r7 ∷ r8 ∷ tail) y
      (ends falls turn_registers (with_stores (record_stores exit_kind address current) 68 y))
  laid_runs =
      costing {n = y.cost + 68}
      (and_then (constant_in c front d many _ _ (d + 7) 7 0 (omega arith))
      (and_then (constant_in c front d many _ _ (d + 7 + 1) 8 exit_kind (omega arith))
      (and_then (store_in c front d many _ _ (d + 7 + 1) 8 (d + 1) 1 address record_kind exit_kind (omega arith) (omega arith) refl refl (omega (arith, low)) (lent_in [] record_kind (omega arith) refl))
      (and_then (load_in c front d many _ _ (d + 1 + 1) 2 (d + 7) 7 0 current_address current (omega arith) (omega arith) refl (omega arith) (behind_kind current_address current (omega arith) says.current_word))
      (and_then (store_in c front d many _ _ (d + 1 + 1) 2 (d + 1) 1 address record_outer current (omega arith) (omega arith) refl refl (omega (arith, low)) (lent_in (p1 ∷ []) record_outer (omega arith) refl))
      (and_then (load_in c front d many _ _ (d + 1 + 2) 3 (d + 7) 7 0 link_address link (omega arith) (omega arith) refl (omega arith) (behind_outer link_address link (omega arith) says.link_word))
      (and_then (load_in c front d many _ _ (d + 1 + 3) 4 (d + 7) 7 0 handlers_address handlers (omega arith) (omega arith) refl (omega arith) (behind_outer handlers_address handlers (omega arith) says.handlers_word))
      (and_then (load_in c front d many _ _ (d + 1 + 4) 5 (d + 7) 7 0 bindings_address bindings (omega arith) (omega arith) refl (omega arith) (behind_outer bindings_address bindings (omega arith) says.bindings_word))
      (and_then (store_in c front d many _ _ (d + 1) 1 (d + 7) 7 0 current_address address (omega arith) (omega arith) refl refl (omega arith) (lent_at (p1 ∷ p2 ∷ []) 0 (omega arith) refl))
      none_left)))))))))
      (omega arith)

  -- **the record of a turn is laid**
  pub turn_runs :
      RunsTo c (code_of (turn_laid d)) (front ++ Some serial ∷ Some address ∷ r2 ∷ r3 ∷ r4 ∷ r5 ∷ r6 ∷ r7 ∷ r8 ∷ tail) y
      (ends falls turn_registers (with_stores (pairs address (turn_puts address current link serial)) 92 y))
  turn_runs =
      costing {n = y.cost + 92}
      (parts_then (record_laid (d + 1) (d + 7) exit_kind)
      (store d (d + 1) record_serial ∷ store (d + 3) (d + 1) record_link ∷ store (d + 1) (d + 7) link_address ∷ [])
      laid_runs
      (and_then (store_in c front d many _ _ d 0 (d + 1) 1 address record_serial serial (omega arith) (omega arith) refl refl (omega (arith, low)) (lent_in (p1 ∷ p2 ∷ p3 ∷ []) record_serial (omega arith) refl))
      (and_then (store_in c front d many _ _ (d + 3) 3 (d + 1) 1 address record_link link (omega arith) (omega arith) refl refl (omega (arith, low)) (lent_in (p1 ∷ p2 ∷ p3 ∷ p4 ∷ []) record_link (omega arith) refl))
      (and_then (store_in c front d many _ _ (d + 1) 1 (d + 7) 7 0 link_address address (omega arith) (omega arith) refl refl (omega arith) (lent_at (p1 ∷ p2 ∷ p3 ∷ p4 ∷ p5 ∷ []) 4 (omega arith) refl))
      none_left))))
      (omega arith)

-- ---- the record

newest_links : (rs : List Standing) (a e m : ℕ) (xs : List Exit) (vs : List Standing) → IsNewest e xs → Links rs a m xs vs → Links rs a e xs vs
newest_links rs a e m [] [] h t = tt
newest_links rs a e m [] (v ∷ vs) h t = t
newest_links rs a e m (x ∷ xs) [] h t = t
newest_links rs a e m (x ∷ xs) (v ∷ vs) h t = (t.0, t.1, t.2, h, t.4)

abbrev pub turn_exit : ℕ → Exit
turn_exit e = record { number = e; kind = tagbody_exit }

module _ (setting : Setting) (placed : IsPlaced setting) (k turns : ℕ) (a : Start setting) (room : 8 ≤ left a.y.arena) (win : Nine a.regs a.d) (segments e i : ℕ)
    (turn : TurnBegins a.d segments e i a.w a.env a.around a.z a.regs) where
  abbrev c : Context
  c = code_at setting k turns

  abbrev at : ℕ
  at = address_inside setting a

  first_is : win.r0 ≡ Some e
  first_is =
      sym (here c win.front a.d win.many (win.r0 ∷ win.r1 ∷ win.r2 ∷ win.r3 ∷ win.r4 ∷ win.r5 ∷ win.r6 ∷ win.r7 ∷ win.r8 ∷ win.tail) a.d 0 (omega arith))
      ∙ ap (register a.d) (sym win.parts) ∙ turn.serial

  sixth_is : win.r6 ≡ Some i
  sixth_is =
      sym (here c win.front a.d win.many (win.r0 ∷ win.r1 ∷ win.r2 ∷ win.r3 ∷ win.r4 ∷ win.r5 ∷ win.r6 ∷ win.r7 ∷ win.r8 ∷ win.tail) (a.d + 6) 6 refl)
      ∙ ap (register (a.d + 6)) (sym win.parts) ∙ turn.segment

  parts_are : a.regs ≡ win.front ++ Some e ∷ win.r1 ∷ win.r2 ∷ win.r3 ∷ win.r4 ∷ win.r5 ∷ Some i ∷ win.r7 ∷ win.r8 ∷ win.tail
  parts_are =
      win.parts
      ∙ ap (λ r. win.front ++ r ∷ win.r1 ∷ win.r2 ∷ win.r3 ∷ win.r4 ∷ win.r5 ∷ win.r6 ∷ win.r7 ∷ win.r8 ∷ win.tail) first_is
      ∙ ap (λ r. win.front ++ Some e ∷ win.r1 ∷ win.r2 ∷ win.r3 ∷ win.r4 ∷ win.r5 ∷ r ∷ win.r7 ∷ win.r8 ∷ win.tail) sixth_is

  window_set : slice_set a.regs (a.d + 1) (Some at) ≡ win.front ++ Some e ∷ Some at ∷ win.r2 ∷ win.r3 ∷ win.r4 ∷ win.r5 ∷ Some i ∷ win.r7 ∷ win.r8 ∷ win.tail
  window_set = ap (λ rs. slice_set rs (a.d + 1) (Some at)) parts_are ∙ set_here c win.front a.d win.many _ (a.d + 1) 1 (Some at) refl

  -- the state where the block of the record was laid
  abbrev pub turn_block : MidState
  turn_block = with_arena (arena_inside setting a) (mid_charged record_cost a.y)

  abbrev pub laid_registers : Registers
  laid_registers =
      turn_registers c win.front win.tail a.d win.many win.r2 win.r3 win.r4 win.r5 (Some i) win.r7 win.r8 e at (around_at setting a).current (around_at setting a).link
      (around_at setting a).handlers_cell (around_at setting a).bindings_cell turn_block (lent_control setting a placed room) (lent_record setting a placed room) (says_inside setting a placed room)

  abbrev puts : List Put
  puts = turn_puts at (around_at setting a).current (around_at setting a).link e

  abbrev pub laid_state : MidState
  laid_state = touched (pairs at puts) (arena_inside setting a) (a.y.cost + 36 + 92) a.y

  -- the record is laid
  pub turn_lays : exec c (code_of (turn_laid a.d)) (slice_set a.regs (a.d + 1) (Some at)) turn_block ≡ ends falls laid_registers laid_state
  turn_lays =
      ap (λ rs. exec c (code_of (turn_laid a.d)) rs turn_block) window_set
      ∙ (turn_runs c win.front win.tail a.d win.many win.r2 win.r3 win.r4 win.r5 (Some i) win.r7 win.r8 e at (around_at setting a).current (around_at setting a).link
      (around_at setting a).handlers_cell (around_at setting a).bindings_cell turn_block (lent_control setting a placed room) (lent_record setting a placed room) (says_inside setting a placed room)).same

  pub made : ExitsMade a.w a.z a.w.exit_forms a.z.state.exits (stores (pairs at puts) (arena_inside setting a))
  made =
      let s = a.begins.call.things.serials in
      record {
        drawn = s.0;
        word = control_after setting a placed room 8 puts refl (omega arith) refl ∙ word_inside setting a placed room serials_address s.0 (omega arith) s.1;
        count = s.2;
        low = s.3;
        more = omega arith;
        form_count = a.begins.call.things.exit_forms;
        forms_kept = λ e o f. f;
      }

  abbrev pub world_inside : World
  world_inside = world_laid setting a placed room c a.z (charges_none setting a) 128 (a.y.cost + 36 + 92) (omega arith) puts refl a.w.exit_forms a.z.state.exits a.z.state.made made

  narrow :
      LaidAt setting a 0 128 (for_exit (turn_exit e)) at world_inside a.z
      (win.front ++ Some e ∷ Some at ∷ Some (around_at setting a).current ∷ Some (around_at setting a).link ∷ Some (around_at setting a).handlers_cell ∷ Some (around_at setting a).bindings_cell
      ∷ Some i ∷ Some 0 ∷ win.r8 ∷ win.tail) laid_state
  narrow =
      laid_stands setting a placed room c a.z (charges_none setting a) 128 (a.y.cost + 36 + 92) (omega arith) puts refl a.w.exit_forms a.z.state.exits a.z.state.made made
      (for_exit (turn_exit e)) at refl refl refl refl refl refl (
        record_has setting a placed room c a.z (charges_none setting a) 128 (a.y.cost + 36 + 92) (omega arith) puts refl a.w.exit_forms a.z.state.exits a.z.state.made made 0 e (omega arith) refl refl,
        record_has setting a placed room c a.z (charges_none setting a) 128 (a.y.cost + 36 + 92) (omega arith) puts refl a.w.exit_forms a.z.state.exits a.z.state.made made 12 (around_at setting a).link
            (omega arith) refl refl,
        tt,
      )
      win.front (win.r8 ∷ win.tail) win.many (Some e) win.r1 win.r2 win.r3 win.r4 win.r5 (Some i) win.r7 parts_are (Some e) (Some i) (Some 0)

  -- **the record of a turn stands**
  pub turn_stands : LaidAt setting a 0 128 (for_exit (turn_exit e)) at world_inside a.z laid_registers laid_state
  turn_stands =
      let o = around_at setting a in
      let t = narrow in
      let old : Registers = Some e ∷ Some at ∷ Some o.current ∷ Some o.link ∷ Some o.handlers_cell ∷ Some o.bindings_cell ∷ Some i ∷ Some 0 ∷ win.r8 ∷ win.tail in
      let now : Registers = Some e ∷ Some at ∷ Some o.current ∷ Some o.link ∷ Some o.handlers_cell ∷ Some o.bindings_cell ∷ Some i ∷ Some 0 ∷ Some exit_kind ∷ win.tail in
      record {
        room = t.room;
        world = t.world;
        blocks = t.blocks;
        heap_to = t.heap_to;
        paid = t.paid;
        units_there = t.units_there;
        heap = t.heap;
        stack = t.stack;
        frame = t.frame;
        captured = t.captured;
        bindings = t.bindings;
        words = t.words;
        kind = t.kind;
        outer = t.outer;
        role_words = t.role_words;
        control = t.control;
        count = length-append win.front now ∙ sym (length-append win.front old) ∙ t.count;
        same = λ j few. same_front win.front now old j (subst (λ n. j < n) (sym win.many) few) ∙ t.same j few;
        address_held = here c win.front a.d win.many now (a.d + 1) 1 (omega arith);
        current_held = here c win.front a.d win.many now (a.d + 1 + 1) 2 (omega arith);
        link_held = here c win.front a.d win.many now (a.d + 1 + 2) 3 (omega arith);
        handlers_held = here c win.front a.d win.many now (a.d + 1 + 3) 4 (omega arith);
        bindings_held = here c win.front a.d win.many now (a.d + 1 + 4) 5 (omega arith);
      }

  pub turn_first : IsInnermost setting a (turn_exit e) world_inside a.z
  turn_first = record {
    some = turn.some;
    made = turn.made;
    no_end = λ e. absurd (cc e);
    links = newest_links a.rs (around_at setting a).link e a.z.state.exits a.around.exits a.valid turn.newest (around_at setting a).links;
    unnamed = λ f. absurd f;
  }

  -- its serial number, and that of the segment
  pub serial_there : register a.d laid_registers ≡ Some e
  serial_there = here c win.front a.d win.many _ a.d 0 (omega arith)

  pub segment_there : register (a.d + 6) laid_registers ≡ Some i
  segment_there = here c win.front a.d win.many _ (a.d + 6) 6 refl
