-- Where a record was laid and its words were stored, what words and registers say.
use Rattle.std.proofs.Common.{◌≡◌, inr, ℕ, ◌+◌, ◌/◌, ◌<◌, ◌≤◌, true, false, List, [], ◌∷◌, ◌++◌, length, Option, Some, None, refl, sym, ap, ◌∙◌, subst, arith, length-append}
use Rattle.std.specs.Prelude.{◌%◌, ◌^◌, ◌==◌, ◌-◌, slice_get}
use Rattle.std.proofs.lemmas.Bool.{eqb-false}
use Rattle.base.specs.Names.{slice_get-front}
use Rattle.lang_meaning.specs.declared.scope.ExitForm.{ExitForm}
use Rattle.flat_language.specs.FlatState.{FlatState, charged}
use Rattle.mid_code.specs.Arena.{Arena, record_of, left, stack_from, word_at}
use Rattle.mid_code.specs.Meaning.{Context}
use Rattle.mid_code.specs.State.{Registers, MidState}
use Rattle.mid_arena.specs.Growing.{Grows}
use Rattle.mid_arena.specs.Places.{end_of, of_other}
use Rattle.mid_arena.specs.Standing.{ArenaStands, SpotStands}
use Rattle.mid_arena.proofs.Growing.{spot_below, spot_grown}
use Rattle.mid_arena.proofs.Memory.{in_spot_lent, in_spot_there, grows_with_new_block, stands_with_new_block}
use Rattle.back_lowering.specs.ControlWords.{control_address, record_words, serials_address, current_address, link_address, handlers_address, bindings_address}
use Rattle.back_relation.specs.Setting.{Setting, control_spot}
use Rattle.back_relation.specs.Placed.{IsPlaced}
use Rattle.back_relation.specs.Worlds.{World, RecordRole}
use Rattle.back_relation.specs.StackWords.{HasWordAt, kind_number, UseAt}
use Rattle.back_relation.specs.Things.{Things}
use Rattle.back_relation.specs.Ends.{WorldKept}
use Rattle.back_relation.specs.Cuts.{boxes_cut}
use Rattle.back_relation.specs.Starts.{Start}
use Rattle.back_relation.specs.Stores.{stores}
use Rattle.back_relation.proofs.Straight.{things_units}
use Rattle.back_relation.proofs.Windows.{here, stored_elsewhere}
use Rattle.back_relation.proofs.Boxes.{stack_above}
use Rattle.back_exits.specs.Going.{world_with, exits_counted}
use Rattle.back_exits.specs.Inside.{around_at, arena_inside, address_inside, record_inside, LaidAt}
use Rattle.back_exits.specs.RecordSteps.{record_registers, ControlSays, ControlLent, RecordLent}
use Rattle.back_exits.specs.Touching.{Touched, touched, ExitsMade}
use Rattle.back_exits.proofs.Puts.{Put, pairs, are_puts, or_before, last_control, last_record, puts_touch, control_stands, record_stands}
use Rattle.back_exits.proofs.Steps.{laid_from, laid_to, laid_low, laid_aligned, record_lent, record_there, same_front}
use Rattle.back_exits.proofs.Touching.{world_touched, stored_blocks, stored_heap, touches_aligned, touches_beside}

-- control words are lent, wherever the words of the code's own stand
module _ (setting : Setting) {b : Arena} (spot : SpotStands b (control_spot setting)) where
  pub control_lent : ControlLent b
  control_lent k few aligned = in_spot_lent (control_address + k) spot (omega (arith, aligned)) (omega arith) (omega (arith, few))

  pub control_there : ArenaStands b → (k : ℕ) → k < 36 → (control_address + k) / 4 < length b.memory
  control_there stands k few = in_spot_there (control_address + k) stands spot (omega (arith, few))

pub control_of : (setting : Setting) {w : World} {z : FlatState} {y : MidState} → Things setting w z y → SpotStands y.arena (control_spot setting)
control_of setting t = t.represents.spots (of_other 1) (control_spot setting) t.control

-- a state in which so many units more were charged, and nothing else is other than at a point
pub record Charges (setting : Setting) (a : Start setting) (units : ℕ) (z : FlatState) : Type 0 where
  pub things : Things setting a.w z a.y
  pub units_there : z.state.units ≡ a.z.state.units + units
  pub heap : z.state.heap ≡ a.z.state.heap
  pub stack : z.state.stack ≡ a.z.state.stack
  pub exits : z.state.exits ≡ a.z.state.exits
  pub frame : z.frame ≡ a.z.frame
  pub captured : z.captured ≡ a.z.captured

pub charges : (setting : Setting) (a : Start setting) (units : ℕ) → Charges setting a units (charged units a.z)
charges setting a units = record {
  things = things_units setting units a.begins.call.things;
  units_there = refl;
  heap = refl;
  stack = refl;
  exits = refl;
  frame = refl;
  captured = refl;
}

pub charges_none : (setting : Setting) (a : Start setting) → Charges setting a 0 a.z
charges_none setting a = record {
  things = a.begins.call.things;
  units_there = omega arith;
  heap = refl;
  stack = refl;
  exits = refl;
  frame = refl;
  captured = refl;
}

module _ (setting : Setting) (a : Start setting) (placed : IsPlaced setting) (room : 8 ≤ left a.y.arena) where
  abbrev pub things : Things setting a.w a.z a.y
  things = a.begins.call.things

  stands : ArenaStands a.y.arena
  stands = things.represents.arena

  abbrev pub inner : Arena
  inner = arena_inside setting a

  abbrev pub at : ℕ
  at = address_inside setting a

  pub grows : Grows a.y.arena inner
  grows = grows_with_new_block (record_of record_words) stands room

  stands_inside : ArenaStands inner
  stands_inside = stands_with_new_block (record_of record_words) stands room

  to : at + 24 ≡ stack_from a.y.arena
  to = laid_to stands room

  below_heap : end_of (control_spot setting) ≤ a.y.arena.heap_to
  below_heap = spot_below stands (control_of setting things)

  pub above : 220 ≤ at
  above = let low = laid_low stands room in let below = below_heap in omega (arith, low, below)

  pub at_aligned : at % 4 ≡ 0
  at_aligned = laid_aligned stands room

  spot_inside : SpotStands inner (control_spot setting)
  spot_inside = spot_grown grows.heap (control_of setting things)

  pub lent_control : ControlLent inner
  lent_control = control_lent setting spot_inside

  pub lent_record : RecordLent inner at
  lent_record = record {
    aligned = at_aligned;
    above = above;
    low = let size = stands.size in let t = to in omega (arith, size, t);
    lent = record_lent stands room;
  }

  -- a word in front of the heap's end is as it was
  pub word_inside : (x n : ℕ) → x < 220 → HasWordAt a.y x n → word_at inner x ≡ Some n
  word_inside x n low e = let below = below_heap in grows.words x (omega (arith, low, below)) ∙ e

  pub says_inside : ControlSays inner (around_at setting a).current (around_at setting a).link (around_at setting a).handlers_cell (around_at setting a).bindings_cell
  says_inside =
      let t = around_at setting a in
      record {
        current_word = word_inside current_address t.current (omega arith) t.current_word;
        link_word = word_inside link_address t.link (omega arith) t.link_word;
        handlers_word = word_inside handlers_address t.handlers_cell (omega arith) t.handlers_word;
        bindings_word = word_inside bindings_address t.bindings_cell (omega arith) t.bindings_word;
      }

  -- what stands among the control words where words were stored
  pub control_after : (k : ℕ) (puts : List Put) → are_puts puts ≡ true → k < 36 → k % 4 ≡ 0
      → word_at (stores (pairs at puts) inner) (control_address + k) ≡ or_before (last_control k puts) (word_at inner (control_address + k))
  control_after k puts are few word =
      control_stands at at_aligned above k puts inner are few (lent_control k few word) (control_there setting spot_inside stands_inside k few)

  -- one exit more was made, by this form
  pub one_more :
      (z0 : FlatState) (puts : List Put) (f : Option ExitForm) → z0.state.exits ≡ a.z.state.exits → are_puts puts ≡ true → (things.serials.0 == 2 ^ 32 - 1) ≡ false → last_control 8 puts ≡ Some (things.serials.0 + 1)
      → ExitsMade a.w z0 (a.w.exit_forms ++ f ∷ []) (a.z.state.exits + 1) (stores (pairs at puts) inner)
  one_more z0 puts f same are fewer drawn =
      let s = things.serials in
      let count = s.2 in
      let low = s.3 in
      let not_last : s.0 ≡ 2 ^ 32 - 1 → ⊥ = eqb-false s.0 (2 ^ 32 - 1) fewer in
      record {
        drawn = s.0 + 1;
        word =
            control_stands at at_aligned above 8 puts inner are (omega arith) (lent_control 8 (omega arith) refl) (control_there setting spot_inside stands_inside 8 (omega arith))
            ∙ ap (λ o. or_before o (word_at inner serials_address)) drawn;
        count = omega (arith, count);
        low = omega (arith, low, not_last);
        more = omega (arith, same);
        form_count = length-append a.w.exit_forms (f ∷ []) ∙ ap (λ n. n + 1) things.exit_forms;
        forms_kept = λ e o g. slice_get-front a.w.exit_forms (f ∷ []) e o g;
      }

  module _ (c : Context) (z0 : FlatState) {units : ℕ} (charge : Charges setting a units z0) (cost total : ℕ) (paid : total ≡ a.y.cost + cost) (puts : List Put) (are : are_puts puts ≡ true) (forms : List (Option ExitForm)) (exits : ℕ) (made : List ℕ)
      (exits_made : ExitsMade a.w z0 forms exits (stores (pairs at puts) inner)) where
    abbrev pub world_laid : World
    world_laid = world_with (boxes_cut (stack_from a.y.arena) a.w.boxes) forms a.w

    abbrev pub flat_laid : FlatState
    flat_laid = exits_counted exits made z0

    abbrev pub state_laid : MidState
    state_laid = touched (pairs at puts) inner total a.y

    touching : Touched a.y.arena inner (pairs at puts) (stack_from a.y.arena)
    touching = record {
      grows = grows;
      from = at;
      to = at + 24;
      touches = puts_touch at at_aligned above puts are;
      low = let low = laid_low stands room in omega (arith, low);
      high = let t = to in omega (arith, t);
      before = omega arith;
      after = let from = laid_from stands room in let t = to in omega (arith, from, t);
      least = λ x low high. low;
    }

    charged_world : WorldKept setting a.w world_laid z0 flat_laid a.y state_laid
    charged_world = world_touched setting total made placed charge.things touching exits_made

    record_word : (k n : ℕ) → k < 24 → k % 4 ≡ 0 → last_record k puts ≡ Some n → HasWordAt state_laid (at + k) n
    record_word k n few aligned e =
        record_stands at at_aligned above k puts inner are (record_lent stands room k few aligned) (record_there stands room k few)
        ∙ ap (λ o. or_before o (word_at inner (at + k))) e

    control_word : (k n m : ℕ) → k < 36 → k % 4 ≡ 0 → word_at inner (control_address + k) ≡ Some n → or_before (last_control k puts) (Some n) ≡ Some m
        → HasWordAt state_laid (control_address + k) m
    control_word k n m few aligned before e =
        control_stands at at_aligned above k puts inner are few (lent_control k few aligned) (control_there setting spot_inside stands_inside k few)
        ∙ ap (or_before (last_control k puts)) before ∙ e

    pub record_has : (k n : ℕ) → k < 24 → k % 4 ≡ 0 → last_record k puts ≡ Some n → HasWordAt state_laid (at + k) n
    record_has k n few aligned e = record_word k n few aligned e

    module _ (role : RecordRole) (link : ℕ) (kind : last_record 4 puts ≡ Some (kind_number role)) (outer : last_record 8 puts ≡ Some (around_at setting a).current)
        (current : last_control 0 puts ≡ Some at) (link_put : or_before (last_control 4 puts) (Some (around_at setting a).link) ≡ Some link)
        (handlers : last_control 20 puts ≡ None) (bindings : last_control 24 puts ≡ None) (role_words : UseAt world_laid state_laid (record_inside setting a role) role)
        (front tail : Registers) (many : length front ≡ a.d) (r0 r1 r2 r3 r4 r5 r6 r7 : Option ℕ) (parts : a.regs ≡ front ++ r0 ∷ r1 ∷ r2 ∷ r3 ∷ r4 ∷ r5 ∷ r6 ∷ r7 ∷ tail)
        (serial used next : Option ℕ) where
      abbrev win : Registers
      win =
          serial ∷ Some at ∷ Some (around_at setting a).current ∷ Some (around_at setting a).link ∷ Some (around_at setting a).handlers_cell ∷ Some (around_at setting a).bindings_cell
          ∷ used ∷ next ∷ tail

      abbrev old : Registers
      old = r0 ∷ r1 ∷ r2 ∷ r3 ∷ r4 ∷ r5 ∷ r6 ∷ r7 ∷ tail

      abbrev pub registers_laid : Registers
      registers_laid =
          record_registers front serial at (around_at setting a).current (around_at setting a).link (around_at setting a).handlers_cell (around_at setting a).bindings_cell used next tail

      -- **the record was laid**
      pub laid_stands : LaidAt setting a units cost role link world_laid flat_laid registers_laid state_laid
      laid_stands = record {
        room = room;
        world = record {
          later = charged_world.later;
          things = charged_world.things;
          stack = charged_world.stack;
          end = charged_world.end;
          more_exits = let more = charged_world.more_exits in let same_exits = charge.exits in omega (arith, more, same_exits);
          same_size = charged_world.same_size;
        };
        blocks = stored_blocks (pairs at puts) inner;
        heap_to = stored_heap (pairs at puts) inner;
        paid = paid;
        units_there = charge.units_there;
        heap = charge.heap;
        stack = charge.stack;
        frame = charge.frame;
        captured = charge.captured;
        bindings = λ i x e. stack_above (stack_from a.y.arena) i x a.w.boxes e;
        words = λ x low.
            let t = to in
            let up = above in
            let touches = puts_touch at at_aligned above puts are in
            stored_elsewhere (pairs at puts) inner x (touches_aligned at (at + 24) (pairs at puts) touches)
            (touches_beside at (at + 24) (pairs at puts) x (omega (arith, t, up, low)) (inr (omega (arith, t, low))) touches)
            ∙ grows.stack x low (let from = laid_from stands room in omega (arith, from, t, low));
        kind = record_word 4 (kind_number role) (omega arith) refl kind;
        outer = record_word 8 (around_at setting a).current (omega arith) refl outer;
        role_words = role_words;
        control = record {
          current_word = control_word 0 (around_at setting a).current at (omega arith) refl says_inside.current_word (ap (λ o. or_before o (Some (around_at setting a).current)) current);
          link_word = control_word 4 (around_at setting a).link link (omega arith) refl says_inside.link_word link_put;
          handlers_word =
              control_word 20 (around_at setting a).handlers_cell (around_at setting a).handlers_cell (omega arith) refl says_inside.handlers_word
              (ap (λ o. or_before o (Some (around_at setting a).handlers_cell)) handlers);
          bindings_word =
              control_word 24 (around_at setting a).bindings_cell (around_at setting a).bindings_cell (omega arith) refl says_inside.bindings_word
              (ap (λ o. or_before o (Some (around_at setting a).bindings_cell)) bindings);
        };
        count = length-append front win ∙ sym (length-append front old) ∙ sym (ap length parts);
        same = λ i few. same_front front win old i (subst (λ n. i < n) (sym many) few) ∙ ap (λ rs. slice_get rs i) (sym parts);
        address_held = here c front a.d many win (a.d + 1) 1 (omega arith);
        current_held = here c front a.d many win (a.d + 1 + 1) 2 (omega arith);
        link_held = here c front a.d many win (a.d + 1 + 2) 3 (omega arith);
        handlers_held = here c front a.d many win (a.d + 1 + 3) 4 (omega arith);
        bindings_held = here c front a.d many win (a.d + 1 + 4) 5 (omega arith);
      }
