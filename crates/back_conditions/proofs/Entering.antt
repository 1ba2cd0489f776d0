-- A routine that only looks is entered: its frame is laid, its body runs, and the frame is given back. All but the cost is as it was.
use Rattle.std.proofs.Common.{◌≡◌, ℕ, zero, suc, ◌+◌, ◌*◌, ◌<◌, ◌≤◌, ◌⊎◌, List, [], length, Some, refl, sym, ap, ◌∙◌, subst, ⊎_elim, arith}
use Rattle.std.specs.Prelude.{slice_get}
use Rattle.std.proofs.lemmas.Bool.{cases_lt}
use Rattle.lang_meaning.specs.Prefixes.{IsPrefix}
use Rattle.lang_meaning.specs.State.{DynamicContext, Limit, words, unlimited}
use Rattle.lang_meaning.specs.State as meaning
use Rattle.lang_meaning.specs.Values.{nil}
use Rattle.flat_language.specs.FlatState.{FlatState, gives}
use Rattle.mid_code.specs.declared.operation.Counted.TheVariants.{Turn}
use Rattle.mid_code.specs.declared.program.MidProcedure.{MidProcedure}
use Rattle.mid_code.specs.Arena.{left, word_at}
use Rattle.mid_code.specs.Meaning.{Task, enter, turns, levels, count}
use Rattle.mid_code.specs.MidCode.{code_of}
use Rattle.mid_code.specs.State.{Registers, first_registers, MidState, MidOutcome, returns, ends, with_some}
use Rattle.mid_code.specs.Costs.{entry_cost}
use Rattle.mid_arena.specs.Places.{of_other}
use Rattle.mid_arena.proofs.Doing.{paid}
use Rattle.mid_arena.proofs.Growing.{changes_of_growing, spot_below}
use Rattle.mid_arena.proofs.Leaving.{leaves_returned}
use Rattle.mid_arena.proofs.Running.{RunsTo, turning, frame_of, entered, enters, enters_wanting}
use Rattle.back_lowering.specs.ControlWords.{current_address, link_address, serials_address, handlers_address, bindings_address, end_address}
use Rattle.back_relation.specs.Setting.{Setting, control_spot}
use Rattle.back_relation.specs.Room.{words_for_handler, looking_words}
use Rattle.back_relation.specs.Worlds.{World, BoxPlace, on_heap, on_stack, gone, Standing}
use Rattle.back_relation.specs.Things.{Things, WithinLimit}
use Rattle.back_relation.specs.Around.{RoomFor, CallBegins}
use Rattle.back_relation.specs.Ends.{WorldKept, Around, RoomEnded, Ends, done, stopped, few_turns}
use Rattle.back_relation.specs.Forms.{code_at}
use Rattle.back_relation.specs.Procedures.{called}
use Rattle.back_relation.specs.RoutineClaims.{Looks}
use Rattle.back_relation.proofs.Growth.{same_prefix}
use Rattle.back_relation.proofs.Worlds.{later_same}
use Rattle.back_exits.specs.Going.{BoxWas, GoesOn}
use Rattle.back_exits.proofs.Moving.{things_go_on}
use Rattle.back_conditions.specs.Looking.{LooksAnywhere}
use Rattle.back_conditions.proofs.Finding.{Used}
use Rattle.back_conditions.proofs.Frames.{framed, framed_grows, framed_stack, framed_word}

-- a state where a frame was laid and given back, and so much was paid
abbrev pub looked : MidProcedure → ℕ → MidState → MidState
looked p cost y = record y { arena = framed (frame_of p) y.arena; cost = cost }

module _ (setting : Setting) {w : World} {z : FlatState} {y : MidState} (t : Things setting w z y) (p : MidProcedure) (some : p.frame ≤ left y.arena) (cost : ℕ) where
  pub same_word : (x : ℕ) → word_at (looked p cost y).arena x ≡ word_at y.arena x
  same_word x = framed_word (frame_of p) t.represents.arena some x

  goes_on : GoesOn setting w w.boxes w.exit_forms z.state.exits y (looked p cost y)
  goes_on =
      let control = t.represents.spots (of_other 1) (control_spot setting) t.control in
      record {
        changes =
            changes_of_growing y.arena (looked p cost y).arena (control_spot setting) (framed_grows (frame_of p) t.represents.arena some)
            (spot_below t.represents.arena control);
        streams = record { printed = refl; input = refl };
        globals = λ n has. same_word _;
        dynamics = λ n has. same_word _;
        serials = (t.serials.0, same_word serials_address ∙ t.serials.1, t.serials.2, t.serials.3);
        box_count = refl;
        boxes_were = λ i b e. by i b e;
        boxes_kept = λ i a e. e;
        form_count = t.exit_forms;
        forms_kept = λ e o h. h;
      }
    where
      by : (i : ℕ) (b : BoxPlace) → slice_get w.boxes i ≡ Some b → BoxWas w y.arena (looked p cost y).arena i b
      by i (on_heap x) e = e
      by i (on_stack x) e = (e, same_word x)
      by i gone e = tt

  looked_things : Things setting w z (looked p cost y)
  looked_things = things_go_on setting z.state.made t goes_on

  -- all but the cost is as it was
  pub looked_world : WorldKept setting w w z z y (looked p cost y)
  looked_world = record {
    later = later_same w;
    things = looked_things;
    stack = record { words = λ x low high plain. same_word x; bindings = λ i a e low high. e };
    end = λ n e. same_word end_address ∙ e;
    more_exits = omega arith;
    same_size = (framed_grows (frame_of p) t.represents.arena some).size;
  }

  pub looked_back : (most : ℕ) → cost ≤ y.cost + most → Around setting most z z y (looked p cost y)
  looked_back most within = record {
    control = record { current = λ n e. same_word current_address ∙ e; link = λ n e. same_word link_address ∙ e; handlers = λ n e. same_word handlers_address ∙ e; bindings = λ n e. same_word bindings_address ∙ e };
    blocks = refl;
    charged = omega (arith, framed_stack (frame_of p) t.represents.arena some);
    paid = omega (arith, within);
  }

-- a procedure with another frame
abbrev pub with_frame_of : ℕ → MidProcedure → MidProcedure
with_frame_of frame p = record p { frame = frame }

-- what the body of a routine comes to, where its frame is laid
pub record BodyLooks (setting : Setting) (k n : ℕ) (p : MidProcedure) (ws : List ℕ) (word most : ℕ) (y : MidState) : Type 0 where
  pub registers : Registers
  pub cost : ℕ
  pub runs :
      RunsTo (turning setting.procedures (levels setting.procedures setting.turns_each k) n) (code_of p.body) (first_registers p.registers ws) (entered p y)
      (ends (returns word) registers (paid (entered p y) cost))
  pub within : cost ≤ y.cost + most

-- there is room for a frame of at most so many words
pub frame_left :
    (l : meaning.Limit) (n frame : ℕ) (z : meaning.State) (y : MidState) → frame ≤ n → RoomFor l n z y → WithinLimit l z → left y.arena < frame
    → (m : ℕ) → l ≡ words m → ⊥
frame_left unlimited n frame z y h room within few m e = absurd (cc e)
frame_left (words k) n frame z y h room within few m e = omega (arith, h, room, within, few)

module _ (setting : Setting) (k turns_left : ℕ) (rs valid : List Standing) (w : World) (around : DynamicContext) (z : FlatState) (y : MidState) where
  abbrev Reached : (most word : ℕ) → MidOutcome → Type 0
  Reached most word q = Ends setting most (Looks setting k turns_left rs valid w around z y most word q) ⊥ turns_left z y (gives nil z) q

  abbrev below : Task → MidState → MidOutcome
  below = levels setting.procedures setting.turns_each k

  -- its procedure is entered
  enters_so :
      (room most : ℕ) (ws : List ℕ) (word n : ℕ) (p : MidProcedure) → length ws ≡ p.parameters → p.frame ≤ room → entry_cost p.parameters ≤ most → CallBegins setting rs valid room w around z y
      → (p.frame ≤ left y.arena → BodyLooks setting k n p ws word most y ⊎ (turns_left ≤ length y.arena.memory))
      → Reached most word (turns setting.procedures below (suc n) (enter p ws) y)
  enters_so room most ws word n p many small cheap begins body = ⊎_elim without with_room (cases_lt (left y.arena) p.frame)
    where
      printed : IsPrefix y.printed z.state.printed
      printed = subst (λ ps. IsPrefix ps z.state.printed) (sym begins.things.represents.printed) (same_prefix z.state.printed)

      ended : left y.arena < p.frame → (l : Limit) → setting.limit ≡ l → RoomEnded setting l (meaning.value nil)
      ended few unlimited same = tt
      ended few (words m) same =
          frame_left setting.limit (room + words_for_handler * length around.handlers) p.frame z.state y (omega (arith, small))
          begins.room begins.things.within_limit few m same

      without : left y.arena < p.frame → Reached most word (turns setting.procedures below (suc n) (enter p ws) y)
      without few =
          subst (λ q. Reached most word q) (sym (enters_wanting {procedures = setting.procedures} {below = below} {n = n} {p = p} {ws = ws} {z = y} many few).same)
          (stopped (record { because = (ended few setting.limit refl, few); printed = printed; paid = λ goes. omega (arith, cheap) }))

      looks : p.frame ≤ left y.arena → BodyLooks setting k n p ws word most y → Reached most word (turns setting.procedures below (suc n) (enter p ws) y)
      looks some b =
          subst (λ q. Reached most word q)
          (sym ((enters {p = p} {z = y} many some b.runs).same ∙ leaves_returned y.arena.blocks (ends (returns word) b.registers (paid (entered p y) b.cost)) refl))
          (done (record {
            end = refl;
            world = looked_world setting begins.things p some b.cost;
            back = looked_back setting begins.things p some b.cost most b.within;
          }))

      with_room : p.frame ≤ left y.arena → Reached most word (turns setting.procedures below (suc n) (enter p ws) y)
      with_room some = ⊎_elim (looks some) (λ few. few_turns (omega (arith, few))) (body some)

  -- **a routine that only looks**: its body returns the word, or there are few turns
  pub looks_up :
      (room most number : ℕ) (ws : List ℕ) (word : ℕ) (given : MidProcedure) (u : Used given setting.procedures number) → given.counted ≡ Turn
      → length ws ≡ given.parameters → given.frame ≤ looking_words → entry_cost given.parameters ≤ most
      → ((n frame : ℕ) → turns_left ≡ suc n → CallBegins setting rs valid room w around z y → frame ≤ left y.arena
      → BodyLooks setting k n (with_frame_of frame given) ws word most y ⊎ (turns_left ≤ length y.arena.memory))
      → LooksAnywhere setting k turns_left rs valid w around z y room most number ws word
  unfolding turns with_some
  looks_up room most number ws word given u counted many small cheap body enough begins = by turns_left refl
    where
      p : MidProcedure
      p = with_frame_of u.used.frame given

      -- the call is that of the procedure, with a turn for it
      entering : called (code_at setting k turns_left) number ws y ≡ turns setting.procedures below turns_left (enter p ws) y
      entering =
          ap (λ o. with_some o (λ q rs x. count (code_at setting k turns_left) q.counted (enter q ws) x) [] y) u.found
          ∙ ap (λ (q : MidProcedure). count (code_at setting k turns_left) q.counted (enter q ws) y) u.within.same
          ∙ ap (λ c. count (code_at setting k turns_left) c (enter p ws) y) counted

      by : (n : ℕ) → turns_left ≡ n → Reached most word (called (code_at setting k turns_left) number ws y)
      by zero e = few_turns (omega (arith, e))
      by (suc n) e =
          subst (λ q. Reached most word q) (sym (entering ∙ ap (λ m. turns setting.procedures below m (enter p ws) y) e))
          (enters_so room most ws word n p many (omega (arith, small, u.within.frame, enough)) cheap begins (λ some. body n u.used.frame e begins some))
