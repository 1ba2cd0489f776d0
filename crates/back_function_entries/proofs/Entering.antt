-- A routine that makes something is entered with a turn: its frame is laid, its body runs, and the frame is given back.
use Rattle.std.proofs.Common.{◌≡◌, ◌⊎◌, inl, inr, ℕ, zero, suc, ◌+◌, ◌*◌, ◌<◌, ◌≤◌, List, ◌∷◌, length, Some, refl, sym, ap, ◌∙◌, subst, arith}
use Rattle.std.specs.Prelude.{slice_get}
use Rattle.std.proofs.lemmas.Bool.{cases_lt}
use Rattle.lang_meaning.specs.Prefixes.{IsPrefix}
use Rattle.lang_meaning.specs.State.{DynamicContext, Limit, words, unlimited}
use Rattle.flat_language.specs.FlatState.{FlatState, FlatEvaluated}
use Rattle.mid_code.specs.declared.operation.Counted.TheVariants.{Turn}
use Rattle.mid_code.specs.declared.program.MidProcedure.{MidProcedure}
use Rattle.mid_code.specs.Arena.{words_of, left, word_at, with_blocks}
use Rattle.mid_code.specs.Costs.{entry_cost}
use Rattle.mid_code.specs.Meaning.{enter, leaves, run_procedure, exec, turns}
use Rattle.mid_code.specs.MidCode.{code_of}
use Rattle.mid_code.specs.State.{first_registers, with_arena, MidState, MidOutcome}
use Rattle.mid_arena.specs.Growing.{Grows}
use Rattle.mid_arena.proofs.Growing.{grows_both}
use Rattle.mid_arena.proofs.Leaving.{leaves_returned}
use Rattle.mid_arena.proofs.Memory.{left_with_new_block, grows_given_back}
use Rattle.mid_arena.proofs.Running.{frame_of, entered}
use Rattle.back_lowering.specs.ControlWords.{current_address, link_address, handlers_address, bindings_address, end_address}
use Rattle.back_lowering.specs.Program.{lowered}
use Rattle.back_relation.specs.Setting.{Setting}
use Rattle.back_relation.specs.Room.{words_for_handler}
use Rattle.back_relation.specs.Worlds.{World, Standing}
use Rattle.back_relation.specs.Things.{Things, WithinLimit}
use Rattle.back_relation.specs.Around.{RoomFor, CallBegins}
use Rattle.back_relation.specs.Ends.{RoomEnded, Ends, done, left_by, full_there, stopped, few_turns}
use Rattle.back_relation.specs.Forms.{code_at}
use Rattle.back_relation.specs.Procedures.{called}
use Rattle.back_calling.specs.Entering.{Inside}
use Rattle.back_calling.proofs.Framing.{frame_back}
use Rattle.back_calling.proofs.Entered.{framed, leaves_printed, leaves_because, things_same_words, inside_begins, with_room, without_room, used_at, called_by, leaves_costs}
use Rattle.back_calling.proofs.Storing.{some_words}
use Rattle.back_function_entries.specs.Making.{Makes}

-- ---- the frame is given back

module _ (setting : Setting) (p : MidProcedure) {w : World} {z : FlatState} {y : MidState} (t : Things setting w z y) (some : p.frame ≤ left y.arena) {rs valid : List Standing} {around : DynamicContext}
    {inside : ℕ} (i : Inside setting rs valid inside (entry_cost p.parameters) w around z y (entered p y)) (stop most m : ℕ) (says : ℕ → World → Type 0) (r : FlatEvaluated) (q : MidOutcome) where
  abbrev inner : MidState
  inner = entered p y

  abbrev outer : MidState
  outer = with_arena (with_blocks y.arena.blocks q.state.arena) q.state

  left_inside : left inner.arena + p.frame ≡ left y.arena
  left_inside = left_with_new_block (frame_of p) t.represents.arena some

  abbrev Outside : MidOutcome → Type 0
  Outside o = Ends setting (stop + entry_cost p.parameters) (Makes setting (most + entry_cost p.parameters) says w z y r o) ⊥ m z y r o

  made_outside : Makes setting most says w z inner r q → Outside (leaves y.arena.blocks q)
  made_outside x =
      let framed_blocks : q.state.arena.blocks ≡ frame_of p ∷ y.arena.blocks = x.blocks in
      let sum : words_of q.state.arena.blocks ≡ p.frame + words_of y.arena.blocks = ap words_of framed_blocks in
      let stands = x.world.things.represents.arena in
      let lower = i.from in
      let same = x.world.same_size in
      let back : (a : ℕ) → word_at outer.arena a ≡ word_at q.state.arena a = λ a. frame_back q.state.arena p.frame y.arena.blocks a framed_blocks in
      let given : Grows q.state.arena outer.arena = grows_given_back (frame_of p) y.arena.blocks stands framed_blocks in
      subst Outside (sym (leaves_returned y.arena.blocks q x.end))
      (done (record {
        word = x.word;
        end = refl;
        w' = x.w';
        world = record {
          later = x.world.later;
          things = things_same_words setting x.world.things back given refl refl;
          stack = record {
            words = λ a low high plain. back a ∙ x.world.stack.words a (omega (arith, low, lower)) (omega (arith, high, sum)) plain ∙ i.words a;
            bindings = λ j a e low high. x.world.stack.bindings j a e (omega (arith, low, lower)) (omega (arith, high, sum));
          };
          end = λ n e. back end_address ∙ x.world.end n (i.words end_address ∙ e);
          more_exits = x.world.more_exits;
          same_size = same ∙ i.grows.heap.size;
        };
        control = record {
          current = λ n e. back current_address ∙ x.control.current n (i.words current_address ∙ e);
          link = λ n e. back link_address ∙ x.control.link n (i.words link_address ∙ e);
          handlers = λ n e. back handlers_address ∙ x.control.handlers n (i.words handlers_address ∙ e);
          bindings = λ n e. back bindings_address ∙ x.control.bindings n (i.words bindings_address ∙ e);
        };
        blocks = refl;
        charged =
            let more : left q.state.arena + p.frame ≤ left outer.arena = omega (arith, sum, stands.room, stands.blocks, stands.aligned) in
            omega (arith, x.charged, left_inside, more);
        grows =
            grows_both y.arena q.state.arena outer.arena (grows_both y.arena inner.arena q.state.arena i.grows x.grows (λ a from to. omega (arith, from, lower))) given
            (λ a from to. omega (arith, from, to, lower, sum, same));
        cost = omega (arith, x.cost);
        said = x.said;
      }))

  outside : Ends setting stop (Makes setting most says w z inner r q) ⊥ m z inner r q → Outside (leaves y.arena.blocks q)
  outside (done x) = made_outside x
  outside (left_by x) = absurd x
  outside (full_there x) =
      full_there (record {
        asked = x.asked;
        left_then = x.left_then;
        outcome = x.outcome;
        printed = subst (λ ps. IsPrefix r.state.state.printed ps) (sym (leaves_printed y.arena.blocks q)) x.printed;
      })
  outside (stopped x) =
      stopped (record {
        because = leaves_because setting r y.arena.blocks q x.because;
        printed = subst (λ ps. IsPrefix ps r.state.state.printed) (sym (leaves_printed y.arena.blocks q)) x.printed;
        paid = λ ended. omega (arith, x.paid ended, leaves_costs y.arena.blocks q, i.cost);
      })
  outside (few_turns x) = few_turns (let size = i.grows.heap.size in omega (arith, x, size))

-- ---- the procedure

module _ (setting : Setting) (room inside stop most m : ℕ) (p : MidProcedure) (ws : List ℕ) (rs valid : List Standing) (w : World) (around : DynamicContext) (z : FlatState) (y : MidState)
    (r : FlatEvaluated) (says : ℕ → World → Type 0) (k : ℕ) where
  abbrev Comes : MidOutcome → Type 0
  Comes o = Ends setting (stop + entry_cost p.parameters) (Makes setting (most + entry_cost p.parameters) says w z y r o) ⊥ m z y r o

  -- what the body comes to, wherever its frame is laid
  abbrev pub BodyMakes : ℕ → Type 0
  BodyMakes n =
      (y' : MidState) → Inside setting rs valid inside (entry_cost p.parameters) w around z y y'
      → Ends setting stop (Makes setting most says w z y' r (exec (code_at setting k n) (code_of p.body) (first_registers p.registers ws) y')) ⊥ m z y' r
      (exec (code_at setting k n) (code_of p.body) (first_registers p.registers ws) y')

  module _ (f : ℕ) (within : f ≤ p.frame) (many : length ws ≡ p.parameters) (enough : p.frame + inside ≤ room) (grown : IsPrefix z.state.printed r.state.state.printed)
      (units : z.state.units ≤ r.state.state.units) (b : CallBegins setting rs valid room w around z y) where
    runs : (n : ℕ) → BodyMakes n → Comes (run_procedure (code_at setting k n) (framed p f) ws y)
    runs n body = by (cases_lt (left y.arena) f)
      where
        room_ended : (l : Limit) → RoomFor l (room + words_for_handler * length around.handlers) z.state y → WithinLimit l z.state → left y.arena < f → RoomEnded setting l r.outcome
        room_ended unlimited h limit few = tt
        room_ended (words n) h limit few = absurd (omega (arith, h, limit, few, within, enough))

        by : (left y.arena < f) ⊎ (f ≤ left y.arena) → Comes (run_procedure (code_at setting k n) (framed p f) ws y)
        by (inl few) =
            subst Comes (sym (without_room (code_at setting k n) (framed p f) ws y many few))
            (stopped (record {
              because = (room_ended setting.limit b.room b.things.within_limit few, few);
              printed = subst (λ ps. IsPrefix ps r.state.state.printed) (sym b.things.represents.printed) grown;
              paid = λ ended. omega (arith, units);
            }))
        by (inr some) =
            let i = inside_begins setting (framed p f) b.things some {rs = rs} {valid = valid} {around = around} room inside (omega (arith, within, enough)) b in
            subst Comes (sym (with_room (code_at setting k n) (framed p f) ws y many some))
            (outside setting (framed p f) b.things some i stop most m says r (exec (code_at setting k n) (code_of p.body) (first_registers p.registers ws) (entered (framed p f) y))
            (body (entered (framed p f) y) i))

    with_turns :
        (n : ℕ) → m + 16 * z.state.units ≤ n + 50 + 16 * r.state.state.units → ((j : ℕ) → n ≡ suc j → BodyMakes j)
        → Comes ((code_at setting k n).further (enter (framed p f) ws) y)
    unfolding turns
    with_turns zero few body = few_turns (omega (arith, few, some_words setting b.things))
    with_turns (suc j) few body = runs j (body j refl)

  -- **a routine that makes something**, by its number
  pub makes_with_turn :
      (n number : ℕ) → slice_get (lowered setting.names setting.at setting.program) number ≡ Some p → p.counted ≡ Turn → length ws ≡ p.parameters → p.frame + inside ≤ room
      → m + 16 * z.state.units ≤ n + 50 + 16 * r.state.state.units → IsPrefix z.state.printed r.state.state.printed → z.state.units ≤ r.state.state.units
      → CallBegins setting rs valid room w around z y → ((j : ℕ) → n ≡ suc j → BodyMakes j) → Comes (called (code_at setting k n) number ws y)
  makes_with_turn n number found counted many enough few grown units b body =
      let u = used_at _ setting.procedures number p setting.frames found in
      subst Comes (sym (called_by setting k n number p ws y Turn counted u)) (with_turns u.frame u.within many enough grown units b n few body)
