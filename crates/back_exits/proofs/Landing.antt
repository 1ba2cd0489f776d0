-- The code behind the body of a record with an exit, and that of its landing: the word of the result comes to its register, and the record is gone.
use Rattle.std.proofs.Common.{◌≡◌, ℕ, ◌+◌, ◌*◌, ◌<◌, ◌≤◌, true, List, [], ◌∷◌, ◌++◌, length, Option, Some, refl, sym, ap, ◌∙◌, subst, arith}
use Rattle.std.specs.Prelude.{◌%◌, ◌==◌, slice_set}
use Rattle.std.proofs.Math.ListN.{length-set}
use Rattle.lang_meaning.specs.Counts.{unit_cost}
use Rattle.lang_meaning.specs.declared.scope.ExitForm.{ExitForm}
use Rattle.lang_meaning.specs.State.{Exit}
use Rattle.flat_language.specs.FlatState.{FlatState, FlatEvaluated, gives}
use Rattle.mid_code.specs.Arena.{Arena, Block, words_of, record_of, closed_record, word_in, word_at, with_blocks}
use Rattle.mid_code.specs.Law.{Grown}
use Rattle.mid_code.specs.Meaning.{Context, exec, give_back, run_landing}
use Rattle.mid_code.specs.MidCode.{code_of}
use Rattle.mid_code.specs.State.{Registers, register, falls, ends, MidState, MidOutcome, Next, charged, with_arena, jumped, landed}
use Rattle.mid_code.specs.State.{go_on as mid_go_on}
use Rattle.mid_code.proofs.Growth.{go_on_grown, exec_grown, levels_grow, turns_grow, after_inside_grown, run_landing_grown}
use Rattle.mid_arena.specs.Growing.{Grows}
use Rattle.mid_arena.specs.Standing.{SpotStands}
use Rattle.mid_arena.proofs.Growing.{spot_below, spot_stands}
use Rattle.mid_arena.proofs.Lists.{set_elsewhere}
use Rattle.mid_arena.proofs.Memory.{grows_with_blocks}
use Rattle.mid_arena.proofs.Registers.{register_here, register_beside}
use Rattle.mid_arena.proofs.Running.{RunsTo, and_then, none_left, parts_then, move_falls}
use Rattle.back_lowering.specs.ControlWords.{control_address, record_words}
use Rattle.back_lowering.specs.declared.scope.OwnExit.{OwnExit}
use Rattle.back_lowering.specs.Records.{record_left, record_landed}
use Rattle.back_lowering.specs.Steps.{Steps, move}
use Rattle.back_relation.specs.Setting.{Setting, control_spot}
use Rattle.back_relation.specs.Placed.{IsPlaced}
use Rattle.back_relation.specs.Worlds.{World, for_exit}
use Rattle.back_relation.specs.StackWords.{HasWordAt}
use Rattle.back_relation.specs.Things.{Things}
use Rattle.back_relation.specs.Activation.{NoSlot, RegistersKept}
use Rattle.back_relation.specs.Ends.{ChargedFrom, WorldKept, done}
use Rattle.back_relation.specs.Forms.{Begins, code_at}
use Rattle.back_relation.specs.Starts.{Start, FellFrom, ReachedFrom, LeftFrom, EndsAt}
use Rattle.back_relation.specs.Stores.{stores}
use Rattle.back_relation.proofs.Parts.{go_on_falls}
use Rattle.back_exits.specs.Inside.{scope_with, environment_with, around_with, around_at, address_inside, record_inside, LaidAt, IsInnermost}
use Rattle.back_exits.specs.RecordSteps.{ControlSays, left_stores, landed_stores, with_stores}
use Rattle.back_exits.specs.Touching.{touched}
use Rattle.back_exits.proofs.Exits.{start_inside, stops_here, blocks_here}
use Rattle.back_exits.proofs.Inside.{words_left}
use Rattle.back_exits.proofs.Laying.{record_steps_law}
use Rattle.back_exits.proofs.Leaving.{AreControls, world_back, reached_outside, charged_back}
use Rattle.back_exits.proofs.Puts.{Put, of_control, pairs, are_puts, or_before, last_control, control_stands}
use Rattle.back_exits.proofs.Steps.{gives_back, closes}
use Rattle.back_exits.proofs.Touching.{stored_from}
use Rattle.back_exits.proofs.Words.{control_lent, control_there, control_of, above, at_aligned}

abbrev pub behind_body : ℕ → Steps
behind_body d = record_left (d + 1) (d + 7) ++ (move d (d + 6) ∷ [])

abbrev pub landing_steps : ℕ → Steps
landing_steps d = record_landed (d + 1) (d + 6)

pub left_controls : (current link : ℕ) → AreControls (left_stores current link)
left_controls current link = (refl, (omega arith, omega arith), (λ e. absurd (omega (arith, e))), (refl, (omega arith, omega arith), (λ e. absurd (omega (arith, e))), tt))

landed_controls : (current link handlers bindings : ℕ) → AreControls (landed_stores current link handlers bindings)
landed_controls current link handlers bindings = (
  refl,
  (omega arith, omega arith),
  (λ e. absurd (omega (arith, e))),
  (
    refl,
    (omega arith, omega arith),
    (λ e. absurd (omega (arith, e))),
    (refl, (omega arith, omega arith), (λ e. absurd (omega (arith, e))), (refl, (omega arith, omega arith), (λ e. absurd (omega (arith, e))), tt)),
  ),
)

-- control words where the block of the record is given back
module _ (setting : Setting) {w : World} {z : FlatState} {y : MidState} (t : Things setting w z y) (b : Block) (bs : List Block) (blocks : y.arena.blocks ≡ b ∷ bs) (at : ℕ)
    (aligned : at % 4 ≡ 0) (above_controls : 220 ≤ at) where
  abbrev back : Arena
  back = with_blocks bs y.arena

  grows : Grows y.arena back
  grows = grows_with_blocks (b ∷ []) bs t.represents.arena blocks

  spot_back : SpotStands back (control_spot setting)
  spot_back = spot_stands y.arena back (control_spot setting) refl refl refl (omega arith) (control_of setting t)

  pub control_back : (i : ℕ) (puts : List Put) → are_puts puts ≡ true → i < 36 → i % 4 ≡ 0
      → word_at (stores (pairs at puts) back) (control_address + i) ≡ or_before (last_control i puts) (word_at back (control_address + i))
  control_back i puts are few word =
      control_stands at aligned above_controls i puts back are few (control_lent setting spot_back i few word) (control_there setting spot_back grows.heap.stands i few)

  pub control_stays : (i n : ℕ) → i < 36 → HasWordAt y (control_address + i) n → word_at back (control_address + i) ≡ Some n
  control_stays i n few e = let low = spot_below t.represents.arena (control_of setting t) in grows.words (control_address + i) (omega (arith, low, few)) ∙ e

module _ (setting : Setting) (placed : IsPlaced setting) (k turns : ℕ) (a : Start setting) {units cost : ℕ} {x : Exit} {w : World} {z : FlatState} {regs : Registers} {y : MidState}
    (laid : LaidAt setting a units cost (for_exit x) (address_inside setting a) w z regs y) (first : IsInnermost setting a x w z)
    {own : List OwnExit} {count : ℕ} {forms : List ExitForm} {numbers : List ℕ} (m : ℕ)
    (begins : Begins setting (record_inside setting a (for_exit x) ∷ a.rs) (record_inside setting a (for_exit x) ∷ a.valid) (scope_with count forms own a.s) (a.d + 6) m w
    (environment_with numbers a.env) (around_with (x ∷ a.around.exits) a.around) z regs y) (there : a.d + 8 ≤ length a.regs) where
  abbrev pub outside : ℕ
  outside = length a.y.arena.blocks

  abbrev pub c : Context
  c = code_at setting k turns

  abbrev pub after : Next
  after rs y = jumped (give_back outside rs y)

  abbrev pub rest : Next
  rest rs y = mid_go_on (exec c (code_of (behind_body a.d)) rs y) after

  abbrev pub catch : ℕ → Next
  catch v rs y = run_landing outside a.d (λ rs x. exec c (code_of (landing_steps a.d)) rs x) v rs y

  abbrev pub inside : Start setting
  inside = start_inside setting a laid first {own = own} {count = count} {forms = forms} {numbers = numbers} 6 m begins

  code_grown : (ss : Steps) (rs : Registers) (y : MidState) → Grown y (exec c (code_of ss) rs y).state
  code_grown ss rs y =
      exec_grown c (levels_grow setting.procedures setting.turns_each k) (turns_grow setting.procedures _ (levels_grow setting.procedures setting.turns_each k) turns) (code_of ss) rs y

  pub rest_grows : (rs : Registers) (y : MidState) → Grown y (rest rs y).state
  rest_grows rs y = go_on_grown (exec c (code_of (behind_body a.d)) rs y) after y (code_grown (behind_body a.d) rs y) (λ rs' y'. after_inside_grown outside rs' y')

  pub catch_grows : (v : ℕ) (rs : Registers) (y : MidState) → Grown y (catch v rs y).state
  catch_grows v rs y = run_landing_grown outside a.d (λ rs x. exec c (code_of (landing_steps a.d)) rs x) v rs y (λ rs' y'. code_grown (landing_steps a.d) rs' y')

  not_slot : (r : ℕ) → a.d ≤ r → NoSlot a.s.code r
  not_slot r high n e = let low = a.begins.scope.slots_below n r e in omega (arith, low, high)

  -- what was around is held in registers behind the body
  module _ {g : Registers} (kept : RegistersKept (scope_with count forms own a.s).code (a.d + 6) regs g) where
    held : (r : ℕ) (o : Option ℕ) → a.d ≤ r → r < a.d + 6 → register r regs ≡ o → register r g ≡ o
    held r o high low e = ap word_in (kept.same r low (not_slot r high)) ∙ e

    size : length g ≡ length a.regs
    size = kept.count ∙ laid.count

  -- ---- behind the body

  module _ (c1 c2 : ℕ) (enough : c1 + cost + 48 ≤ unit_cost * units + c2) where
    module _ (r : FlatEvaluated) (q : MidOutcome) (f : FellFrom setting c1 inside (a.d + 6) r q) where
      blocks : q.state.arena.blocks ≡ record_of record_words ∷ a.y.arena.blocks
      blocks = f.reached.back.blocks ∙ laid.blocks

      abbrev leaves : List (ℕ × ℕ)
      leaves = left_stores (around_at setting a).current (around_at setting a).link

      abbrev g3 : Registers
      g3 = slice_set (slice_set q.registers (a.d + 7) (Some 0)) a.d (Some f.word)

      abbrev b : Arena
      b = with_blocks a.y.arena.blocks q.state.arena

      abbrev y3 : MidState
      y3 = touched leaves b (q.state.cost + 22 + 6 + 10 + 2) q.state

      spot : SpotStands q.state.arena (control_spot setting)
      spot = control_of setting f.reached.kept.world.things

      runs : RunsTo c (code_of (behind_body a.d)) q.registers q.state (ends falls g3 (charged 6 (with_stores leaves 22 q.state)))
      runs =
          parts_then (record_left (a.d + 1) (a.d + 7)) (move a.d (a.d + 6) ∷ [])
          (record {
            same =
                record_steps_law.left c q.registers (a.d + 1) (a.d + 7) (around_at setting a).current (around_at setting a).link q.state (omega arith)
                (let same = size f.reached.kept.registers in omega (arith, same, there))
                (held f.reached.kept.registers (a.d + 1 + 1) _ (omega arith) (omega arith) laid.current_held)
                (held f.reached.kept.registers (a.d + 1 + 2) _ (omega arith) (omega arith) laid.link_held) (control_lent setting spot);
          })
          (and_then (move_falls (register_beside q.registers (a.d + 7) (a.d + 6) (Some 0) (λ e. omega (arith, e)) ∙ f.in_register)) none_left)

      code_is : landed outside catch (mid_go_on q rest) ≡ ends falls g3 y3
      unfolding mid_go_on landed
      code_is =
          ap (landed outside catch) (go_on_falls q rest f.end) ∙ ap (λ p. landed outside catch (mid_go_on p after)) runs.same
          ∙ ap (λ p. landed outside catch (jumped p)) (gives_back (record_of record_words) a.y.arena.blocks g3 (charged 6 (with_stores leaves 22 q.state)) blocks refl)

      aligned : address_inside setting a % 4 ≡ 0
      aligned = at_aligned setting a placed laid.room

      high : 220 ≤ address_inside setting a
      high = above setting a placed laid.room

      says : ControlSays (stores leaves b) (around_at setting a).current (around_at setting a).link (around_at setting a).handlers_cell (around_at setting a).bindings_cell
      says =
          let t = f.reached.kept.world.things in
          let back = f.reached.back.control in
          let l : List Put = of_control 0 (around_at setting a).current ∷ of_control 4 (around_at setting a).link ∷ [] in
          let bs : List Block = a.y.arena.blocks in
          record {
            current_word = control_back setting t (record_of record_words) bs blocks (address_inside setting a) aligned high 0 l refl (omega arith) refl;
            link_word = control_back setting t (record_of record_words) bs blocks (address_inside setting a) aligned high 4 l refl (omega arith) refl;
            handlers_word =
                control_back setting t (record_of record_words) bs blocks (address_inside setting a) aligned high 20 l refl (omega arith) refl
                ∙ control_stays setting t (record_of record_words) bs blocks (address_inside setting a) aligned high 20 (around_at setting a).handlers_cell (omega arith) (back.handlers (around_at setting a).handlers_cell laid.control.handlers_word);
            bindings_word =
                control_back setting t (record_of record_words) bs blocks (address_inside setting a) aligned high 24 l refl (omega arith) refl
                ∙ control_stays setting t (record_of record_words) bs blocks (address_inside setting a) aligned high 24 (around_at setting a).bindings_cell (omega arith) (back.bindings (around_at setting a).bindings_cell laid.control.bindings_word);
          }

      -- what was taken inside was charged there, and the block is given back
      taken : ChargedFrom a.z a.y r.state y3
      taken =
          let inner = f.reached.back.charged in
          let fewer = words_left setting a laid in
          let arena = f.reached.kept.world.things.represents.arena in
          let room = arena.room in
          let enough_words = arena.blocks in
          let before : words_of q.state.arena.blocks ≡ words_of (record_of record_words ∷ a.y.arena.blocks) = ap words_of blocks in
          let from = stored_from leaves b in
          let heap = laid.heap in
          let stack = laid.stack in
          omega (arith, inner, fewer, room, enough_words, before, from, heap, stack)

      reached : ReachedFrom setting c2 a a.d (world_back setting a laid f.reached.kept.world {own = own} {count = count} {forms = forms} {numbers = numbers} {exits = x ∷ a.around.exits} 6 f.reached.kept.registers f.reached.kept.activation placed blocks leaves (left_controls (around_at setting a).current (around_at setting a).link) (q.state.cost + 22 + 6 + 10 + 2)) r.state g3 y3
      reached =
          reached_outside setting a laid f.reached.kept.world {own = own} {count = count} {forms = forms} {numbers = numbers} {exits = x ∷ a.around.exits} 6 f.reached.kept.registers f.reached.kept.activation placed blocks leaves
          (left_controls (around_at setting a).current (around_at setting a).link) (q.state.cost + 22 + 6 + 10 + 2) g3
          (length-set (slice_set q.registers (a.d + 7) (Some 0)) a.d (Some f.word) ∙ length-set q.registers (a.d + 7) (Some 0))
          (λ i few. set_elsewhere (slice_set q.registers (a.d + 7) (Some 0)) a.d i (Some f.word) (λ e. omega (arith, e, few)) ∙ set_elsewhere q.registers (a.d + 7) i (Some 0) (λ e. omega (arith, e, few)))
          refl says taken
          (let paid = f.reached.back.paid in let there = laid.paid in let up = laid.units_there in omega (arith, paid, there, up, enough))

      -- **the body fell out**
      pub falls_out : EndsAt setting c2 a r (landed outside catch (mid_go_on q rest))
      falls_out =
          subst (λ p. EndsAt setting c2 a r p) (sym code_is)
          (done (record {
            result = f.result;
            outcome = f.outcome;
            end = refl;
            w' = world_back setting a laid f.reached.kept.world {own = own} {count = count} {forms = forms} {numbers = numbers} {exits = x ∷ a.around.exits} 6 f.reached.kept.registers f.reached.kept.activation placed blocks leaves (left_controls (around_at setting a).current (around_at setting a).link) (q.state.cost + 22 + 6 + 10 + 2);
            reached = reached;
            word = f.word;
            in_register =
                register_here (slice_set q.registers (a.d + 7) (Some 0)) a.d f.word
                (let same = size f.reached.kept.registers in let wide = length-set q.registers (a.d + 7) (Some 0) in omega (arith, same, wide, there));
            of_value = f.of_value;
          }))

    -- ---- the landing

    module _ (r : FlatEvaluated) (q : MidOutcome) (t : LeftFrom setting c1 inside (a.d + 6) r q) (to : record_inside setting a (for_exit x) ≡ t.transfer.to)
        (same_exit : (x.number == t.transfer.exit_number) ≡ true) where
      abbrev v : ℕ
      v = t.transfer.word

      blocks_then : q.state.arena.blocks ≡ record_of record_words ∷ a.y.arena.blocks
      blocks_then = blocks_here setting a laid first 6 m begins c1 c2 enough t to

      abbrev lands : List (ℕ × ℕ)
      lands = landed_stores (around_at setting a).current (around_at setting a).link (around_at setting a).handlers_cell (around_at setting a).bindings_cell

      abbrev g1 : Registers
      g1 = slice_set q.registers a.d (Some t.transfer.word)

      abbrev g4 : Registers
      g4 = slice_set (slice_set q.registers a.d (Some t.transfer.word)) (a.d + 6) (Some 0)

      abbrev closed : Block
      closed = record (record_of record_words) { kind = closed_record }

      abbrev yc : MidState
      yc = with_arena (with_blocks (closed ∷ a.y.arena.blocks) q.state.arena) q.state

      abbrev b4 : Arena
      b4 = with_blocks a.y.arena.blocks q.state.arena

      abbrev y4 : MidState
      y4 = touched lands b4 (q.state.cost + 38 + 10) q.state

      abbrev world_then : WorldKept setting w t.transfer.w' z r.state y q.state
      world_then = t.transfer.world

      spot_then : SpotStands q.state.arena (control_spot setting)
      spot_then = control_of setting world_then.things

      kept_there : (i : ℕ) (o : Option ℕ) → a.d + 1 ≤ i → i < a.d + 6 → register i regs ≡ o → register i g1 ≡ o
      kept_there i o high low e =
          register_beside q.registers a.d i (Some t.transfer.word) (λ same. omega (arith, same, high)) ∙ held t.registers i o (omega (arith, high)) low e

      size_then : length g1 ≡ length a.regs
      size_then = length-set q.registers a.d (Some t.transfer.word) ∙ size t.registers

      landing_runs : exec c (code_of (landing_steps a.d)) g1 yc ≡ ends falls g4 (with_stores lands 38 yc)
      landing_runs =
          record_steps_law.landed c g1 (a.d + 1) (a.d + 6) (around_at setting a).current (around_at setting a).link (around_at setting a).handlers_cell (around_at setting a).bindings_cell yc
          (omega arith) (let same = size_then in omega (arith, same, there))
          (kept_there (a.d + 1 + 1) _ (omega arith) (omega arith) laid.current_held) (kept_there (a.d + 1 + 2) _ (omega arith) (omega arith) laid.link_held)
          (kept_there (a.d + 1 + 3) _ (omega arith) (omega arith) laid.handlers_held) (kept_there (a.d + 1 + 4) _ (omega arith) (omega arith) laid.bindings_held)
          (control_lent setting (spot_stands q.state.arena yc.arena (control_spot setting) refl refl refl (omega arith) spot_then))

      catch_is : catch t.transfer.word q.registers q.state ≡ ends falls g4 y4
      unfolding mid_go_on
      catch_is =
          closes (record_of record_words) a.y.arena.blocks (λ rs x. mid_go_on (exec c (code_of (landing_steps a.d)) (slice_set rs a.d (Some t.transfer.word)) x) (give_back outside)) q.registers q.state blocks_then refl
          ∙ ap (λ p. mid_go_on p (give_back outside)) landing_runs ∙ gives_back closed a.y.arena.blocks g4 (with_stores lands 38 yc) refl refl

      says_then : ControlSays (stores lands b4) (around_at setting a).current (around_at setting a).link (around_at setting a).handlers_cell (around_at setting a).bindings_cell
      says_then =
          let o = around_at setting a in
          let l : List Put = of_control 0 o.current ∷ of_control 4 o.link ∷ of_control 20 o.handlers_cell ∷ of_control 24 o.bindings_cell ∷ [] in
          let al = at_aligned setting a placed laid.room in
          let high = above setting a placed laid.room in
          record {
            current_word = control_back setting world_then.things (record_of record_words) a.y.arena.blocks blocks_then (address_inside setting a) al high 0 l refl (omega arith) refl;
            link_word = control_back setting world_then.things (record_of record_words) a.y.arena.blocks blocks_then (address_inside setting a) al high 4 l refl (omega arith) refl;
            handlers_word = control_back setting world_then.things (record_of record_words) a.y.arena.blocks blocks_then (address_inside setting a) al high 20 l refl (omega arith) refl;
            bindings_word = control_back setting world_then.things (record_of record_words) a.y.arena.blocks blocks_then (address_inside setting a) al high 24 l refl (omega arith) refl;
          }

      abbrev controls_then : AreControls lands
      controls_then = landed_controls (around_at setting a).current (around_at setting a).link (around_at setting a).handlers_cell (around_at setting a).bindings_cell

      abbrev world_landed : World
      world_landed = world_back setting a laid world_then {own = own} {count = count} {forms = forms} {numbers = numbers} {exits = x ∷ a.around.exits} 6 t.registers t.activation placed blocks_then lands controls_then (q.state.cost + 38 + 10)

      same_length : length (t.transfer.to ∷ t.transfer.outer) ≡ length (record_inside setting a (for_exit x) ∷ a.rs)
      same_length = ap length (sym (stops_here setting a laid first 6 m begins c1 c2 enough t same_exit))

      reached_landed : ReachedFrom setting c2 a a.d world_landed r.state g4 y4
      reached_landed =
          reached_outside setting a laid world_then {own = own} {count = count} {forms = forms} {numbers = numbers} {exits = x ∷ a.around.exits} 6 t.registers t.activation placed blocks_then lands controls_then
          (q.state.cost + 38 + 10) g4
          (length-set g1 (a.d + 6) (Some 0) ∙ length-set q.registers a.d (Some t.transfer.word))
          (λ i few. set_elsewhere g1 (a.d + 6) i (Some 0) (λ e. omega (arith, e, few)) ∙ set_elsewhere q.registers a.d i (Some t.transfer.word) (λ e. omega (arith, e, few)))
          refl says_then
          (charged_back setting a laid world_then {own = own} {count = count} {forms = forms} {numbers = numbers} {exits = x ∷ a.around.exits} 6 t.registers t.activation placed blocks_then lands controls_then (q.state.cost + 38 + 10)
          t.transfer.charged)
          (let paid = t.transfer.paid in let there = laid.paid in let up = laid.units_there in let same = same_length in omega (arith, paid, there, up, same, enough))

      -- **a transfer landed**
      pub lands_then : EndsAt setting c2 a (gives t.transfer.result r.state) (catch t.transfer.word q.registers q.state)
      lands_then =
          subst (λ p. EndsAt setting c2 a (gives t.transfer.result r.state) p) (sym catch_is)
          (done (record {
            result = t.transfer.result;
            outcome = refl;
            end = refl;
            w' = world_landed;
            reached = reached_landed;
            word = t.transfer.word;
            in_register =
                register_beside g1 (a.d + 6) a.d (Some 0) (λ e. omega (arith, e))
                ∙ register_here q.registers a.d t.transfer.word (let same = size t.registers in omega (arith, same, there));
            of_value = t.transfer.of_value;
          }))
