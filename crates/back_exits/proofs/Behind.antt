-- Behind a form with a cleanup: where it fell out, and where a transfer landed at its record.
use Rattle.std.proofs.Common.{◌≡◌, ℕ, ◌+◌, ◌<◌, ◌≤◌, Bool, true, false, List, [], ◌∷◌, ◌++◌, length, Option, Some, None, refl, sym, ap, ◌∙◌, arith}
use Rattle.std.specs.Prelude.{◌%◌, ◌==◌, ◌||◌, if◌then◌else◌, slice_get, slice_set, map}
use Rattle.std.proofs.Math.ListN.{length-set}
use Rattle.flat_language.specs.FlatState.{FlatState, FlatEvaluated}
use Rattle.mid_code.specs.Arena.{Arena, Block, words_of, record_of, closed_record, blocks_from, word_in, word_at, with_word, with_blocks}
use Rattle.mid_code.specs.Meaning.{Context, exec, give_back, run_landing}
use Rattle.mid_code.specs.MidCode.{code_of}
use Rattle.mid_code.specs.State.{Registers, register, falls, ends, MidState, MidOutcome, Next, with_arena, jumped, landed}
use Rattle.mid_code.specs.State.{charged as mid_charged, go_on as mid_go_on}
use Rattle.mid_arena.specs.Standing.{SpotStands}
use Rattle.mid_arena.specs.Growing.{Grows}
use Rattle.mid_arena.proofs.Growing.{spot_below, spot_stands}
use Rattle.mid_arena.proofs.Memory.{grows_closed}
use Rattle.mid_arena.proofs.Lists.{set_elsewhere}
use Rattle.mid_arena.proofs.Registers.{register_here, register_beside}
use Rattle.mid_arena.proofs.Running.{RunsTo, and_then, none_left, parts_then, move_falls, constant_falls, load_falls, store_falls, address_above}
use Rattle.back_lowering.specs.ControlWords.{control_address, record_words, link_address, target_address, landing_address}
use Rattle.back_lowering.specs.Records.{record_left, record_landed}
use Rattle.back_lowering.specs.Scope.{behind_cleanup}
use Rattle.back_lowering.specs.Steps.{Steps, move, constant, load, store}
use Rattle.back_relation.specs.Setting.{Setting, control_spot}
use Rattle.back_relation.specs.Placed.{IsPlaced}
use Rattle.back_relation.specs.Worlds.{World, for_cleanup, Standing, is_cleanup, first_stop}
use Rattle.back_relation.specs.StackWords.{HasWordAt}
use Rattle.back_relation.specs.Activation.{NoSlot, RegistersKept, inside_cleanup}
use Rattle.back_relation.specs.Ends.{ChargedFrom, Transfers}
use Rattle.back_relation.specs.Forms.{Begins, code_at}
use Rattle.back_relation.specs.Starts.{Start, FellFrom, ReachedFrom, LeftFrom}
use Rattle.back_relation.specs.Stores.{stores}
use Rattle.back_relation.proofs.Parts.{go_on_falls}
use Rattle.back_relation.proofs.Windows.{stored_lent}
use Rattle.back_exits.specs.Inside.{around_at, address_inside, record_inside, LaidAt}
use Rattle.back_exits.specs.RecordSteps.{ControlSays, left_stores, landed_stores, with_stores}
use Rattle.back_exits.specs.Touching.{touched}
use Rattle.back_exits.proofs.Inside.{words_left, found_new}
use Rattle.back_exits.proofs.Landing.{left_controls, control_back, control_stays}
use Rattle.back_exits.proofs.Laying.{record_steps_law}
use Rattle.back_exits.proofs.Leaving.{AreControls, world_back, reached_outside, outside_kept, charged_back, activation_back, registers_back}
use Rattle.back_exits.proofs.Puts.{Put, of_control, or_before, last_control, control_stands}
use Rattle.back_exits.proofs.Steps.{gives_back, closes}
use Rattle.back_exits.proofs.Touching.{stored_from}
use Rattle.back_exits.proofs.Words.{control_lent, control_there, control_of, above, at_aligned}
use Rattle.back_exits.proofs.Outside.{Came}
use Rattle.back_exits.proofs.Scopes.{reaching}

abbrev pub behind_form : ℕ → Steps
behind_form d = record_left (d + 1) (d + 7) ++ (move d (d + 6) ∷ constant (d + 1) 0 ∷ [])

abbrev pub landing_loads : ℕ → Steps
landing_loads d = load (d + 1) (d + 6) target_address ∷ load (d + 2) (d + 6) landing_address ∷ store (d + 1) (d + 6) link_address ∷ []

abbrev pub landing_steps : ℕ → Steps
landing_steps d = record_landed (d + 1) (d + 6) ++ landing_loads d

-- what is stored where a transfer landed at a cleanup: the link is the target then
abbrev pub during_stores : (current link handlers bindings target : ℕ) → List (ℕ × ℕ)
during_stores current link handlers bindings target = landed_stores current link handlers bindings ++ ((link_address, target) ∷ [])

pub during_controls : (current link handlers bindings target : ℕ) → AreControls (during_stores current link handlers bindings target)
during_controls current link handlers bindings target = (
  refl,
  (omega arith, omega arith),
  (λ e. absurd (omega (arith, e))),
  (
    refl,
    (omega arith, omega arith),
    (λ e. absurd (omega (arith, e))),
    (
      refl,
      (omega arith, omega arith),
      (λ e. absurd (omega (arith, e))),
      (refl, (omega arith, omega arith), (λ e. absurd (omega (arith, e))), (refl, (omega arith, omega arith), (λ e. absurd (omega (arith, e))), tt)),
    ),
  ),
)

-- a transfer stops at a cleanup's record, wherever it goes
cleanup_stops : (t : ℕ) (r : Standing) (rs : List Standing) → is_cleanup r.role ≡ true → first_stop t (r ∷ rs) ≡ r ∷ rs
cleanup_stops t r rs e = ap (λ b. if b then r ∷ rs else first_stop t rs) (either (r.address == t) (is_cleanup r.role) e)
  where
    either : (b c : Bool) → c ≡ true → (b || c) ≡ true
    either true c h = refl
    either false c h = h

module _ (setting : Setting) (placed : IsPlaced setting) (k turns : ℕ) (a : Start setting) {cost : ℕ} {w : World} {z : FlatState} {regs : Registers} {y : MidState}
    (laid : LaidAt setting a 0 cost for_cleanup (around_at setting a).link w z regs y) (m : ℕ)
    (begins : Begins setting (record_inside setting a for_cleanup ∷ a.rs) a.valid (inside_cleanup a.s) (a.d + 6) m w a.env a.around z regs y) (there : a.d + 8 ≤ length a.regs) where
  abbrev pub outside : ℕ
  outside = length a.y.arena.blocks

  abbrev pub c : Context
  c = code_at setting k turns

  abbrev pub inside : Start setting
  inside = record {
    turns = a.turns;
    rs = record_inside setting a for_cleanup ∷ a.rs;
    valid = a.valid;
    s = inside_cleanup a.s;
    d = a.d + 6;
    n = m;
    w = w;
    env = a.env;
    around = a.around;
    z = z;
    regs = regs;
    y = y;
    begins = begins;
  }

  abbrev pub after : Next
  after rs y = jumped (give_back outside rs y)

  abbrev pub rest : Next
  rest rs y = mid_go_on (exec c (code_of (behind_form a.d)) rs y) after

  abbrev pub catch : ℕ → Next
  catch v rs y = run_landing outside a.d (λ rs x. exec c (code_of (landing_steps a.d)) rs x) v rs y

  not_slot : (r : ℕ) → a.d ≤ r → NoSlot a.s.code r
  not_slot r high n e = let low = a.begins.scope.slots_below n r e in omega (arith, low, high)

  module _ {g : Registers} (kept : RegistersKept (inside_cleanup a.s).code (a.d + 6) regs g) where
    held : (r : ℕ) (o : Option ℕ) → a.d ≤ r → r < a.d + 6 → register r regs ≡ o → register r g ≡ o
    held r o high low e = ap word_in (kept.same r low (not_slot r high)) ∙ e

    size : length g ≡ length a.regs
    size = kept.count ∙ laid.count

  aligned : address_inside setting a % 4 ≡ 0
  aligned = at_aligned setting a placed laid.room

  high : 220 ≤ address_inside setting a
  high = above setting a placed laid.room

  -- ---- the form fell out

  module _ {c1 : ℕ} (r : FlatEvaluated) (q : MidOutcome) (f : FellFrom setting c1 inside (a.d + 6) r q) where
    pub blocks : q.state.arena.blocks ≡ record_of record_words ∷ a.y.arena.blocks
    blocks = f.reached.back.blocks ∙ laid.blocks

    abbrev leaves : List (ℕ × ℕ)
    leaves = left_stores (around_at setting a).current (around_at setting a).link

    abbrev pub g3 : Registers
    g3 = slice_set (slice_set (slice_set q.registers (a.d + 7) (Some 0)) a.d (Some f.word)) (a.d + 1) (Some 0)

    abbrev b : Arena
    b = with_blocks a.y.arena.blocks q.state.arena

    abbrev pub y3 : MidState
    y3 = touched (left_stores (around_at setting a).current (around_at setting a).link) (with_blocks a.y.arena.blocks q.state.arena) (q.state.cost + 22 + 6 + 6 + 10 + 2) q.state

    spot : SpotStands q.state.arena (control_spot setting)
    spot = control_of setting f.reached.kept.world.things

    runs : RunsTo c (code_of (behind_form a.d)) q.registers q.state (ends falls g3 (mid_charged 6 (mid_charged 6 (with_stores leaves 22 q.state))))
    runs =
        parts_then (record_left (a.d + 1) (a.d + 7)) (move a.d (a.d + 6) ∷ constant (a.d + 1) 0 ∷ [])
        (record {
          same =
              record_steps_law.left c q.registers (a.d + 1) (a.d + 7) (around_at setting a).current (around_at setting a).link q.state (omega arith)
              (let same = size f.reached.kept.registers in omega (arith, same, there))
              (held f.reached.kept.registers (a.d + 1 + 1) _ (omega arith) (omega arith) laid.current_held)
              (held f.reached.kept.registers (a.d + 1 + 2) _ (omega arith) (omega arith) laid.link_held) (control_lent setting spot);
        })
        (and_then (move_falls (register_beside q.registers (a.d + 7) (a.d + 6) (Some 0) (λ e. omega (arith, e)) ∙ f.in_register)) (and_then constant_falls none_left))

    pub fell_code : landed outside catch (mid_go_on q rest) ≡ ends falls g3 y3
    unfolding mid_go_on landed
    fell_code =
        ap (landed outside catch) (go_on_falls q rest f.end) ∙ ap (λ p. landed outside catch (mid_go_on p after)) runs.same
        ∙ ap (λ p. landed outside catch (jumped p)) (gives_back (record_of record_words) a.y.arena.blocks g3 (mid_charged 6 (mid_charged 6 (with_stores leaves 22 q.state))) blocks refl)

    says : ControlSays (stores leaves b) (around_at setting a).current (around_at setting a).link (around_at setting a).handlers_cell (around_at setting a).bindings_cell
    says =
        let t = f.reached.kept.world.things in
        let back = f.reached.back.control in
        let l : List Put = of_control 0 (around_at setting a).current ∷ of_control 4 (around_at setting a).link ∷ [] in
        let bs : List Block = a.y.arena.blocks in
        record {
          current_word = control_back setting t (record_of record_words) bs blocks (address_inside setting a) aligned high 0 l refl (omega arith) refl;
          link_word = control_back setting t (record_of record_words) bs blocks (address_inside setting a) aligned high 4 l refl (omega arith) refl;
          handlers_word =
              control_back setting t (record_of record_words) bs blocks (address_inside setting a) aligned high 20 l refl (omega arith) refl
              ∙ control_stays setting t (record_of record_words) bs blocks (address_inside setting a) aligned high 20 (around_at setting a).handlers_cell (omega arith)
              (back.handlers (around_at setting a).handlers_cell laid.control.handlers_word);
          bindings_word =
              control_back setting t (record_of record_words) bs blocks (address_inside setting a) aligned high 24 l refl (omega arith) refl
              ∙ control_stays setting t (record_of record_words) bs blocks (address_inside setting a) aligned high 24 (around_at setting a).bindings_cell (omega arith)
              (back.bindings (around_at setting a).bindings_cell laid.control.bindings_word);
        }

    taken : ChargedFrom a.z a.y r.state y3
    taken =
        let inner = f.reached.back.charged in
        let fewer = words_left setting a laid in
        let arena = f.reached.kept.world.things.represents.arena in
        let room = arena.room in
        let enough_words = arena.blocks in
        let before : words_of q.state.arena.blocks ≡ words_of (record_of record_words ∷ a.y.arena.blocks) = ap words_of blocks in
        let from = stored_from leaves b in
        let heap = laid.heap in
        let stack = laid.stack in
        omega (arith, inner, fewer, room, enough_words, before, from, heap, stack)

    abbrev pub w3 : World
    w3 =
        world_back setting a laid f.reached.kept.world {own = map (reaching behind_cleanup) a.s.code.exits} {count = a.s.flat.exits} {forms = a.s.exits.own} {numbers = a.env.exits} {exits = a.around.exits} 6
        f.reached.kept.registers f.reached.kept.activation placed blocks leaves (left_controls (around_at setting a).current (around_at setting a).link) (q.state.cost + 22 + 6 + 6 + 10 + 2)

    pub fell_reached : ReachedFrom setting (c1 + cost + 46) a a.d w3 r.state g3 y3
    fell_reached =
        reached_outside setting a laid f.reached.kept.world {own = map (reaching behind_cleanup) a.s.code.exits} {count = a.s.flat.exits} {forms = a.s.exits.own} {numbers = a.env.exits} {exits = a.around.exits} 6
        f.reached.kept.registers f.reached.kept.activation placed blocks leaves (left_controls (around_at setting a).current (around_at setting a).link) (q.state.cost + 22 + 6 + 6 + 10 + 2) g3
        (length-set (slice_set (slice_set q.registers (a.d + 7) (Some 0)) a.d (Some f.word)) (a.d + 1) (Some 0) ∙ length-set (slice_set q.registers (a.d + 7) (Some 0)) a.d (Some f.word) ∙ length-set q.registers (a.d + 7) (Some 0))
        (λ i few.
        set_elsewhere (slice_set (slice_set q.registers (a.d + 7) (Some 0)) a.d (Some f.word)) (a.d + 1) i (Some 0) (λ e. omega (arith, e, few))
        ∙ set_elsewhere (slice_set q.registers (a.d + 7) (Some 0)) a.d i (Some f.word) (λ e. omega (arith, e, few)) ∙ set_elsewhere q.registers (a.d + 7) i (Some 0) (λ e. omega (arith, e, few)))
        refl says taken
        (let paid = f.reached.back.paid in let there = laid.paid in let up = laid.units_there in omega (arith, paid, there, up))

    wide3 : a.d + 8 ≤ length (slice_set (slice_set q.registers (a.d + 7) (Some 0)) a.d (Some f.word))
    wide3 =
        let same = size f.reached.kept.registers in
        let first = length-set (slice_set q.registers (a.d + 7) (Some 0)) a.d (Some f.word) in
        let second = length-set q.registers (a.d + 7) (Some 0) in
        omega (arith, same, first, second, there)

    pub word_held : register a.d g3 ≡ Some f.word
    word_held =
        register_beside (slice_set (slice_set q.registers (a.d + 7) (Some 0)) a.d (Some f.word)) (a.d + 1) a.d (Some 0) (λ e. omega (arith, e))
        ∙ register_here (slice_set q.registers (a.d + 7) (Some 0)) a.d f.word
        (let wide = wide3 in let first = length-set (slice_set q.registers (a.d + 7) (Some 0)) a.d (Some f.word) in omega (arith, wide, first))

    pub none_held : register (a.d + 1) g3 ≡ Some 0
    none_held = register_here (slice_set (slice_set q.registers (a.d + 7) (Some 0)) a.d (Some f.word)) (a.d + 1) 0 (let wide = wide3 in omega (arith, wide))

  -- ---- a transfer landed

  module _ {c1 : ℕ} (r : FlatEvaluated) (q : MidOutcome) (t : LeftFrom setting c1 inside (a.d + 6) r q) where
    abbrev l : Transfers setting c1 (record_inside setting a for_cleanup ∷ a.rs) a.valid w a.around z y r q
    l = t.transfer

    all_here : record_inside setting a for_cleanup ∷ a.rs ≡ l.to ∷ l.outer
    all_here = sym (cleanup_stops l.target.address (record_inside setting a for_cleanup) a.rs refl) ∙ l.stop

    pub to_here : record_inside setting a for_cleanup ≡ l.to
    to_here = cc all_here

    pub blocks_then : q.state.arena.blocks ≡ record_of record_words ∷ a.y.arena.blocks
    blocks_then =
        let found : blocks_from (length y.arena.memory) y.arena.blocks (record_inside setting a for_cleanup).address ≡ Some q.state.arena.blocks =
        ap (λ (s : Standing). blocks_from (length y.arena.memory) y.arena.blocks s.address) to_here ∙ l.blocks in
        cc (sym found ∙ found_new setting a laid)

    target_word : HasWordAt q.state target_address l.target.address
    target_word = l.pending (ap (λ (s : Standing). is_cleanup s.role) (sym to_here))

    abbrev lands : List (ℕ × ℕ)
    lands = landed_stores (around_at setting a).current (around_at setting a).link (around_at setting a).handlers_cell (around_at setting a).bindings_cell

    abbrev all_stores : List (ℕ × ℕ)
    all_stores = during_stores (around_at setting a).current (around_at setting a).link (around_at setting a).handlers_cell (around_at setting a).bindings_cell t.transfer.target.address

    abbrev h1 : Registers
    h1 = slice_set q.registers a.d (Some t.transfer.word)

    abbrev h2 : Registers
    h2 = slice_set (slice_set q.registers a.d (Some t.transfer.word)) (a.d + 6) (Some 0)

    abbrev h3 : Registers
    h3 = slice_set (slice_set (slice_set q.registers a.d (Some t.transfer.word)) (a.d + 6) (Some 0)) (a.d + 1) (Some t.transfer.target.address)

    abbrev pub g4 : Registers
    g4 =
        slice_set (slice_set (slice_set (slice_set q.registers a.d (Some t.transfer.word)) (a.d + 6) (Some 0)) (a.d + 1) (Some t.transfer.target.address)) (a.d + 2)
        (Some t.transfer.landing_word)

    abbrev closed : Block
    closed = record (record_of record_words) { kind = closed_record }

    abbrev yc : MidState
    yc = with_arena (with_blocks (closed ∷ a.y.arena.blocks) q.state.arena) q.state

    abbrev b4 : Arena
    b4 = with_blocks a.y.arena.blocks q.state.arena

    abbrev pub y4 : MidState
    y4 =
        touched (during_stores (around_at setting a).current (around_at setting a).link (around_at setting a).handlers_cell (around_at setting a).bindings_cell t.transfer.target.address)
        (with_blocks a.y.arena.blocks q.state.arena) (q.state.cost + 38 + 8 + 8 + 8 + 10) q.state

    spot_then : SpotStands q.state.arena (control_spot setting)
    spot_then = control_of setting l.world.things

    size_then : length h1 ≡ length a.regs
    size_then = length-set q.registers a.d (Some t.transfer.word) ∙ size t.registers

    size_two : length h2 ≡ length a.regs
    size_two = length-set h1 (a.d + 6) (Some 0) ∙ size_then

    kept_there : (i : ℕ) (o : Option ℕ) → a.d + 1 ≤ i → i < a.d + 6 → register i regs ≡ o → register i h1 ≡ o
    kept_there i o high low e =
        register_beside q.registers a.d i (Some t.transfer.word) (λ same. omega (arith, same, high)) ∙ held t.registers i o (omega (arith, high)) low e

    spot_closed : SpotStands yc.arena (control_spot setting)
    spot_closed = spot_stands q.state.arena yc.arena (control_spot setting) refl refl refl (omega arith) spot_then

    grows_yc : Grows q.state.arena yc.arena
    grows_yc = grows_closed (record_of record_words) a.y.arena.blocks l.world.things.represents.arena blocks_then refl

    abbrev landed_puts : List Put
    landed_puts =
        of_control 0 (around_at setting a).current ∷ of_control 4 (around_at setting a).link ∷ of_control 20 (around_at setting a).handlers_cell ∷ of_control 24 (around_at setting a).bindings_cell ∷ []

    -- control words that were not stored, in the closed block
    word_closed : (i n : ℕ) → i < 36 → i % 4 ≡ 0 → last_control i landed_puts ≡ None → HasWordAt q.state (control_address + i) n → word_at (stores lands yc.arena) (control_address + i) ≡ Some n
    word_closed i n few word none e =
        let low = spot_below l.world.things.represents.arena spot_then in
        control_stands (address_inside setting a) aligned high i landed_puts yc.arena refl few (control_lent setting spot_closed i few word) (control_there setting spot_closed grows_yc.heap.stands i few)
        ∙ ap (λ o. or_before o (word_at yc.arena (control_address + i))) none ∙ grows_yc.words (control_address + i) (omega (arith, low, few)) ∙ e

    landed_runs : exec c (code_of (record_landed (a.d + 1) (a.d + 6))) h1 yc ≡ ends falls h2 (with_stores lands 38 yc)
    landed_runs =
        record_steps_law.landed c h1 (a.d + 1) (a.d + 6) (around_at setting a).current (around_at setting a).link (around_at setting a).handlers_cell (around_at setting a).bindings_cell yc (omega arith)
        (let same = size_then in omega (arith, same, there)) (kept_there (a.d + 1 + 1) _ (omega arith) (omega arith) laid.current_held) (kept_there (a.d + 1 + 2) _ (omega arith) (omega arith) laid.link_held)
        (kept_there (a.d + 1 + 3) _ (omega arith) (omega arith) laid.handlers_held) (kept_there (a.d + 1 + 4) _ (omega arith) (omega arith) laid.bindings_held) (control_lent setting spot_closed)

    zero_two : register (a.d + 6) h2 ≡ Some 0
    zero_two = register_here h1 (a.d + 6) 0 (let same = size_then in omega (arith, same, there))

    zero_three : register (a.d + 6) h3 ≡ Some 0
    zero_three = register_beside h2 (a.d + 1) (a.d + 6) (Some t.transfer.target.address) (λ e. omega (arith, e)) ∙ zero_two

    pub target_held : register (a.d + 1) g4 ≡ Some t.transfer.target.address
    target_held =
        register_beside h3 (a.d + 2) (a.d + 1) (Some t.transfer.landing_word) (λ e. omega (arith, e))
        ∙ register_here h2 (a.d + 1) t.transfer.target.address (let same = size_two in omega (arith, same, there))

    pub landing_held : register (a.d + 2) g4 ≡ Some t.transfer.landing_word
    landing_held =
        register_here h3 (a.d + 2) t.transfer.landing_word
        (let same = size_two in let third = length-set h2 (a.d + 1) (Some t.transfer.target.address) in omega (arith, same, third, there))

    pub value_held : register a.d g4 ≡ Some t.transfer.word
    value_held =
        register_beside h3 (a.d + 2) a.d (Some t.transfer.landing_word) (λ e. omega (arith, e))
        ∙ register_beside h2 (a.d + 1) a.d (Some t.transfer.target.address) (λ e. omega (arith, e))
        ∙ register_beside h1 (a.d + 6) a.d (Some 0) (λ e. omega (arith, e))
        ∙ register_here q.registers a.d t.transfer.word (let same = size t.registers in omega (arith, same, there))

    loads_run : RunsTo c (code_of (landing_loads a.d)) h2 (with_stores lands 38 yc)
        (ends falls g4 (with_arena (with_word link_address t.transfer.target.address (stores lands yc.arena)) (mid_charged 8 (mid_charged 8 (mid_charged 8 (with_stores lands 38 yc))))))
    loads_run =
        and_then (load_falls zero_two (address_above 0 target_address target_address (omega arith) (omega arith)) (word_closed 12 t.transfer.target.address (omega arith) refl refl target_word))
        (and_then (load_falls zero_three (address_above 0 landing_address landing_address (omega arith) (omega arith)) (word_closed 16 t.transfer.landing_word (omega arith) refl refl t.transfer.landing_stands))
        (and_then
        (store_falls target_held (register_beside h3 (a.d + 2) (a.d + 6) (Some t.transfer.landing_word) (λ e. omega (arith, e)) ∙ zero_three)
        (address_above 0 link_address link_address (omega arith) (omega arith)) (stored_lent lands yc.arena link_address ∙ control_lent setting spot_closed 4 (omega arith) refl))
        none_left))

    pub catch_code : catch t.transfer.word q.registers q.state ≡ ends falls g4 y4
    unfolding mid_go_on
    catch_code =
        closes (record_of record_words) a.y.arena.blocks (λ rs x. mid_go_on (exec c (code_of (landing_steps a.d)) (slice_set rs a.d (Some t.transfer.word)) x) (give_back outside)) q.registers q.state blocks_then refl
        ∙ ap (λ p. mid_go_on p (give_back outside)) (parts_then (record_landed (a.d + 1) (a.d + 6)) (landing_loads a.d) (record { same = landed_runs }) loads_run).same
        ∙ gives_back closed a.y.arena.blocks g4
        (with_arena (with_word link_address t.transfer.target.address (stores lands yc.arena)) (mid_charged 8 (mid_charged 8 (mid_charged 8 (with_stores lands 38 yc))))) refl refl

    pub during_says : ControlSays (stores all_stores b4) (around_at setting a).current t.transfer.target.address (around_at setting a).handlers_cell (around_at setting a).bindings_cell
    during_says =
        let o = around_at setting a in
        let puts : List Put = of_control 0 o.current ∷ of_control 4 o.link ∷ of_control 20 o.handlers_cell ∷ of_control 24 o.bindings_cell ∷ of_control 4 t.transfer.target.address ∷ [] in
        record {
          current_word = control_back setting l.world.things (record_of record_words) a.y.arena.blocks blocks_then (address_inside setting a) aligned high 0 puts refl (omega arith) refl;
          link_word = control_back setting l.world.things (record_of record_words) a.y.arena.blocks blocks_then (address_inside setting a) aligned high 4 puts refl (omega arith) refl;
          handlers_word = control_back setting l.world.things (record_of record_words) a.y.arena.blocks blocks_then (address_inside setting a) aligned high 20 puts refl (omega arith) refl;
          bindings_word = control_back setting l.world.things (record_of record_words) a.y.arena.blocks blocks_then (address_inside setting a) aligned high 24 puts refl (omega arith) refl;
        }

    abbrev total : ℕ
    total = q.state.cost + 38 + 8 + 8 + 8 + 10

    abbrev controls_then : AreControls all_stores
    controls_then = during_controls (around_at setting a).current (around_at setting a).link (around_at setting a).handlers_cell (around_at setting a).bindings_cell t.transfer.target.address

    abbrev pub w4 : World
    w4 =
        world_back setting a laid l.world {own = map (reaching behind_cleanup) a.s.code.exits} {count = a.s.flat.exits} {forms = a.s.exits.own} {numbers = a.env.exits} {exits = a.around.exits} 6
        t.registers t.activation placed blocks_then all_stores controls_then total

    same_below : (i : ℕ) → i < a.d → slice_get g4 i ≡ slice_get q.registers i
    same_below i few =
        set_elsewhere h3 (a.d + 2) i (Some t.transfer.landing_word) (λ e. omega (arith, e, few)) ∙ set_elsewhere h2 (a.d + 1) i (Some t.transfer.target.address) (λ e. omega (arith, e, few))
        ∙ set_elsewhere h1 (a.d + 6) i (Some 0) (λ e. omega (arith, e, few)) ∙ set_elsewhere q.registers a.d i (Some t.transfer.word) (λ e. omega (arith, e, few))

    same_count : length g4 ≡ length q.registers
    same_count =
        length-set h3 (a.d + 2) (Some t.transfer.landing_word) ∙ length-set h2 (a.d + 1) (Some t.transfer.target.address) ∙ length-set h1 (a.d + 6) (Some 0)
        ∙ length-set q.registers a.d (Some t.transfer.word)

    pub landed_came : Came setting a (c1 + cost + 72) w4 r.state g4 y4
    landed_came = record {
      world =
          outside_kept setting a laid l.world {own = map (reaching behind_cleanup) a.s.code.exits} {count = a.s.flat.exits} {forms = a.s.exits.own} {numbers = a.env.exits} {exits = a.around.exits} 6
          t.registers t.activation placed blocks_then all_stores controls_then total;
      registers =
          registers_back setting a laid l.world {own = map (reaching behind_cleanup) a.s.code.exits} {count = a.s.flat.exits} {forms = a.s.exits.own} {numbers = a.env.exits} {exits = a.around.exits} 6
          t.registers t.activation placed blocks_then all_stores controls_then total g4 same_count same_below;
      blocks = refl;
      charged =
          charged_back setting a laid l.world {own = map (reaching behind_cleanup) a.s.code.exits} {count = a.s.flat.exits} {forms = a.s.exits.own} {numbers = a.env.exits} {exits = a.around.exits} 6
          t.registers t.activation placed blocks_then all_stores controls_then total t.transfer.charged;
      paid =
          let paid = l.paid in
          let there = laid.paid in
          let up = laid.units_there in
          let same : length (l.to ∷ l.outer) ≡ length (record_inside setting a for_cleanup ∷ a.rs) = ap length (sym all_here) in
          omega (arith, paid, there, up, same);
      activation =
          activation_back setting a laid l.world {own = map (reaching behind_cleanup) a.s.code.exits} {count = a.s.flat.exits} {forms = a.s.exits.own} {numbers = a.env.exits} {exits = a.around.exits} 6
          t.registers t.activation placed blocks_then all_stores controls_then total g4 same_below;
    }
