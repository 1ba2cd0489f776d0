-- Behind the segments of a turn, and at its landing: the record is gone, and the number of the segment that comes next is in its register.
use Rattle.std.proofs.Common.{◌≡◌, ℕ, ◌+◌, ◌*◌, ◌<◌, ◌≤◌, Bool, true, List, [], ◌∷◌, length, Option, Some, None, refl, sym, ap, ◌∙◌, subst, arith}
use Rattle.std.specs.Prelude.{◌/◌, ◌==◌, not, if◌then◌else◌, slice_get, slice_set}
use Rattle.std.proofs.lemmas.Bool.{eq-eqb, ne_eqb}
use Rattle.std.proofs.Math.ListN.{length-set}
use Rattle.lang_meaning.specs.Counts.{unit_cost}
use Rattle.lang_meaning.specs.declared.scope.ExitForm.{ExitForm}
use Rattle.lang_meaning.specs.declared.scope.ExitForm.TheVariants.{Tagbody}
use Rattle.lang_meaning.specs.State.{Exit, Landing, at_segment, at_site, value}
use Rattle.lang_meaning.specs.Values.{nil}
use Rattle.flat_language.specs.FlatState.{FlatState, FlatEvaluated}
use Rattle.mid_code.specs.declared.operation.Comparison.TheVariants.{Different}
use Rattle.mid_code.specs.Arena.{Arena, Block, words_of, record_of, closed_record, word_in, word_at, with_blocks}
use Rattle.mid_code.specs.Costs.{test_cost, jump_cost}
use Rattle.mid_code.specs.Law.{Grown}
use Rattle.mid_code.specs.Meaning.{Context, exec, give_back, run_landing, test}
use Rattle.mid_code.specs.MidCode.{code_of}
use Rattle.mid_code.specs.State.{Registers, register, falls, ends, MidState, MidOutcome, Next, charged, with_arena, jumped, landed}
use Rattle.mid_code.specs.State.{go_on as mid_go_on}
use Rattle.mid_code.proofs.Growth.{go_on_grown, exec_grown, levels_grow, turns_grow, after_inside_grown, run_landing_grown, jumped_grown, test_grown, same_grown}
use Rattle.mid_arena.specs.Standing.{SpotStands}
use Rattle.mid_arena.proofs.Growing.{spot_stands}
use Rattle.mid_arena.proofs.Lists.{set_elsewhere}
use Rattle.mid_arena.proofs.Registers.{register_here, register_beside}
use Rattle.mid_arena.proofs.Running.{and_then, none_left, parts_then, constant_falls, load_falls, address_above, test_true, test_false}
use Rattle.back_lowering.specs.ControlWords.{record_words, landing_address}
use Rattle.back_lowering.specs.declared.scope.OwnExit.{OwnExit}
use Rattle.back_lowering.specs.Records.{record_left, record_landed}
use Rattle.back_lowering.specs.Steps.{Steps, constant, load, test_of}
use Rattle.back_relation.specs.Setting.{Setting, control_spot}
use Rattle.back_relation.specs.Placed.{IsPlaced}
use Rattle.back_relation.specs.Worlds.{World, for_exit, LandsIn}
use Rattle.back_relation.specs.Activation.{NoSlot, RegistersKept}
use Rattle.back_relation.specs.Ends.{ChargedFrom, WorldKept, Reached, LandingIs, landing_cost}
use Rattle.back_relation.specs.Forms.{Begins, code_at}
use Rattle.back_relation.specs.Starts.{Start, ReachedFrom, LeftFrom, FellNil}
use Rattle.back_relation.specs.Stores.{stores}
use Rattle.back_relation.proofs.Parts.{go_on_falls}
use Rattle.back_relation.proofs.Windows.{stored_elsewhere}
use Rattle.back_exits.specs.Inside.{scope_with, environment_with, around_with, around_at, address_inside, record_inside, LaidAt, IsInnermost}
use Rattle.back_exits.specs.RecordSteps.{ControlSays, left_stores, landed_stores, with_stores}
use Rattle.back_exits.specs.Touching.{touched}
use Rattle.back_exits.proofs.Exits.{start_inside, stops_here, blocks_here}
use Rattle.back_exits.proofs.Inside.{words_left}
use Rattle.back_exits.proofs.Landing.{left_controls, control_back, control_stays}
use Rattle.back_exits.proofs.Laying.{record_steps_law}
use Rattle.back_exits.proofs.Leaving.{AreControls, controls_aligned, world_back, reached_outside, charged_back}
use Rattle.back_exits.proofs.Puts.{Put, of_control}
use Rattle.back_exits.proofs.Steps.{gives_back, closes}
use Rattle.back_exits.proofs.Touching.{stored_from}
use Rattle.back_exits.proofs.Words.{control_lent, control_of, above, at_aligned}
use Rattle.back_exits.specs.Turns.{turn_landed, turn_credit}

landed_controls : (current link handlers bindings : ℕ) → AreControls (landed_stores current link handlers bindings)
landed_controls current link handlers bindings = (
  refl,
  (omega arith, omega arith),
  (λ e. absurd (omega (arith, e))),
  (
    refl,
    (omega arith, omega arith),
    (λ e. absurd (omega (arith, e))),
    (refl, (omega arith, omega arith), (λ e. absurd (omega (arith, e))), (refl, (omega arith, omega arith), (λ e. absurd (omega (arith, e))), tt)),
  ),
)

-- the segment at which a transfer to a tagbody's exit lands
pub record SegmentOf (segments : ℕ) (landing : Landing) : Type 0 where
  pub number : ℕ
  pub is : landing ≡ at_segment number
  pub there : number < segments

pub segment_landed : (segments : ℕ) (o : Option (Option ExitForm)) (landing : Landing) → o ≡ Some (Some (Tagbody segments)) → LandsIn o landing → SegmentOf segments landing
segment_landed segments o landing e h = by landing (subst (λ p. LandsIn p landing) e h)
  where
    by : (l : Landing) → LandsIn (Some (Some (Tagbody segments))) l → SegmentOf segments l
    by (at_segment i) h = record { number = i; is = refl; there = h }
    by (at_site place) h = absurd h

module _ (setting : Setting) (placed : IsPlaced setting) (k turns : ℕ) (a : Start setting) {units cost : ℕ} {x : Exit} {w : World} {z : FlatState} {regs : Registers} {y : MidState}
    (laid : LaidAt setting a units cost (for_exit x) (address_inside setting a) w z regs y) (first : IsInnermost setting a x w z)
    {own : List OwnExit} {count : ℕ} {forms : List ExitForm} {numbers : List ℕ} (m : ℕ)
    (begins : Begins setting (record_inside setting a (for_exit x) ∷ a.rs) (record_inside setting a (for_exit x) ∷ a.valid) (scope_with count forms own a.s) (a.d + 6) m w
    (environment_with numbers a.env) (around_with (x ∷ a.around.exits) a.around) z regs y) (there : a.d + 9 ≤ length a.regs) (segments : ℕ) (further : Next)
    (further_grows : (g : Registers) (y : MidState) → Grown y (further g y).state) where
  abbrev pub outside : ℕ
  outside = length a.y.arena.blocks

  abbrev pub c : Context
  c = code_at setting k turns

  abbrev pub after : Next
  after rs y = jumped (give_back outside rs y)

  abbrev pub rest : Next
  rest rs y = mid_go_on (exec c (code_of (record_left (a.d + 1) (a.d + 7))) rs y) after

  abbrev pub catch : ℕ → Next
  catch v rs y = run_landing outside (a.d + 7) (λ rs x. exec c (code_of (turn_landed a.d)) rs x) v rs y

  -- the test of the loop, and another turn
  abbrev pub again_next : Next
  again_next rs y = mid_go_on (jumped (exec c (code_of []) rs y)) further

  abbrev pub test_next : Next
  test_next rs y = test (test_of Different (a.d + 6) (a.d + 7)) again_next (ends falls) rs y

  abbrev counted : Steps
  counted = constant (a.d + 7) segments ∷ []

  abbrev pub next : Next
  next rs y = mid_go_on (exec c (code_of counted) rs y) test_next

  abbrev pub inside : Start setting
  inside = start_inside setting a laid first {own = own} {count = count} {forms = forms} {numbers = numbers} 6 m begins

  code_grown : (ss : Steps) (rs : Registers) (y : MidState) → Grown y (exec c (code_of ss) rs y).state
  code_grown ss rs y =
      exec_grown c (levels_grow setting.procedures setting.turns_each k) (turns_grow setting.procedures _ (levels_grow setting.procedures setting.turns_each k) turns) (code_of ss) rs y

  pub rest_grows : (rs : Registers) (y : MidState) → Grown y (rest rs y).state
  rest_grows rs y = go_on_grown (exec c (code_of (record_left (a.d + 1) (a.d + 7))) rs y) after y (code_grown (record_left (a.d + 1) (a.d + 7)) rs y) (λ rs' y'. after_inside_grown outside rs' y')

  pub catch_grows : (v : ℕ) (rs : Registers) (y : MidState) → Grown y (catch v rs y).state
  catch_grows v rs y = run_landing_grown outside (a.d + 7) (λ rs x. exec c (code_of (turn_landed a.d)) rs x) v rs y (λ rs' y'. code_grown (turn_landed a.d) rs' y')

  test_grows : (rs : Registers) (y : MidState) → Grown y (test_next rs y).state
  test_grows rs y =
      test_grown (test_of Different (a.d + 6) (a.d + 7)) again_next (ends falls) rs y (λ g y. go_on_grown _ _ y (jumped_grown _ y (code_grown [] g y)) further_grows) (λ g y. same_grown y)

  pub next_grows : (rs : Registers) (y : MidState) → Grown y (next rs y).state
  next_grows rs y = go_on_grown (exec c (code_of counted) rs y) test_next y (code_grown counted rs y) test_grows

  again_is : (rs : Registers) (y : MidState) → again_next rs y ≡ further rs (charged jump_cost y)
  unfolding exec mid_go_on
  again_is rs y = refl

  -- with the number of segments in the other register
  module _ (g : Registers) (y1 : MidState) (size : a.d + 9 ≤ length g) where
    abbrev pub compared : Registers
    compared = slice_set g (a.d + 7) (Some segments)

    next_is : next g y1 ≡ test_next compared (charged 6 y1)
    unfolding mid_go_on
    next_is = ap (λ o. mid_go_on o test_next) (and_then {c = c} (constant_falls {c = c} {to = a.d + 7} {w = segments} {rs = g} {z = y1}) none_left).same

    seventh : register (a.d + 7) compared ≡ Some segments
    seventh = register_here g (a.d + 7) segments (omega (arith, size))

    sixth : (i : ℕ) → register (a.d + 6) g ≡ Some i → register (a.d + 6) compared ≡ Some i
    sixth i e = register_beside g (a.d + 7) (a.d + 6) (Some segments) (λ s. omega (arith, s)) ∙ e

    pub next_ends : register (a.d + 6) g ≡ Some segments → next g y1 ≡ ends falls compared (charged test_cost (charged 6 y1))
    next_ends e =
        next_is
        ∙ test_false (test_of Different (a.d + 6) (a.d + 7)) again_next (ends falls) compared (charged 6 y1) (sixth segments e) seventh (ap not (eq-eqb segments segments refl))

    pub next_goes : (i : ℕ) → i < segments → register (a.d + 6) g ≡ Some i → next g y1 ≡ further compared (charged jump_cost (charged test_cost (charged 6 y1)))
    next_goes i few e =
        next_is
        ∙ test_true (test_of Different (a.d + 6) (a.d + 7)) again_next (ends falls) compared (charged 6 y1) (sixth i e) seventh (ap not (ne_eqb i segments (λ s. omega (arith, s, few))))
        ∙ again_is compared (charged test_cost (charged 6 y1))

  not_slot : (r : ℕ) → a.d ≤ r → NoSlot a.s.code r
  not_slot r high n e = let low = a.begins.scope.slots_below n r e in omega (arith, low, high)

  -- what was around is held in registers behind the segments
  module _ {g : Registers} (kept : RegistersKept (scope_with count forms own a.s).code (a.d + 6) regs g) where
    held : (r : ℕ) (o : Option ℕ) → a.d ≤ r → r < a.d + 6 → register r regs ≡ o → register r g ≡ o
    held r o high low e = ap word_in (kept.same r low (not_slot r high)) ∙ e

    size : length g ≡ length a.regs
    size = kept.count ∙ laid.count

  -- ---- behind the segments

  module _ (enough : cost + 58 ≤ unit_cost * units + turn_credit) (r : FlatEvaluated) (q : MidOutcome) (none : r.outcome ≡ value nil) (fell : q.end ≡ falls) (w2 : World)
      (reached : Reached setting 0 (scope_with count forms own a.s) (a.d + 6) (record_inside setting a (for_exit x) ∷ a.rs) (record_inside setting a (for_exit x) ∷ a.valid) w w2
      (environment_with numbers a.env) (around_with (x ∷ a.around.exits) a.around) z r.state regs q.registers y q.state) (last : register (a.d + 6) q.registers ≡ Some segments) where
    blocks : q.state.arena.blocks ≡ record_of record_words ∷ a.y.arena.blocks
    blocks = reached.back.blocks ∙ laid.blocks

    abbrev leaves : List (ℕ × ℕ)
    leaves = left_stores (around_at setting a).current (around_at setting a).link

    abbrev g2 : Registers
    g2 = slice_set q.registers (a.d + 7) (Some 0)

    abbrev b : Arena
    b = with_blocks a.y.arena.blocks q.state.arena

    abbrev total : ℕ
    total = q.state.cost + 22 + 10 + 2 + 6 + 12

    abbrev y3 : MidState
    y3 = touched leaves b total q.state

    size2 : length g2 ≡ length a.regs
    size2 = length-set q.registers (a.d + 7) (Some 0) ∙ size reached.kept.registers

    pub wide2 : a.d + 9 ≤ length g2
    wide2 = let same = size2 in omega (arith, same, there)

    spot : SpotStands q.state.arena (control_spot setting)
    spot = control_of setting reached.kept.world.things

    left_so : exec c (code_of (record_left (a.d + 1) (a.d + 7))) q.registers q.state ≡ ends falls g2 (with_stores leaves 22 q.state)
    left_so =
        record_steps_law.left c q.registers (a.d + 1) (a.d + 7) (around_at setting a).current (around_at setting a).link q.state (omega arith)
        (let same = size reached.kept.registers in omega (arith, same, there))
        (held reached.kept.registers (a.d + 1 + 1) _ (omega arith) (omega arith) laid.current_held)
        (held reached.kept.registers (a.d + 1 + 2) _ (omega arith) (omega arith) laid.link_held) (control_lent setting spot)

    six : register (a.d + 6) g2 ≡ Some segments
    six = register_beside q.registers (a.d + 7) (a.d + 6) (Some 0) (λ e. omega (arith, e)) ∙ last

    given_back : landed outside catch (mid_go_on q rest) ≡ ends falls g2 (touched leaves b (q.state.cost + 22 + 10 + 2) q.state)
    unfolding mid_go_on landed
    given_back =
        ap (landed outside catch) (go_on_falls q rest fell) ∙ ap (λ p. landed outside catch (mid_go_on p after)) left_so
        ∙ ap (λ p. landed outside catch (jumped p)) (gives_back (record_of record_words) a.y.arena.blocks g2 (with_stores leaves 22 q.state) blocks refl)

    pub leaves_so : mid_go_on (landed outside catch (mid_go_on q rest)) next ≡ ends falls (compared g2 (touched leaves b (q.state.cost + 22 + 10 + 2) q.state) wide2) y3
    unfolding mid_go_on
    leaves_so =
        ap (λ p. mid_go_on p next) given_back
        ∙ next_ends g2 (touched leaves b (q.state.cost + 22 + 10 + 2) q.state) wide2 six

    says : ControlSays (stores leaves b) (around_at setting a).current (around_at setting a).link (around_at setting a).handlers_cell (around_at setting a).bindings_cell
    says =
        let t = reached.kept.world.things in
        let back = reached.back.control in
        let aligned = at_aligned setting a placed laid.room in
        let high = above setting a placed laid.room in
        let l : List Put = of_control 0 (around_at setting a).current ∷ of_control 4 (around_at setting a).link ∷ [] in
        let bs : List Block = a.y.arena.blocks in
        record {
          current_word = control_back setting t (record_of record_words) bs blocks (address_inside setting a) aligned high 0 l refl (omega arith) refl;
          link_word = control_back setting t (record_of record_words) bs blocks (address_inside setting a) aligned high 4 l refl (omega arith) refl;
          handlers_word =
              control_back setting t (record_of record_words) bs blocks (address_inside setting a) aligned high 20 l refl (omega arith) refl
              ∙ control_stays setting t (record_of record_words) bs blocks (address_inside setting a) aligned high 20 (around_at setting a).handlers_cell (omega arith) (back.handlers (around_at setting a).handlers_cell laid.control.handlers_word);
          bindings_word =
              control_back setting t (record_of record_words) bs blocks (address_inside setting a) aligned high 24 l refl (omega arith) refl
              ∙ control_stays setting t (record_of record_words) bs blocks (address_inside setting a) aligned high 24 (around_at setting a).bindings_cell (omega arith) (back.bindings (around_at setting a).bindings_cell laid.control.bindings_word);
        }

    taken : ChargedFrom a.z a.y r.state y3
    taken =
        let inner = reached.back.charged in
        let fewer = words_left setting a laid in
        let arena = reached.kept.world.things.represents.arena in
        let room = arena.room in
        let enough_words = arena.blocks in
        let before : words_of q.state.arena.blocks ≡ words_of (record_of record_words ∷ a.y.arena.blocks) = ap words_of blocks in
        let from = stored_from leaves b in
        let heap = laid.heap in
        let stack = laid.stack in
        omega (arith, inner, fewer, room, enough_words, before, from, heap, stack)

    abbrev world_left : World
    world_left = world_back setting a laid reached.kept.world {own = own} {count = count} {forms = forms} {numbers = numbers} {exits = x ∷ a.around.exits} 6 reached.kept.registers reached.kept.activation placed blocks leaves (left_controls (around_at setting a).current (around_at setting a).link) total

    reached_left : ReachedFrom setting turn_credit a a.d world_left r.state (compared g2 (touched leaves b (q.state.cost + 22 + 10 + 2) q.state) wide2) y3
    reached_left =
        reached_outside setting a laid reached.kept.world {own = own} {count = count} {forms = forms} {numbers = numbers} {exits = x ∷ a.around.exits} 6 reached.kept.registers reached.kept.activation placed blocks leaves
        (left_controls (around_at setting a).current (around_at setting a).link) total (compared g2 (touched leaves b (q.state.cost + 22 + 10 + 2) q.state) wide2)
        (length-set g2 (a.d + 7) (Some segments) ∙ length-set q.registers (a.d + 7) (Some 0))
        (λ i few. set_elsewhere g2 (a.d + 7) i (Some segments) (λ e. omega (arith, e, few)) ∙ set_elsewhere q.registers (a.d + 7) i (Some 0) (λ e. omega (arith, e, few)))
        refl says taken
        (let paid = reached.back.paid in let there = laid.paid in let up = laid.units_there in omega (arith, paid, there, up, enough))

    -- **the segments fell out**, and so does the loop
    pub falls_out : FellNil setting turn_credit a r (ends falls (compared g2 (touched leaves b (q.state.cost + 22 + 10 + 2) q.state) wide2) y3)
    falls_out = record {
      outcome = none;
      end = refl;
      w' = world_left;
      reached = reached_left;
      spare = let paid = reached.back.paid in let there = laid.paid in let up = laid.units_there in omega (arith, paid, there, up, enough);
    }

  -- ---- the landing

  module _ (enough : 0 + cost + 48 ≤ unit_cost * units + turn_credit) (within : cost ≤ unit_cost * units + 174) (r : FlatEvaluated) (q : MidOutcome) (t : LeftFrom setting 0 inside (a.d + 6) r q)
      (to : record_inside setting a (for_exit x) ≡ t.transfer.to) (same_exit : (x.number == t.transfer.exit_number) ≡ true) (segment : SegmentOf segments t.transfer.landing) where
    pub blocks_then : q.state.arena.blocks ≡ record_of record_words ∷ a.y.arena.blocks
    blocks_then = blocks_here setting a laid first {own = own} {count = count} {forms = forms} {numbers = numbers} 6 m begins 0 turn_credit enough t to

    abbrev lands : List (ℕ × ℕ)
    lands = landed_stores (around_at setting a).current (around_at setting a).link (around_at setting a).handlers_cell (around_at setting a).bindings_cell

    abbrev h1 : Registers
    h1 = slice_set q.registers (a.d + 7) (Some t.transfer.word)

    abbrev h2 : Registers
    h2 = slice_set h1 (a.d + 8) (Some 0)

    abbrev h3 : Registers
    h3 = slice_set h2 (a.d + 6) (Some segment.number)

    abbrev closed : Block
    closed = record (record_of record_words) { kind = closed_record }

    abbrev yc : MidState
    yc = with_arena (with_blocks (closed ∷ a.y.arena.blocks) q.state.arena) q.state

    abbrev b4 : Arena
    b4 = with_blocks a.y.arena.blocks q.state.arena

    abbrev y4 : MidState
    y4 = touched lands b4 (q.state.cost + 38 + 8 + 10) q.state

    abbrev total_then : ℕ
    total_then = q.state.cost + 38 + 8 + 10 + 6 + 12 + 2

    abbrev pub state_landed : MidState
    state_landed = touched lands b4 total_then q.state

    abbrev world_then : WorldKept setting w t.transfer.w' z r.state y q.state
    world_then = t.transfer.world

    spot_then : SpotStands q.state.arena (control_spot setting)
    spot_then = control_of setting world_then.things

    kept_there : (i : ℕ) (o : Option ℕ) → a.d ≤ i → i < a.d + 6 → register i regs ≡ o → register i h1 ≡ o
    kept_there i o high low e = register_beside q.registers (a.d + 7) i (Some t.transfer.word) (λ same. omega (arith, same, low)) ∙ held t.registers i o high low e

    size_then : length h1 ≡ length a.regs
    size_then = length-set q.registers (a.d + 7) (Some t.transfer.word) ∙ size t.registers

    size_two : length h2 ≡ length a.regs
    size_two = length-set h1 (a.d + 8) (Some 0) ∙ size_then

    size_three : length h3 ≡ length a.regs
    size_three = length-set h2 (a.d + 6) (Some segment.number) ∙ size_two

    pub wide3 : a.d + 9 ≤ length h3
    wide3 = let same = size_three in omega (arith, same, there)

    pub controls_then : AreControls lands
    controls_then = landed_controls (around_at setting a).current (around_at setting a).link (around_at setting a).handlers_cell (around_at setting a).bindings_cell

    -- the number of the segment is where the transfer put it
    number_word : t.transfer.landing_word ≡ segment.number
    number_word = subst (λ l. LandingIs setting t.transfer.landing_word l) segment.is t.transfer.landing_is

    spot_closed : SpotStands yc.arena (control_spot setting)
    spot_closed = spot_stands q.state.arena yc.arena (control_spot setting) refl refl refl (omega arith) spot_then

    landing_same : word_at yc.arena landing_address ≡ word_at q.state.arena landing_address
    landing_same =
        let found : Option ℕ = word_in (slice_get q.state.arena.memory (landing_address / 4)) in
        ap (λ (b : Bool). if b then found else None) (control_lent setting spot_closed 16 (omega arith) refl)
        ∙ sym (ap (λ (b : Bool). if b then found else None) (control_lent setting spot_then 16 (omega arith) refl))

    landing_there : word_at (stores lands yc.arena) landing_address ≡ Some segment.number
    landing_there =
        stored_elsewhere lands yc.arena landing_address (controls_aligned lands controls_then)
        ((λ e. omega (arith, e)), ((λ e. omega (arith, e)), ((λ e. omega (arith, e)), ((λ e. omega (arith, e)), tt))))
        ∙ landing_same ∙ t.transfer.landing_stands ∙ ap Some number_word

    landing_runs : exec c (code_of (turn_landed a.d)) h1 yc ≡ ends falls h3 (charged 8 (with_stores lands 38 yc))
    landing_runs =
        (parts_then (record_landed (a.d + 1) (a.d + 8)) (load (a.d + 6) (a.d + 8) landing_address ∷ [])
        (record {
          same =
              record_steps_law.landed c h1 (a.d + 1) (a.d + 8) (around_at setting a).current (around_at setting a).link (around_at setting a).handlers_cell (around_at setting a).bindings_cell yc
              (omega arith) (let same = size_then in omega (arith, same, there))
              (kept_there (a.d + 1 + 1) _ (omega arith) (omega arith) laid.current_held) (kept_there (a.d + 1 + 2) _ (omega arith) (omega arith) laid.link_held)
              (kept_there (a.d + 1 + 3) _ (omega arith) (omega arith) laid.handlers_held) (kept_there (a.d + 1 + 4) _ (omega arith) (omega arith) laid.bindings_held)
              (control_lent setting spot_closed);
        })
        (and_then
        (load_falls (register_here h1 (a.d + 8) 0 (let same = size_then in omega (arith, same, there))) (address_above 0 landing_address landing_address (omega arith) (omega arith)) landing_there)
        none_left)).same

    catch_is : catch t.transfer.word q.registers q.state ≡ ends falls h3 y4
    unfolding mid_go_on
    catch_is =
        closes (record_of record_words) a.y.arena.blocks (λ rs x. mid_go_on (exec c (code_of (turn_landed a.d)) (slice_set rs (a.d + 7) (Some t.transfer.word)) x) (give_back outside)) q.registers q.state blocks_then refl
        ∙ ap (λ p. mid_go_on p (give_back outside)) landing_runs ∙ gives_back closed a.y.arena.blocks h3 (charged 8 (with_stores lands 38 yc)) refl refl

    abbrev pub registers_landed : Registers
    registers_landed = compared h3 y4 wide3

    -- **a transfer landed**, and another turn begins
    pub lands_so : mid_go_on (catch t.transfer.word q.registers q.state) next ≡ further registers_landed state_landed
    unfolding mid_go_on
    lands_so =
        ap (λ p. mid_go_on p next) catch_is
        ∙ next_goes h3 y4 wide3 segment.number segment.there (register_here h2 (a.d + 6) segment.number (let same = size_two in omega (arith, same, there)))

    says_then : ControlSays (stores lands b4) (around_at setting a).current (around_at setting a).link (around_at setting a).handlers_cell (around_at setting a).bindings_cell
    says_then =
        let o = around_at setting a in
        let l : List Put = of_control 0 o.current ∷ of_control 4 o.link ∷ of_control 20 o.handlers_cell ∷ of_control 24 o.bindings_cell ∷ [] in
        let al = at_aligned setting a placed laid.room in
        let high = above setting a placed laid.room in
        record {
          current_word = control_back setting world_then.things (record_of record_words) a.y.arena.blocks blocks_then (address_inside setting a) al high 0 l refl (omega arith) refl;
          link_word = control_back setting world_then.things (record_of record_words) a.y.arena.blocks blocks_then (address_inside setting a) al high 4 l refl (omega arith) refl;
          handlers_word = control_back setting world_then.things (record_of record_words) a.y.arena.blocks blocks_then (address_inside setting a) al high 20 l refl (omega arith) refl;
          bindings_word = control_back setting world_then.things (record_of record_words) a.y.arena.blocks blocks_then (address_inside setting a) al high 24 l refl (omega arith) refl;
        }

    abbrev pub world_landed : World
    world_landed = world_back setting a laid world_then {own = own} {count = count} {forms = forms} {numbers = numbers} {exits = x ∷ a.around.exits} 6 t.registers t.activation placed blocks_then lands controls_then total_then

    same_length : length (t.transfer.to ∷ t.transfer.outer) ≡ length (record_inside setting a (for_exit x) ∷ a.rs)
    same_length = ap length (sym (stops_here setting a laid first {own = own} {count = count} {forms = forms} {numbers = numbers} 6 m begins 0 turn_credit enough t same_exit))

    pub reached_landed : ReachedFrom setting 0 a a.d world_landed r.state registers_landed state_landed
    reached_landed =
        reached_outside setting a laid world_then {own = own} {count = count} {forms = forms} {numbers = numbers} {exits = x ∷ a.around.exits} 6 t.registers t.activation placed blocks_then lands controls_then
        total_then registers_landed
        (length-set h3 (a.d + 7) (Some segments) ∙ length-set h2 (a.d + 6) (Some segment.number) ∙ length-set h1 (a.d + 8) (Some 0) ∙ length-set q.registers (a.d + 7) (Some t.transfer.word))
        (λ i few. same_below i few)
        refl says_then
        (charged_back setting a laid world_then {own = own} {count = count} {forms = forms} {numbers = numbers} {exits = x ∷ a.around.exits} 6 t.registers t.activation placed blocks_then lands controls_then total_then
        t.transfer.charged)
        (let paid = t.transfer.paid in
        let aside : landing_cost t.transfer.landing ≡ 250 = ap landing_cost segment.is in
        let there = laid.paid in
        let up = laid.units_there in
        let same = same_length in
        omega (arith, paid, aside, there, up, same, within))
      where
        same_below : (i : ℕ) → i < a.d → slice_get registers_landed i ≡ slice_get q.registers i
        same_below i few =
            set_elsewhere h3 (a.d + 7) i (Some segments) (λ e. omega (arith, e, few)) ∙ set_elsewhere h2 (a.d + 6) i (Some segment.number) (λ e. omega (arith, e, few))
            ∙ set_elsewhere h1 (a.d + 8) i (Some 0) (λ e. omega (arith, e, few)) ∙ set_elsewhere q.registers (a.d + 7) i (Some t.transfer.word) (λ e. omega (arith, e, few))

    -- the serial number is where it was, and the segment's number is there
    pub serial_landed : (e : ℕ) → register a.d regs ≡ Some e → register a.d registers_landed ≡ Some e
    serial_landed e h =
        register_beside h3 (a.d + 7) a.d (Some segments) (λ s. omega (arith, s)) ∙ register_beside h2 (a.d + 6) a.d (Some segment.number) (λ s. omega (arith, s))
        ∙ register_beside h1 (a.d + 8) a.d (Some 0) (λ s. omega (arith, s)) ∙ kept_there a.d (Some e) (omega arith) (omega arith) h

    pub segment_landed_there : register (a.d + 6) registers_landed ≡ Some segment.number
    segment_landed_there =
        register_beside h3 (a.d + 7) (a.d + 6) (Some segments) (λ s. omega (arith, s))
        ∙ register_here h2 (a.d + 6) segment.number (let same = size_two in omega (arith, same, there))
