-- **The turns of a tagbody**: each is a level on both sides.
use Rattle.std.proofs.Common.{◌≡◌, ℕ, zero, suc, ◌+◌, ◌<◌, ◌≤◌, Bool, true, false, [], ◌∷◌, ◌++◌, length, Some, refl, sym, ap, ◌∙◌, subst, arith}
use Rattle.std.specs.Prelude.{◌^◌, nat_le, slice_get, slice_set}
use Rattle.std.proofs.lemmas.Bool.{leb-true, leb-false, eq-eqb}
use Rattle.lang_meaning.specs.declared.scope.ExitForm.TheVariants.{Tagbody}
use Rattle.lang_meaning.specs.Meaning.{segment_of}
use Rattle.lang_meaning.specs.Prefixes.{IsPrefix}
use Rattle.lang_meaning.specs.State.{DynamicContext, Landing}
use Rattle.lang_meaning.specs.Values.{Value, nil}
use Rattle.flat_language.specs.FlatForm.{FlatForms}
use Rattle.flat_language.specs.FlatMeaning.{from_segment, flat_meaning_at}
use Rattle.flat_language.specs.FlatNodes.{count_forms}
use Rattle.flat_language.specs.FlatSignals.{turn}
use Rattle.flat_language.specs.FlatState.{FlatEnvironment, FlatState, FlatEvaluated}
use Rattle.flat_language.specs.FlatState.{landed as flat_landed}
use Rattle.mid_code.specs.declared.operation.Comparison.TheVariants.{Different}
use Rattle.mid_code.specs.declared.operation.Counted.TheVariants.{Level}
use Rattle.mid_code.specs.Arena.{left}
use Rattle.mid_code.specs.Costs.{record_cost}
use Rattle.mid_code.specs.Law.{Grown}
use Rattle.mid_code.specs.Meaning.{again, Context, count, give_back, test, exec, exec_step, levels}
use Rattle.mid_code.specs.MidCode.{MidStep, MidCodes, code_of}
use Rattle.mid_code.specs.State.{Registers, no_room, falls, ends, MidState, MidOutcome, Next, jumped, landed}
use Rattle.mid_code.specs.State.{charged as mid_charged, go_on as mid_go_on}
use Rattle.mid_code.proofs.Growth.{levels_grow}
use Rattle.mid_arena.proofs.Running.{go_on_twice, in_two_parts}
use Rattle.back_lowering.specs.ControlWords.{record_words}
use Rattle.back_lowering.specs.Records.{record_left}
use Rattle.back_lowering.specs.Steps.{Steps, constant, test_of}
use Rattle.back_relation.specs.Setting.{Setting}
use Rattle.back_relation.specs.Placed.{IsPlaced}
use Rattle.back_relation.specs.Worlds.{for_exit, Standing}
use Rattle.back_relation.specs.Activation.{FormScope, NoSlot}
use Rattle.back_relation.specs.Ends.{done, left_by, full_there, stopped, few_turns}
use Rattle.back_relation.specs.Forms.{Begins, below_at, code_at}
use Rattle.back_relation.specs.Points.{Point, start_at}
use Rattle.back_relation.specs.Starts.{FlatGrown, Start, EndsAt, LeftFrom, FellNil, LoopEnds, ReachedFrom}
use Rattle.back_relation.proofs.FormGrowth.{below_grows}
use Rattle.back_relation.proofs.Growth.{both_flat, same_prefix}
use Rattle.back_relation.proofs.Levels.{level_none, level_again}
use Rattle.back_relation.proofs.Parts.{step_then}
use Rattle.back_relation.proofs.Points.{point_after}
use Rattle.back_relation.proofs.Then.{ends_behind, reached_then}
use Rattle.back_exits.specs.Inside.{environment_with, around_with, address_inside, record_inside, LaidAt, IsInnermost}
use Rattle.back_exits.specs.Known.{FormsKnown}
use Rattle.back_exits.proofs.BlockRecords.{no_words}
use Rattle.back_exits.proofs.Exits.{landed_grows}
use Rattle.back_exits.proofs.Inside.{around_exit, begins_inside}
use Rattle.back_exits.proofs.OwnExits.{more_exits, scope_with_exit}
use Rattle.back_exits.proofs.Steps.{record_runs, record_wanting}
use Rattle.back_exits.specs.Tagbodies.{SegmentsHere, LawOfTurns}
use Rattle.back_exits.specs.Turns.{segments_loop, turn_laid, turn_landed, turn_step, turns_loop, TurnBegins, with_own, turn_credit, inside_scope, segment_codes, turn_meant, TurnsHere}
use Rattle.back_exits.proofs.TagbodyEnding.{exit_then}
use Rattle.back_exits.proofs.Segments.{SegmentsEnded, segments_sim}
use Rattle.back_exits.proofs.Segments as segments
use Rattle.back_exits.proofs.TurnRecords.{Nine, nine_of, turn_exit, turn_block, laid_registers, laid_state, turn_lays, world_inside, turn_stands, turn_first, serial_there, segment_there}
use Rattle.back_exits.proofs.Turning.{SegmentOf, segment_landed, rest, catch, next, rest_grows, catch_grows, next_grows, leaves_so, falls_out, lands_so, world_landed, registers_landed, state_landed, reached_landed, serial_landed, segment_landed_there}

-- the meaning one level below
turn_below :
    (setting : Setting) (k : ℕ) (all : FlatForms) (e i : ℕ) (env : FlatEnvironment) (around : DynamicContext) (z : FlatState)
    → below_at setting (suc k) (turn e (from_segment i all) all) (with_own e env) around z ≡ turn_meant setting k all e i env around z
unfolding flat_meaning_at
turn_below setting zero all e i env around z = refl
turn_below setting (suc k) all e i env around z = refl

-- code that found no words is no loop that fell out
no_words_left :
    (setting : Setting) {c : ℕ} (a : Start setting) (r : FlatEvaluated) (asked left_then : ℕ) (regs : Registers) (y : MidState)
    → EndsAt setting c a r (ends (no_room asked left_then) regs y) → LoopEnds setting c a r (ends (no_room asked left_then) regs y)
no_words_left setting a r asked left_then regs y (done x) = absurd (cc x.end)
no_words_left setting a r asked left_then regs y (left_by x) = absurd (cc x.transfer.end)
no_words_left setting a r asked left_then regs y (full_there x) = full_there x
no_words_left setting a r asked left_then regs y (stopped x) = stopped x
no_words_left setting a r asked left_then regs y (few_turns x) = few_turns x

module _ (setting : Setting) (placed : IsPlaced setting) (s : FormScope) (d m n size k t : ℕ) (all : FlatForms) (known : FormsKnown s) (wide : d + 9 ≤ size) (enough : 8 + m ≤ n)
    (small : count_forms all < 2 ^ 32) (fewer : t ≤ setting.turns_each) (segments_here : SegmentsHere setting s d m size k t all)
    (below_here : (j : ℕ) → k ≡ suc j → TurnsHere setting s d n size j setting.turns_each all) where
  abbrev P : Type 0
  P = Point setting s d n size

  abbrev bodies : MidCodes
  bodies = segment_codes setting s d all

  abbrev the_loop : MidStep
  the_loop = turns_loop d (count_forms all) bodies

  abbrev c : Context
  c = code_at setting k t

  abbrev further : Next
  further g x = count c Level (again the_loop g) x

  further_grows : (g : Registers) (y : MidState) → Grown y (further g y).state
  further_grows g y = (levels_grow setting.procedures setting.turns_each k).at (again the_loop g) y

  -- ---- another turn, one level below

  goes_below :
      (p : P) (e i : ℕ) → TurnBegins d (count_forms all) e i p.w p.env p.around p.z p.regs
      → LoopEnds setting turn_credit (start_at setting s d n size t p) (below_at setting k (turn e (from_segment i all) all) (with_own e p.env) p.around p.z) (further p.regs p.y)
  goes_below p e i begins = by k refl
    where
      by : (j : ℕ) → k ≡ j → LoopEnds setting turn_credit (start_at setting s d n size t p) (below_at setting j (turn e (from_segment i all) all) (with_own e p.env) p.around p.z) (levels setting.procedures setting.turns_each j (again the_loop p.regs) p.y)
      by zero same =
          subst (λ q. LoopEnds setting turn_credit (start_at setting s d n size t p) (below_at setting zero (turn e (from_segment i all) all) (with_own e p.env) p.around p.z) q)
          (sym (level_none setting (again the_loop p.regs) p.y))
          (stopped (record {
            because = refl;
            printed = subst (λ ps. IsPrefix ps p.z.state.printed) (sym p.begins.call.things.represents.printed) (same_prefix p.z.state.printed);
            paid = λ ended. absurd (ended refl);
          }))
      by (suc j) same =
          subst (λ r. LoopEnds setting turn_credit (start_at setting s d n size t p) r (levels setting.procedures setting.turns_each (suc j) (again the_loop p.regs) p.y))
          (sym (turn_below setting j all e i p.env p.around p.z))
          (subst (λ q. LoopEnds setting turn_credit (start_at setting s d n size t p) (turn_meant setting j all e i p.env p.around p.z) q)
          (sym (level_again setting j the_loop p.regs p.y)) (fewer_said (below_here j same p e i begins)))
        where
          fewer_said : {r : FlatEvaluated} {q : MidOutcome} → LoopEnds setting turn_credit (start_at setting s d n size setting.turns_each p) r q → LoopEnds setting turn_credit (start_at setting s d n size t p) r q
          fewer_said (done x) = done (record { outcome = x.outcome; end = x.end; w' = x.w'; reached = x.reached; spare = x.spare })
          fewer_said (left_by x) = left_by x
          fewer_said (full_there x) = full_there x
          fewer_said (stopped x) = stopped x
          fewer_said (few_turns x) = few_turns (omega (arith, x, fewer))

  -- ---- the code of a turn

  abbrev step : MidStep
  step = turn_step d (count_forms all) bodies

  abbrev inside_steps : Steps
  inside_steps = turn_laid d ++ (segments_loop d (count_forms all) bodies ∷ record_left (d + 1) (d + 7))

  abbrev again_next : Next
  again_next rs y = mid_go_on (jumped (exec c (code_of []) rs y)) further

  abbrev test_next : Next
  test_next rs y = test (test_of Different (d + 6) (d + 7)) again_next (ends falls) rs y

  abbrev step_next : Next
  step_next rs y = mid_go_on (exec c (code_of (constant (d + 7) (count_forms all) ∷ [])) rs y) test_next

  loop_is : (regs : Registers) (y : MidState) → exec_step c the_loop regs y ≡ mid_go_on (exec_step c step regs y) step_next
  unfolding exec
  loop_is regs y = go_on_twice (exec_step c step regs y) (λ rs x. exec c (code_of (constant (d + 7) (count_forms all) ∷ [])) rs x) test_next

  module _ (p : P) (e i : ℕ) (turn_begins : TurnBegins d (count_forms all) e i p.w p.env p.around p.z p.regs) where
    abbrev a : Start setting
    a = start_at setting s d n size t p

    wide_here : d + 9 ≤ length p.regs
    wide_here = let same = p.count in omega (arith, wide, same)

    free : NoSlot (inside_scope setting s d all).code (d + 6)
    free n e = let low = p.begins.scope.slots_below n (d + 6) e in absurd (omega (arith, low))

    -- what the segments come to, and what a transfer to the exit goes on with
    abbrev within : FlatEvaluated
    within = segments.from setting (inside_scope setting s d all) d m size k all small (omega (arith, wide)) free i nil (with_own e p.env) (around_with (turn_exit e ∷ p.around.exits) p.around) p.z

    abbrev land : Value → Landing → FlatState → FlatEvaluated
    land v landing z = below_at setting k (turn e (from_segment (segment_of landing) all) all) (with_own e p.env) p.around z

    land_grows : (v : Value) (landing : Landing) (z : FlatState) → FlatGrown z (land v landing z).state
    land_grows v landing z = below_grows setting k (turn e (from_segment (segment_of landing) all) all) (with_own e p.env) p.around z

    abbrev result : FlatEvaluated
    result = flat_landed e land within

    within_grown : FlatGrown p.z within.state
    within_grown = segments.from_grows setting (inside_scope setting s d all) d m size k all small (omega (arith, wide)) free i nil (with_own e p.env) (around_with (turn_exit e ∷ p.around.exits) p.around) p.z

    grown : FlatGrown p.z result.state
    grown = both_flat within_grown (landed_grows setting e land land_grows within)

    module _ (room : 8 ≤ left p.y.arena) where
      abbrev win : Nine p.regs d
      win = nine_of p.regs d wide_here

      abbrev laid_then : MidState
      laid_then = turn_block setting placed k t a room win (count_forms all) e i turn_begins

      abbrev at : ℕ
      at = address_inside setting a

      abbrev regs1 : Registers
      regs1 = laid_registers setting placed k t a room win (count_forms all) e i turn_begins

      abbrev y1 : MidState
      y1 = laid_state setting placed k t a room win (count_forms all) e i turn_begins

      abbrev laid : LaidAt setting a 0 128 (for_exit (turn_exit e)) at (world_inside setting placed k t a room win (count_forms all) e i turn_begins) p.z regs1 y1
      laid = turn_stands setting placed k t a room win (count_forms all) e i turn_begins

      abbrev first : IsInnermost setting a (turn_exit e) (world_inside setting placed k t a room win (count_forms all) e i turn_begins) p.z
      first = turn_first setting placed k t a room win (count_forms all) e i turn_begins

      abbrev new : Standing
      new = record_inside setting a (for_exit (turn_exit e))

      abbrev begins : Begins setting (new ∷ p.rs) (new ∷ p.valid) (inside_scope setting s d all) (d + 6) m (world_inside setting placed k t a room win (count_forms all) e i turn_begins)
          (environment_with (p.env.exits ++ e ∷ []) p.env) (around_with (turn_exit e ∷ p.around.exits) p.around) p.z regs1 y1
      begins =
          begins_inside setting a laid (around_exit setting a laid first)
          (more_exits setting a laid (Tagbody (count_forms all)) known turn_begins.elder (serial_there setting placed k t a room win (count_forms all) e i turn_begins) turn_begins.form) 6 m
          (scope_with_exit a (Tagbody (count_forms all)) 6 (omega arith)) enough (let w = wide_here in omega (arith, w))

      abbrev point : Point setting (inside_scope setting s d all) (d + 6) m size
      point = record {
        rs = new ∷ p.rs;
        valid = new ∷ p.valid;
        w = world_inside setting placed k t a room win (count_forms all) e i turn_begins;
        env = environment_with (p.env.exits ++ e ∷ []) p.env;
        around = around_with (turn_exit e ∷ p.around.exits) p.around;
        z = p.z;
        regs = regs1;
        y = y1;
        begins = begins;
        count = laid.count ∙ p.count;
      }

      abbrev ran : MidOutcome
      ran = exec_step c (segments_loop d (count_forms all) bodies) regs1 y1

      abbrev rest_then : Next
      rest_then = rest setting placed k t a laid first m begins wide_here (count_forms all) further further_grows

      abbrev catch_then : ℕ → Next
      catch_then = catch setting placed k t a laid first m begins wide_here (count_forms all) further further_grows

      abbrev next_then : Next
      next_then = next setting placed k t a laid first m begins wide_here (count_forms all) further further_grows

      abbrev after : Next
      after rs y = jumped (give_back (length p.y.arena.blocks) rs y)

      step_is : exec_step c step p.regs p.y ≡ landed (length p.y.arena.blocks) catch_then (mid_go_on (exec c (code_of inside_steps) (slice_set p.regs (d + 1) (Some at)) laid_then) after)
      step_is = record_runs c (d + 1) record_words (d + 7) (code_of inside_steps) (code_of (turn_landed d)) p.regs p.y room

      inside_is : exec c (code_of inside_steps) (slice_set p.regs (d + 1) (Some at)) laid_then ≡ mid_go_on ran (λ rs y. exec c (code_of (record_left (d + 1) (d + 7))) rs y)
      unfolding mid_go_on
      inside_is =
          in_two_parts c (turn_laid d) (segments_loop d (count_forms all) bodies ∷ record_left (d + 1) (d + 7)) (slice_set p.regs (d + 1) (Some at)) laid_then
          ∙ ap (λ q. mid_go_on q (λ rs y. exec c (code_of (segments_loop d (count_forms all) bodies ∷ record_left (d + 1) (d + 7))) rs y)) (turn_lays setting placed k t a room win (count_forms all) e i turn_begins)
          ∙ step_then c (segments_loop d (count_forms all) bodies) (record_left (d + 1) (d + 7)) regs1 y1

      runs_so : exec_step c step p.regs p.y ≡ landed (length p.y.arena.blocks) catch_then (mid_go_on ran rest_then)
      runs_so =
          step_is
          ∙ ap (λ q. landed (length p.y.arena.blocks) catch_then (mid_go_on q after)) inside_is
          ∙ ap (landed (length p.y.arena.blocks) catch_then) (go_on_twice ran (λ rs y. exec c (code_of (record_left (d + 1) (d + 7))) rs y) after)

      -- a transfer to the exit landed
      module _ (l : LeftFrom setting 0 (start_at setting (inside_scope setting s d all) (d + 6) m size t point) (d + 6) within ran) (to : new ≡ l.transfer.to) (number : l.transfer.exit_number ≡ e) where
        segment : SegmentOf (count_forms all) l.transfer.landing
        segment =
            segment_landed (count_forms all) (slice_get l.transfer.w'.exit_forms l.transfer.exit_number) l.transfer.landing
            (ap (slice_get l.transfer.w'.exit_forms) number ∙ l.transfer.world.later.exit_forms e (Some (Tagbody (count_forms all))) turn_begins.form) l.transfer.lands

        reached : ReachedFrom setting 0 a d
            (world_landed setting placed k t a laid first m begins wide_here (count_forms all) further further_grows (omega arith) (omega arith) within ran l to (eq-eqb e l.transfer.exit_number (sym number)) segment)
            within.state
            (registers_landed setting placed k t a laid first m begins wide_here (count_forms all) further further_grows (omega arith) (omega arith) within ran l to (eq-eqb e l.transfer.exit_number (sym number)) segment)
            (state_landed setting placed k t a laid first m begins wide_here (count_forms all) further further_grows (omega arith) (omega arith) within ran l to (eq-eqb e l.transfer.exit_number (sym number)) segment)
        reached = reached_landed setting placed k t a laid first m begins wide_here (count_forms all) further further_grows (omega arith) (omega arith) within ran l to (eq-eqb e l.transfer.exit_number (sym number)) segment

        abbrev p5 : P
        p5 = point_after setting s d n size t p reached

        turn_then : TurnBegins d (count_forms all) e segment.number p5.w p5.env p5.around p5.z p5.regs
        turn_then = record {
          serial =
              serial_landed setting placed k t a laid first m begins wide_here (count_forms all) further further_grows (omega arith) (omega arith) within ran l to (eq-eqb e l.transfer.exit_number (sym number)) segment e
              (serial_there setting placed k t a room win (count_forms all) e i turn_begins);
          segment = segment_landed_there setting placed k t a laid first m begins wide_here (count_forms all) further further_grows (omega arith) (omega arith) within ran l to (eq-eqb e l.transfer.exit_number (sym number)) segment;
          there = segment.there;
          some = turn_begins.some;
          made = let old = turn_begins.made in let more = reached.kept.world.more_exits in omega (arith, old, more);
          form = reached.kept.world.later.exit_forms e (Some (Tagbody (count_forms all))) turn_begins.form;
          newest = turn_begins.newest;
          elder = turn_begins.elder;
        }

        lands : LoopEnds setting turn_credit a (land l.transfer.result l.transfer.landing within.state) (mid_go_on (catch_then l.transfer.word ran.registers ran.state) next_then)
        lands =
            subst (λ q. LoopEnds setting turn_credit a (land l.transfer.result l.transfer.landing within.state) q)
            (sym (lands_so setting placed k t a laid first m begins wide_here (count_forms all) further further_grows (omega arith) (omega arith) within ran l to (eq-eqb e l.transfer.exit_number (sym number)) segment))
            (subst (λ g. LoopEnds setting turn_credit a (below_at setting k (turn e (from_segment g all) all) (with_own e p.env) p.around within.state) (further p5.regs p5.y))
            (sym (ap segment_of segment.is))
            (ends_behind setting (omega arith) reached
            (λ f. record {
              outcome = f.outcome;
              end = f.end;
              w' = f.w';
              reached = reached_then setting (omega arith) reached (omega arith) f.reached;
              spare = omega (arith, reached.back.paid, f.spare);
            })
            (omega arith) within_grown.units (goes_below p5 e segment.number turn_then)))

      -- the turn, where its record was laid
      laid_sim : LoopEnds setting turn_credit a result (mid_go_on (landed (length p.y.arena.blocks) catch_then (mid_go_on ran rest_then)) next_then)
      laid_sim =
          exit_then setting a laid first 6 m begins 0 turn_credit (omega arith) rest_then catch_then next_then
          (rest_grows setting placed k t a laid first m begins wide_here (count_forms all) further further_grows)
          (catch_grows setting placed k t a laid first m begins wide_here (count_forms all) further further_grows)
          (next_grows setting placed k t a laid first m begins wide_here (count_forms all) further further_grows) land land_grows
          (SegmentsEnded setting 0 (inside_scope setting s d all) d m size (count_forms all) point within ran) (λ r q. FellNil setting turn_credit a r q) within ran (λ x. nil) (λ x. x.outcome)
          (λ x.
          subst (λ q. LoopEnds setting turn_credit a within q)
          (sym (leaves_so setting placed k t a laid first m begins wide_here (count_forms all) further further_grows (omega arith) within ran x.outcome x.end x.w' x.reached x.last))
          (done (falls_out setting placed k t a laid first m begins wide_here (count_forms all) further further_grows (omega arith) within ran x.outcome x.end x.w' x.reached x.last)))
          (λ l to number. lands l to number)
          (segments_sim setting (inside_scope setting s d all) d m size k all small (omega (arith, wide)) free t segments_here point i nil turn_begins.there
          (segment_there setting placed k t a room win (count_forms all) e i turn_begins))

    -- **a turn**
    pub turn_sim : LoopEnds setting turn_credit a (turn_meant setting k all e i p.env p.around p.z) (exec_step c the_loop p.regs p.y)
    unfolding mid_go_on
    turn_sim = subst (λ q. LoopEnds setting turn_credit a result q) (sym (loop_is p.regs p.y)) (by (nat_le 8 (left p.y.arena)) refl)
      where
        by : (b : Bool) → nat_le 8 (left p.y.arena) ≡ b → LoopEnds setting turn_credit a result (mid_go_on (exec_step c step p.regs p.y) step_next)
        by true same =
            let room = leb-true 8 (left p.y.arena) same in
            subst (λ q. LoopEnds setting turn_credit a result (mid_go_on q step_next)) (sym (runs_so room)) (laid_sim room)
        by false same =
            let few = leb-false 8 (left p.y.arena) same in
            subst (λ q. LoopEnds setting turn_credit a result (mid_go_on q step_next))
            (sym (record_wanting c (d + 1) record_words (d + 7) (code_of inside_steps) (code_of (turn_landed d)) p.regs p.y few))
            (no_words_left setting a result 8 (left p.y.arena) p.regs (mid_charged record_cost p.y) (no_words setting a record_cost (omega arith) result grown (omega (arith, enough)) few))

pub turns_law : LawOfTurns
turns_law setting s d m n size k turns all placed known wide enough small fewer segments_here below_here p e i begins =
    turn_sim setting placed s d m n size k turns all known wide enough small fewer segments_here below_here p e i begins
