-- **What the inside of a signal's exit comes to**: the handler is applied, and where it returns, a control error is signalled.
use Rattle.std.proofs.Common.{◌≡◌, ℕ, ◌+◌, ◌*◌, ◌<◌, ◌≤◌, true, false, List, [], ◌∷◌, length, Option, Some, None, refl, sym, ap, ◌∙◌, subst, arith}
use Rattle.std.specs.Prelude.{◌==◌, ◌%◌, slice_set}
use Rattle.std.proofs.lemmas.Bool.{ne_eqb}
use Rattle.lang_meaning.specs.Counts.{unit_cost}
use Rattle.lang_meaning.specs.Objects.{control_error_class}
use Rattle.lang_meaning.specs.State.{DynamicContext, Landing, at_segment, at_site, exit}
use Rattle.lang_meaning.specs.Values.{Value}
use Rattle.flat_language.specs.FlatSignals.{FlatContext, signal, apply_value}
use Rattle.flat_language.specs.FlatState.{FlatState, FlatEvaluated, charged, go_on}
use Rattle.flat_laws.proofs.Later.{later_kept}
use Rattle.flat_laws.proofs.Applied.{value_applies, signals}
use Rattle.flat_laws.specs.FlatLater.{FlatLater}
use Rattle.mid_code.specs.Arena.{record_of, left, is_lent, word_at, with_blocks}
use Rattle.mid_code.specs.Law.{Grown}
use Rattle.mid_code.specs.Meaning.{Context, exec, give_back, run_landing, called_from}
use Rattle.mid_code.specs.Meaning.{called as mid_called}
use Rattle.mid_code.specs.MidCode.{with_block, no_step, code_of}
use Rattle.mid_code.specs.State.{Registers, End, falls, returns, cuts, no_room, no_level, no_turn, halts, unhandled, exhausted, stuck, ends, MidState, MidOutcome, Next, jumped, landed, with_arena}
use Rattle.mid_code.specs.State.{go_on as mid_go_on}
use Rattle.mid_code.specs.State.{charged as mid_charged}
use Rattle.mid_code.proofs.Growth.{go_on_grown, landed_grown, called_grown, same_grown, exec_grown, levels_grow, turns_grow, after_inside_grown, run_landing_grown}
use Rattle.mid_arena.proofs.Growing.{spot_stands}
use Rattle.mid_arena.proofs.Running.{and_then, constant_falls, store_falls, address_above}
use Rattle.back_lowering.specs.ControlWords.{control_address, site_address}
use Rattle.back_lowering.specs.Records.{record_left}
use Rattle.back_lowering.specs.Routines.{function_routine, failing_routine}
use Rattle.back_lowering.specs.Steps.{Steps, constant, store, call}
use Rattle.back_relation.specs.Setting.{Setting, control_spot}
use Rattle.back_relation.specs.Placed.{IsPlaced}
use Rattle.back_relation.specs.Room.{applying_words, failing_words}
use Rattle.back_relation.specs.Worlds.{World, Standing, IsIn}
use Rattle.back_relation.specs.StackWords.{HasWordAt}
use Rattle.back_relation.specs.Things.{Things}
use Rattle.back_relation.specs.Around.{AroundStands, CallBegins, SiteStored}
use Rattle.back_relation.specs.Ends.{WorldKept, Around, Transfers, Returned, LeftCall, Because, ControlBack, Ends, CallEnds, done, left_by, full_there, stopped, few_turns, walk_cost, landing_cost}
use Rattle.back_relation.specs.Forms.{context_at, code_at}
use Rattle.back_relation.specs.Procedures.{called}
use Rattle.back_relation.specs.RoutineClaims.{WordIs, FunctionDoes, applying_credit}
use Rattle.back_relation.specs.Starts.{FlatGrown}
use Rattle.back_relation.specs.Stores.{stores}
use Rattle.back_relation.proofs.Growth.{grown_later, both_prefix, both_flat, then_value, then_other, then_grown}
use Rattle.back_relation.proofs.Parts.{go_on_last, step_then}
use Rattle.back_relation.proofs.Reaches.{first_stop_in}
use Rattle.back_relation.proofs.Straight.{things_units}
use Rattle.back_relation.proofs.Worlds.{word_later}
use Rattle.back_relation.proofs.Then.{because_then, stopped_last, transfers_then}
use Rattle.back_exits.specs.Touching.{touched}
use Rattle.back_exits.proofs.Exits.{cut_passes, stop_passes, blocks_fewer}
use Rattle.back_exits.proofs.Landing.{control_back, control_stays}
use Rattle.back_exits.proofs.Leaving.{AreControls}
use Rattle.back_exits.proofs.Puts.{Put, of_control, or_before, last_control}
use Rattle.back_exits.proofs.Steps.{record_runs, gives_back}
use Rattle.back_exits.proofs.Words.{control_lent, control_of}
use Rattle.back_exits.proofs.Bodies.{Passes, stopped_passes}
use Rattle.back_exits.proofs.LeavingRoutine.{tasks_below, signal_later, failing_used}
use Rattle.back_exits.proofs.Points.{point_begins}
use Rattle.back_exits.proofs.Returning.{call_steps}
use Rattle.back_exits.proofs.Within.{begins_less}
use Rattle.back_conditions.specs.Within.{making_credit}
use Rattle.back_leaving.specs.Leaving.{LeavesSo}
use Rattle.back_conditions.specs.Handled.{FailsPaid}
use Rattle.back_conditions.proofs.Blocks.{Opened, transfer_out, state_back, world_back, world_given, charged_given}
use Rattle.back_conditions.proofs.Argued.{at as argument_at, control, steps, opened, y_argued, w_argued, begins_argued, site_argued, arguments, argued}

-- ---- a call that does not return

pub called_ends : (q : MidOutcome) (d : ℕ) (rs : Registers) (e : End) → Passes e → q.end ≡ e → mid_called q d rs ≡ ends e rs q.state
unfolding mid_called
called_ends q d rs falls h same = absurd h
called_ends q d rs (returns w) h same = absurd h
called_ends q d rs (cuts n w) h same = ap (λ l. called_from l d rs q.state) same
called_ends q d rs (no_room asked left) h same = ap (λ l. called_from l d rs q.state) same
called_ends q d rs no_level h same = ap (λ l. called_from l d rs q.state) same
called_ends q d rs no_turn h same = ap (λ l. called_from l d rs q.state) same
called_ends q d rs (halts w) h same = ap (λ l. called_from l d rs q.state) same
called_ends q d rs (unhandled class site condition) h same = ap (λ l. called_from l d rs q.state) same
called_ends q d rs exhausted h same = ap (λ l. called_from l d rs q.state) same
called_ends q d rs stuck h same = ap (λ l. called_from l d rs q.state) same

called_returns : (q : MidOutcome) (d w : ℕ) (rs : Registers) → q.end ≡ returns w → mid_called q d rs ≡ ends falls (slice_set rs d (Some w)) q.state
unfolding mid_called
called_returns q d w rs same = ap (λ l. called_from l d rs q.state) same

-- a transfer, as the activation outside the call has it
unfoldable transfers_at :
    (setting : Setting) {c1 c : ℕ} {rs valid : List Standing} {w : World} {around : DynamicContext} {z : FlatState} {y : MidState} {r : FlatEvaluated} {q : MidOutcome} (regs : Registers) → c1 ≤ c
    → (t : Transfers setting c1 rs valid w around z y r q) → Transfers setting c rs valid w around z y r (ends (cuts t.to.outside t.word) regs q.state)
transfers_at setting regs enough t = record {
  exit_number = t.exit_number;
  result = t.result;
  landing = t.landing;
  outcome = t.outcome;
  target = t.target;
  valid_target = t.valid_target;
  to = t.to;
  outer = t.outer;
  stop = t.stop;
  word = t.word;
  end = refl;
  blocks = t.blocks;
  w' = t.w';
  of_value = t.of_value;
  world = t.world;
  charged = t.charged;
  paid = let paid = t.paid in omega (arith, paid, enough);
  pending = t.pending;
  landing_word = t.landing_word;
  landing_stands = t.landing_stands;
  landing_is = t.landing_is;
  lands = t.lands;
}

-- what inside it comes to
abbrev pub meant_inside : (context : FlatContext) → Value → Value → DynamicContext → FlatState → FlatEvaluated
meant_inside context h c around z =
    go_on (apply_value context (signal context) h (c ∷ []) around z) (λ v after. signal context control_error_class [] around after)

pub applied_later : (setting : Setting) (k : ℕ) (h c : Value) (around : DynamicContext) (z : FlatState) → FlatLater z (apply_value (context_at setting k) (signal (context_at setting k)) h (c ∷ []) around z).state
applied_later setting k h c around z =
    (value_applies {R = FlatLater} {k = later_kept} (context_at setting k) (tasks_below setting k) (signal (context_at setting k)) (signals {R = FlatLater} {k = later_kept} (context_at setting k) (tasks_below setting k)) h (c ∷ []) around z).grows

pub inside_grows : (setting : Setting) (k : ℕ) (h c : Value) (around : DynamicContext) (z : FlatState) → FlatGrown z (meant_inside (context_at setting k) h c around z).state
inside_grows setting k h c around z =
    both_flat (grown_later (applied_later setting k h c around z))
    (then_grown (apply_value (context_at setting k) (signal (context_at setting k)) h (c ∷ []) around z) (λ v after. signal (context_at setting k) control_error_class [] around after)
    (λ v after. grown_later (signal_later setting k control_error_class [] around after)))

-- the registers inside
abbrev pub regs_inside : (c_word mark_word r2 cell site at current link bindings drawn : ℕ) → (r5 r6 r16 r17 : Option ℕ) → Registers
regs_inside c_word mark_word r2 cell site at current link bindings drawn r5 r6 r16 r17 =
    Some c_word ∷ Some mark_word ∷ Some r2 ∷ Some 0 ∷ Some cell ∷ r5 ∷ r6 ∷ Some site ∷ Some at ∷ Some current ∷ Some link ∷ Some cell ∷ Some bindings ∷ Some drawn ∷ Some 0 ∷ Some 3 ∷ r16
    ∷ r17 ∷ []

-- what the application of a handler to its condition is paid
abbrev pub handler_credit : ℕ
handler_credit = applying_credit 1

abbrev pub inside_credit : ℕ
inside_credit = handler_credit + 108

-- **a transfer leaves it**: what registers hold, and what is paid where it goes to the exit of the signal
pub record LeftInside (setting : Setting) (rs valid : List Standing) (w : World) (around : DynamicContext) (z : FlatState) (y : MidState) (regs : Option ℕ → Option ℕ → Option ℕ → Option ℕ → Registers) (number : ℕ)
    (r : FlatEvaluated) (q : MidOutcome) : Type 0 where
  pub transfer : Transfers setting inside_credit rs valid w around z y r q
  pub frame : r.state.frame ≡ z.frame
  pub r5 : Option ℕ
  pub r6 : Option ℕ
  pub r16 : Option ℕ
  pub r17 : Option ℕ
  pub registers : q.registers ≡ regs r5 r6 r16 r17
  pub landing_paid :
      transfer.exit_number ≡ number
      → q.state.cost + 62 + walk_cost * length (transfer.to ∷ transfer.outer) + unit_cost * z.state.units ≤ y.cost + walk_cost * length rs + unit_cost * r.state.state.units + inside_credit

module _ (setting : Setting) (placed : IsPlaced setting) (k t : ℕ) (rs valid : List Standing) (w : World) (around : DynamicContext) (z : FlatState) (y : MidState)
    (begins : CallBegins setting rs valid (applying_words + 3) w around z y) (site : SiteStored setting around y) (h c : Value) (h_word c_word : ℕ)
    (of_handler : WordIs setting w h_word h) (of_condition : WordIs setting w c_word c) (mark_word r2 cell at current link bindings drawn number : ℕ) (some : 1 ≤ number) (room : 3 ≤ left y.arena) where
  abbrev things : Things setting w z y
  things = begins.things

  abbrev ar : AroundStands setting w rs valid around z y
  ar = begins.around_stands

  abbrev cx : Context
  cx = code_at setting k t

  abbrev pub tail : Steps
  tail =
      constant 5 0 ∷ store 7 5 site_address ∷ constant 5 control_error_class ∷ call 6 (failing_routine setting.at) (5 ∷ []) ∷ record_left 8 14

  abbrev pub rest : Steps
  rest = with_block 16 1 6 (code_of (steps setting placed k t rs valid w around z y things ar c c_word of_condition room)) (code_of []) ∷ tail

  abbrev pub regs : Option ℕ → Option ℕ → Option ℕ → Option ℕ → Registers
  regs r5 r6 r16 r17 = regs_inside c_word mark_word r2 cell site.0 at current link bindings drawn r5 r6 r16 r17

  abbrev pub InsideEnds : FlatEvaluated → MidOutcome → Type 0
  InsideEnds r q = Ends setting (inside_credit + unit_cost) ⊥ (LeftInside setting rs valid w around z y regs number r q) t z y r q

  abbrev n : ℕ
  n = length y.arena.blocks

  abbrev after : Next
  after g x = jumped (give_back n g x)

  abbrev catch : ℕ → Next
  catch = run_landing n 6 (λ g x. exec cx no_step g x)

  abbrev next : Next
  next g x = exec cx (code_of tail) g x

  abbrev y2 : MidState
  y2 = y_argued setting placed k t rs valid w around z y things ar c c_word of_condition room

  abbrev w2 : World
  w2 = w_argued setting placed k t rs valid w around z y things ar c c_word of_condition room

  abbrev at2 : ℕ
  at2 = argument_at setting placed k t rs valid w around z y things ar c c_word of_condition room

  abbrev came : MidOutcome
  came = called cx (function_routine setting.at) (h_word ∷ 1 ∷ at2 ∷ []) y2

  abbrev ra : FlatEvaluated
  ra = apply_value (context_at setting k) (signal (context_at setting k)) h (c ∷ []) around z

  abbrev goes : Value → FlatState → FlatEvaluated
  goes v s = signal (context_at setting k) control_error_class [] around s

  abbrev pub r1 : FlatEvaluated
  r1 = meant_inside (context_at setting k) h c around z

  abbrev regs2 : Registers
  regs2 = regs (Some h_word) None (Some at2) (Some 1)

  abbrev pub q1 : MidOutcome
  q1 = exec cx (code_of rest) (regs (Some h_word) None None None) y

  abbrev code : MidOutcome → MidOutcome
  code q = mid_go_on (landed n catch (mid_go_on (mid_called q 6 regs2) after)) next

  code_is : q1 ≡ code came
  unfolding mid_go_on
  code_is =
      step_then cx (with_block 16 1 6 (code_of (steps setting placed k t rs valid w around z y things ar c c_word of_condition room)) (code_of [])) tail (regs (Some h_word) None None None) y
      ∙ ap (λ q. mid_go_on q next)
      (record_runs cx 16 1 6 (code_of (steps setting placed k t rs valid w around z y things ar c c_word of_condition room)) (code_of []) (regs (Some h_word) None None None) y room
      ∙ ap (λ q. landed n catch (mid_go_on q after))
      (argued setting placed k t rs valid w around z y things ar c c_word of_condition room (Some mark_word) (Some r2) (Some 0) (Some cell) None (Some site.0) (Some at) (Some current) (Some link) (Some cell)
      (Some bindings) (Some drawn) (Some 0) (Some 3) h_word))

  code_grown : (ss : Steps) (g : Registers) (x : MidState) → Grown x (exec cx (code_of ss) g x).state
  code_grown ss g x =
      exec_grown cx (levels_grow setting.procedures setting.turns_each k) (turns_grow setting.procedures _ (levels_grow setting.procedures setting.turns_each k) t) (code_of ss) g x

  came_grown : Grown came.state (code came).state
  came_grown =
      go_on_grown (landed n catch (mid_go_on (mid_called came 6 regs2) after)) next came.state
      (landed_grown n catch (mid_go_on (mid_called came 6 regs2) after) came.state
      (go_on_grown (mid_called came 6 regs2) after came.state (called_grown came 6 regs2 came.state (same_grown came.state)) (λ g x. after_inside_grown n g x))
      (λ v g x. run_landing_grown n 6 (λ g' x'. exec cx no_step g' x') v g x (λ g' x'. code_grown [] g' x')))
      (λ g x. code_grown tail g x)

  -- where it is left by a cut, or stops
  cut_code : (m word : ℕ) → came.end ≡ cuts m word → (m == n) ≡ false → code came ≡ ends (cuts m word) regs2 came.state
  cut_code m word e other =
      ap (λ q. mid_go_on (landed n catch (mid_go_on q after)) next) (called_ends came 6 regs2 (cuts m word) tt e)
      ∙ ap (λ q. mid_go_on q next) (cut_passes n after catch (ends (cuts m word) regs2 came.state) m word refl other)
      ∙ go_on_last (cuts m word) (ends (cuts m word) regs2 came.state) next refl tt

  stop_code : (Because setting ra came.end) → code came ≡ ends came.end regs2 came.state
  stop_code b =
      ap (λ q. mid_go_on (landed n catch (mid_go_on q after)) next) (called_ends came 6 regs2 came.end (stopped_passes setting ra came.end b) refl)
      ∙ ap (λ q. mid_go_on q next) (stop_passes n after catch setting ra (ends came.end regs2 came.state) came.end refl b)
      ∙ go_on_last came.end (ends came.end regs2 came.state) next refl (stopped_last setting ra came.end b)

  -- ---- the handler returned

  module _ (x : Returned setting handler_credit w2 z y2 ra came) where
    abbrev o : Opened setting 1 w w2 z z y y2
    o = opened setting placed k t rs valid w around z y things ar c c_word of_condition room

    blocks : came.state.arena.blocks ≡ record_of 1 ∷ y.arena.blocks
    blocks = x.back.blocks ∙ o.blocks

    abbrev ps : List (ℕ × ℕ)
    ps = (site_address, site.0) ∷ []

    controls : AreControls ps
    controls = (refl, (omega arith, omega arith), (λ e. absurd (omega (arith, e))), tt)

    abbrev total : ℕ
    total = came.state.cost + 10 + 2 + 6 + 8 + 6 + 46

    abbrev y3 : MidState
    y3 = state_back setting o (omega arith) placed x.world blocks ps controls total

    abbrev w3 : World
    w3 = world_back setting o (omega arith) placed x.world blocks ps controls total

    world3 : WorldKept setting w w3 z ra.state y y3
    world3 = world_given setting o (omega arith) placed x.world blocks ps controls total

    t3 : Things setting x.w' ra.state came.state
    t3 = x.world.things

    abbrev puts3 : List Put
    puts3 = of_control 28 site.0 ∷ []

    pub back3 : (i : ℕ) → i < 36 → i % 4 ≡ 0
        → word_at (stores ps (with_blocks y.arena.blocks came.state.arena)) (control_address + i) ≡ or_before (last_control i puts3) (word_at (with_blocks y.arena.blocks came.state.arena) (control_address + i))
    back3 i few word = control_back setting t3 (record_of 1) y.arena.blocks blocks 220 refl (omega arith) i puts3 refl few word

    kept3 : (i m : ℕ) → i < 36 → HasWordAt came.state (control_address + i) m → word_at (with_blocks y.arena.blocks came.state.arena) (control_address + i) ≡ Some m
    kept3 i m few e = control_stays setting t3 (record_of 1) y.arena.blocks blocks 220 refl (omega arith) i m few e

    control2 : ControlBack y y2
    control2 = control setting placed k t rs valid w around z y things ar c c_word of_condition room

    around3 : Around setting 1356 z ra.state y y3
    around3 = record {
      control = record {
        current = λ m e. back3 0 (omega arith) refl ∙ kept3 0 m (omega arith) (x.back.control.current m (control2.current m e));
        link = λ m e. back3 4 (omega arith) refl ∙ kept3 4 m (omega arith) (x.back.control.link m (control2.link m e));
        handlers = λ m e. back3 20 (omega arith) refl ∙ kept3 20 m (omega arith) (x.back.control.handlers m (control2.handlers m e));
        bindings = λ m e. back3 24 (omega arith) refl ∙ kept3 24 m (omega arith) (x.back.control.bindings m (control2.bindings m e));
      };
      blocks = refl;
      charged = charged_given setting o (omega arith) placed x.world blocks ps controls total x.back.charged;
      paid = let paid = x.back.paid in omega (arith, paid);
    }

    begins3 : CallBegins setting rs valid failing_words w3 around ra.state y3
    begins3 = begins_less setting failing_words (omega arith) (point_begins setting world3 around3 begins)

    site3 : SiteStored setting around y3
    site3 = (site.0, back3 28 (omega arith) refl, site.2)

    abbrev regs5 : Registers
    regs5 = regs (Some control_error_class) (Some x.word) (Some at2) (Some 1)

    abbrev cf : MidOutcome
    cf = called cx (failing_routine setting.at) (control_error_class ∷ []) y3

    abbrev leaving : Next
    leaving g s = exec cx (code_of (record_left 8 14)) g s

    lent3 : is_lent (with_blocks y.arena.blocks came.state.arena) site_address ≡ true
    lent3 =
        control_lent setting (spot_stands came.state.arena (with_blocks y.arena.blocks came.state.arena) (control_spot setting) refl refl refl (omega arith) (control_of setting t3)) 28 (omega arith) refl

    tail_runs :
        exec cx (code_of tail) (regs (Some h_word) (Some x.word) (Some at2) (Some 1)) (mid_charged 2 (with_arena (with_blocks y.arena.blocks came.state.arena) (mid_charged 10 came.state)))
        ≡ mid_go_on (mid_called cf 6 regs5) leaving
    tail_runs =
        (and_then constant_falls
        (and_then (store_falls refl refl (address_above 0 site_address site_address (omega arith) (omega arith)) lent3)
        (and_then constant_falls
        (record {
          same =
              step_then cx (call 6 (failing_routine setting.at) (5 ∷ [])) (record_left 8 14) regs5 (touched ps (with_blocks y.arena.blocks came.state.arena) (came.state.cost + 10 + 2 + 6 + 8 + 6) came.state)
              ∙ ap (λ q. mid_go_on q leaving)
              (call_steps cx 6 (failing_routine setting.at) (5 ∷ []) (control_error_class ∷ []) regs5 (touched ps (with_blocks y.arena.blocks came.state.arena) (came.state.cost + 10 + 2 + 6 + 8 + 6) came.state)
              (failing_used setting placed).there (refl, tt));
        })))).same

    code_returned : code came ≡ mid_go_on (mid_called cf 6 regs5) leaving
    unfolding mid_go_on landed
    code_returned =
        ap (λ q. mid_go_on (landed n catch (mid_go_on q after)) next) (called_returns came 6 x.word regs2 x.end)
        ∙ ap (λ p. mid_go_on (landed n catch (jumped p)) next) (gives_back (record_of 1) y.arena.blocks (regs (Some h_word) (Some x.word) (Some at2) (Some 1)) came.state blocks refl) ∙ tail_runs

    abbrev rf : FlatEvaluated
    rf = signal (context_at setting k) control_error_class [] around ra.state

    world_paid : WorldKept setting w w3 z (charged 1 ra.state) y y3
    world_paid = record {
      later = world3.later;
      things = things_units setting 1 world3.things;
      stack = world3.stack;
      end = world3.end;
      more_exits = world3.more_exits;
      same_size = world3.same_size;
    }

    around_paid : Around setting 56 z (charged 1 ra.state) y y3
    around_paid = record {
      control = around3.control;
      blocks = around3.blocks;
      charged = around3.charged;
      paid = let paid = around3.paid in omega (arith, paid);
    }

    up : z.state.units ≤ ra.state.state.units
    up = (grown_later (applied_later setting k h c around z)).units

    abbrev Whole : MidOutcome → Type 0
    Whole q = InsideEnds rf q

    failed_left : LeftCall setting making_credit rs valid w3 around (charged 1 ra.state) y3 rf cf → Whole (mid_go_on (mid_called cf 6 regs5) leaving)
    unfolding transfers_at
    failed_left l =
        let u : Transfers setting 106 rs valid w around z y rf cf = transfers_then setting world_paid around_paid (omega arith) l.transfer in
        subst (λ q. Whole q)
        (sym (ap (λ q. mid_go_on q leaving) (called_ends cf 6 regs5 (cuts u.to.outside u.word) tt u.end) ∙ go_on_last (cuts u.to.outside u.word) (ends (cuts u.to.outside u.word) regs5 cf.state) leaving refl tt))
        (left_by (record {
          transfer = transfers_at setting regs5 (omega arith) u;
          frame = l.frame ∙ x.frame;
          r5 = Some control_error_class;
          r6 = Some x.word;
          r16 = Some at2;
          r17 = Some 1;
          registers = refl;
          landing_paid = λ e. let paid = u.paid in omega (arith, paid);
        }))

    failed : FailsPaid setting k t around → LeavesSo (context_at setting k) h (c ∷ []) around z → Whole (mid_go_on (mid_called cf 6 regs5) leaving)
    failed fails so = by (fails rs valid w3 ra.state y3 site3 begins3)
      where
        by :
            Ends setting (making_credit + unit_cost) (Returned setting making_credit w3 (charged 1 ra.state) y3 rf cf)
            (LeftCall setting making_credit rs valid w3 around (charged 1 ra.state) y3 rf cf) t (charged 1 ra.state) y3 rf cf
            → Whole (mid_go_on (mid_called cf 6 regs5) leaving)
        by (done f) = absurd (so.never x.result x.outcome f.result f.outcome)
        by (left_by l) = failed_left l
        by (full_there f) =
            let g : Grown cf.state (mid_go_on (mid_called cf 6 regs5) leaving).state =
            go_on_grown (mid_called cf 6 regs5) leaving cf.state (called_grown cf 6 regs5 cf.state (same_grown cf.state)) (λ g s. code_grown (record_left 8 14) g s) in
            full_there (record { asked = f.asked; left_then = f.left_then; outcome = f.outcome; printed = both_prefix f.printed (record { rest = g.printed.0; is = sym g.printed.1 }) })
        by (stopped f) =
            subst (λ q. Whole q)
            (sym
            (ap (λ q. mid_go_on q leaving) (called_ends cf 6 regs5 cf.end (stopped_passes setting rf cf.end f.because) refl)
            ∙ go_on_last cf.end (ends cf.end regs5 cf.state) leaving refl (stopped_last setting rf cf.end f.because)))
            (stopped (record { because = f.because; printed = f.printed; paid = λ ended. let paid = around_paid.paid in omega (arith, f.paid ended, paid) }))
        by (few_turns f) = let more = up in let size = world3.same_size in few_turns (omega (arith, f, more, size))

  -- ---- **in all cases**

  module _ (fails : FailsPaid setting k t around) (so : LeavesSo (context_at setting k) h (c ∷ []) around z) where
    left_case : LeftCall setting handler_credit rs valid w2 around z y2 ra came → InsideEnds r1 q1
    unfolding transfer_out
    left_case l =
        let x : Transfers setting handler_credit rs valid w2 around z y2 ra came = l.transfer in
        let o = opened setting placed k t rs valid w around z y things ar c c_word of_condition room in
        let among : IsIn x.to rs = first_stop_in x.target.address rs x.to x.outer x.stop in
        let there = ar.records x.to among in
        let fewer = blocks_fewer (length y.arena.memory) x.to.address y.arena.blocks there.block.blocks there.block.found in
        let count = there.block.count in
        let other : (x.to.outside == n) ≡ false = ne_eqb x.to.outside n (λ e. omega (arith, e, fewer, count)) in
        let low = there.low in
        let out : Transfers setting inside_credit rs valid w around z y ra (ends (cuts x.to.outside x.word) regs2 came.state) =
        transfer_out setting o (omega arith) x regs2 x.valid_target x.stop low (omega arith) in
        subst (λ p. InsideEnds p q1) (sym (then_other ra goes _ x.outcome tt))
        (subst (λ q. InsideEnds ra q) (sym (code_is ∙ cut_code x.to.outside x.word x.end other))
        (left_by (record {
          transfer = out;
          frame = l.frame;
          r5 = Some h_word;
          r6 = None;
          r16 = Some at2;
          r17 = Some 1;
          registers = refl;
          landing_paid = λ e. landing_paid_so l e;
        })))
      where
        landing_paid_so : (l : LeftCall setting handler_credit rs valid w2 around z y2 ra came) → l.transfer.exit_number ≡ number
            → came.state.cost + 62 + walk_cost * length (l.transfer.to ∷ l.transfer.outer) + unit_cost * z.state.units ≤ y.cost + walk_cost * length rs + unit_cost * ra.state.state.units + inside_credit
        landing_paid_so l e = by l.transfer.landing refl
          where
            by : (landing : Landing) → l.transfer.landing ≡ landing
                → came.state.cost + 62 + walk_cost * length (l.transfer.to ∷ l.transfer.outer) + unit_cost * z.state.units ≤ y.cost + walk_cost * length rs + unit_cost * ra.state.state.units + inside_credit
            by (at_segment i) same =
                let aside : landing_cost l.transfer.landing ≡ 250 = ap landing_cost same in
                let paid = l.transfer.paid in
                omega (arith, paid, aside)
            by (at_site place) same =
                let zero : l.transfer.exit_number ≡ 0 = so.sites l.transfer.exit_number l.transfer.result place (l.transfer.outcome ∙ ap (λ m. exit l.transfer.exit_number l.transfer.result m) same) in
                absurd (omega (arith, zero, e, some))

    pub inside_ends : FunctionDoes setting k t rs valid w2 around z y2 → InsideEnds r1 q1
    inside_ends does = by (does h (c ∷ []) h_word at2 (word_later (opened setting placed k t rs valid w around z y things ar c c_word of_condition room).world.later h h_word of_handler)
        (arguments setting placed k t rs valid w around z y things ar c c_word of_condition room)
        (site_argued setting placed k t rs valid w around z y things ar c c_word of_condition room site)
        (begins_argued setting placed k t rs valid w around z y things ar c c_word of_condition room applying_words begins.room))
      where
        by : CallEnds setting handler_credit t rs valid w2 around z y2 ra came → InsideEnds r1 q1
        by (done x) =
            subst (λ p. InsideEnds p q1) (sym (then_value ra goes x.result x.outcome))
            (subst (λ q. InsideEnds (rf x) q) (sym (code_is ∙ code_returned x)) (failed x fails so))
        by (left_by l) = left_case l
        by (full_there f) =
            let g = came_grown in
            subst (λ p. InsideEnds p q1) (sym (then_other ra goes _ f.outcome tt))
            (subst (λ q. InsideEnds ra q) (sym code_is)
            (full_there (record { asked = f.asked; left_then = f.left_then; outcome = f.outcome; printed = both_prefix f.printed (record { rest = g.printed.0; is = sym g.printed.1 }) })))
        by (stopped f) =
            let g : FlatGrown ra.state r1.state = then_grown ra goes (λ v s. grown_later (signal_later setting k control_error_class [] around s)) in
            subst (λ q. InsideEnds r1 q) (sym (code_is ∙ stop_code f.because))
            (stopped (record {
              because = because_then setting ra goes came.end g f.because;
              printed = both_prefix f.printed g.printed;
              paid = λ ended. let paid = f.paid (λ none. ended (because_then setting ra goes no_level g none)) in omega (arith, paid, g.units);
            }))
        by (few_turns f) =
            let g : FlatGrown ra.state r1.state = then_grown ra goes (λ v s. grown_later (signal_later setting k control_error_class [] around s)) in
            let size = (opened setting placed k t rs valid w around z y things ar c c_word of_condition room).world.same_size in
            few_turns (omega (arith, f, g.units, size))
