-- The routine of lists: its loop makes cons by cons, and the list is returned.
use Rattle.std.proofs.Common.{◌≡◌, ℕ, zero, suc, ◌+◌, ◌*◌, ◌^◌, ◌<◌, ◌≤◌, Bool, true, false, List, [], ◌∷◌, length, Option, Some, None, refl, sym, ap, ◌∙◌, subst, arith}
use Rattle.base.specs.Arithmetic.{sum32, shift_left}
use Rattle.lang_meaning.specs.Objects.{cons}
use Rattle.lang_meaning.specs.Prefixes.{IsPrefix}
use Rattle.lang_meaning.specs.State.{DynamicContext, has_room, room_left}
use Rattle.lang_meaning.specs.State as meaning
use Rattle.lang_meaning.specs.Values.{Value, nil, object}
use Rattle.lang_meaning.specs.Counts.{unit_cost}
use Rattle.flat_language.specs.FlatSignals.{make_list}
use Rattle.flat_language.specs.FlatState.{FlatState, FlatEvaluated, on_state, gives}
use Rattle.mid_code.specs.declared.operation.Arithmetic.TheVariants as which
use Rattle.mid_code.specs.declared.operation.Counted.TheVariants.{Turn}
use Rattle.mid_code.specs.declared.program.MidProcedure.{MidProcedure}
use Rattle.mid_code.specs.Arena.{Arena, stack_from, left, word_at}
use Rattle.mid_code.specs.Meaning.{Context, exec, exec_step}
use Rattle.mid_code.specs.MidCode.{return_word, code_of}
use Rattle.mid_code.specs.State.{Registers, falls, returns, no_room, ends, first_registers, MidState, MidOutcome, Next}
use Rattle.mid_code.specs.State.{charged as mid_charged, go_on as mid_go_on}
use Rattle.mid_code.proofs.Growth.{go_on_grown}
use Rattle.mid_arena.specs.Growing.{Grows}
use Rattle.mid_arena.specs.Places.{Places, word_of}
use Rattle.mid_arena.specs.Standing.{ValuesAt}
use Rattle.mid_arena.specs.Tags.{nil_word, cons_tag}
use Rattle.mid_arena.proofs.Growing.{grows_same, grows_both}
use Rattle.mid_arena.proofs.Making.{Room, is_left, is_wanting, room_for}
use Rattle.mid_arena.proofs.Running.{RunsTo, StepsTo, and_then, and_ends, none_left, costing, parts_then, constant_falls, compute_falls, compute_known, return_ends, repeat_falls}
use Rattle.mid_arena.proofs.WordFacts.{sum_fits, four_times_count}
use Rattle.back_lowering.specs.ControlWords.{site_address}
use Rattle.back_lowering.specs.Program.{procedure_with}
use Rattle.back_lowering.specs.RoutineCodes.{list_code}
use Rattle.back_lowering.specs.Routines.{list_routine}
use Rattle.back_lowering.specs.Steps.{Steps, constant, compute}
use Rattle.back_relation.specs.Setting.{Setting}
use Rattle.back_relation.specs.Placed.{IsPlaced}
use Rattle.back_relation.specs.Room.{routine_words, words_for_handler}
use Rattle.back_relation.specs.Worlds.{World, Standing}
use Rattle.back_relation.specs.Things.{Things}
use Rattle.back_relation.specs.Around.{RoomFor}
use Rattle.back_relation.specs.Ends.{WorldKept, Around, Ends, done, left_by, full_there, stopped, few_turns}
use Rattle.back_relation.specs.Forms.{code_at}
use Rattle.back_relation.specs.Procedures.{ArgumentsGiven}
use Rattle.back_relation.specs.RoutineClaims.{list_credit, entry_spare, ListThere, ListDoes}
use Rattle.back_relation.specs.Starts.{FlatGrown}
use Rattle.back_relation.proofs.Growth.{same_flat}
use Rattle.back_relation.proofs.Parts.{go_on_last}
use Rattle.back_relation.proofs.Starts.{room_after}
use Rattle.back_relation.proofs.Stops.{stopped_before}
use Rattle.back_relation.proofs.Straight.{world_cost, around_cost}
use Rattle.back_relation.proofs.Then.{from_same, world_then}
use Rattle.back_relation.proofs.Worlds.{word_later}
use Rattle.back_function_entries.proofs.Conses.{with_cons}
use Rattle.back_function_entries.proofs.Held.{given_values, given_below}
use Rattle.back_calling.proofs.Numbers.{numbers_law}
use Rattle.back_calling.proofs.Storing.{some_words, control_below}
use Rattle.back_conditions.proofs.Frames.{word_there}
use Rattle.back_primitives.proofs.Answered.{room_ended}
use Rattle.back_primitives.proofs.Behind.{request_granted, request_refused}
use Rattle.back_values.proofs.BoxesMade.{full_printed, steps_grow}
use Rattle.back_function_entries.specs.Making.{Makes}
use Rattle.back_function_entries.specs.EntryLists.{conses, ListSays, LawOfLists}
use Rattle.back_function_entries.proofs.EntryConses.{loop, at_turn, loop_grows, world_made, state_made, made_grows, made_is, made_world, made_around, turn_wanting, turn_goes_on}
use Rattle.back_function_entries.proofs.Entering.{BodyMakes, makes_with_turn}
use Rattle.back_function_entries.proofs.Lying.{lies_later, lying_stays, given_lie}
use Rattle.back_function_entries.proofs.Onto.{backwards, as_many_back, list_backwards, conses_grow, BackwardsAt, values_backwards}

-- ---- one thing after another

module _ (setting : Setting) where
  -- what the code comes to that makes a list of so many values, for at most so much, and for so much where it stops
  abbrev ComesTo : (stop most count m : ℕ) → World → FlatState → MidState → FlatEvaluated → MidOutcome → Type 0
  ComesTo stop most count m w z y r q = Ends setting stop (Makes setting most (λ word w'. ListSays z r count word w') w z y r q) ⊥ m z y r q

  onward :
      (cost before : ℕ) {stop1 stop c1 most count total all m m1 : ℕ} {w w1 : World} {z z1 : FlatState} {y y1 : MidState} {r : FlatEvaluated} {q : MidOutcome}
      → WorldKept setting w w1 z z1 y y1 → Around setting c1 z z1 y y1 → Grows y.arena y1.arena → y1.cost ≤ y.cost + cost → z1.frame ≡ z.frame
      → z.state.units + 2 * before ≤ z1.state.units → m + 16 * z.state.units ≤ m1 + 16 * z1.state.units → cost + most ≤ total → all ≤ before + count
      → stop1 + cost ≤ stop + unit_cost * (2 * before) → ComesTo stop1 most count m1 w1 z1 y1 r q → ComesTo stop total all m w z y r q
  onward cost before {y = y} {y1 = y1} {q = q} k a grows paid frame units fewer enough many small (done x) =
      let same = from_same setting k a in
      done (record {
        word = x.word;
        end = x.end;
        w' = x.w';
        world = world_then setting k a x.world;
        control = record {
          current = λ n e. x.control.current n (a.control.current n e);
          link = λ n e. x.control.link n (a.control.link n e);
          handlers = λ n e. x.control.handlers n (a.control.handlers n e);
          bindings = λ n e. x.control.bindings n (a.control.bindings n e);
        };
        blocks = x.blocks ∙ a.blocks;
        charged = omega (arith, a.charged, x.charged);
        grows = grows_both y.arena y1.arena q.state.arena grows x.grows (λ p from to. omega (arith, from, same));
        cost = omega (arith, paid, x.cost, enough);
        said = record {
          result = x.said.result;
          outcome = x.said.outcome;
          of_value = x.said.of_value;
          frame = x.said.frame ∙ frame;
          units = omega (arith, units, x.said.units, many);
        };
      })
  onward cost before k a grows paid frame units fewer enough many small (left_by x) = absurd x
  onward cost before k a grows paid frame units fewer enough many small (full_there x) = full_there x
  onward cost before k a grows paid frame units fewer enough many small (stopped x) = stopped (stopped_before setting (omega (arith, paid, units, small)) x)
  onward cost before k a grows paid frame units fewer enough many small (few_turns x) = few_turns (let size = k.same_size in omega (arith, x, size, fewer))

-- ---- the loop

module _ (setting : Setting) (placed : IsPlaced setting) (k n room : ℕ) where
  abbrev behind : Next
  behind g x = exec (code_at setting k n) (code_of (return_word 2 ∷ [])) g x

  -- the loop with so many turns, and what is behind it
  abbrev whole : (t : ℕ) → Registers → MidState → MidOutcome
  whole t regs y = mid_go_on (exec_step (code_at setting k t) loop regs y) behind

  abbrev meant : List Value → Value → FlatState → FlatEvaluated
  meant vs tail z = conses setting.limit vs tail z (λ v after. gives v after)

  meant_grows : (vs : List Value) (tail : Value) (z : FlatState) → FlatGrown z (meant vs tail z).state
  meant_grows vs tail z = conses_grow setting.limit vs tail z (λ v after. gives v after) (λ v after. same_flat after)

  abbrev Goes : List Value → Type 0
  Goes vs =
      (t : ℕ) (w : World) (z : FlatState) (y : MidState) (low : ℕ) (tail : Value) (tail_word : ℕ) (r4 r5 : Option ℕ) → Things setting w z y → RoomFor setting.limit room z.state y
      → BackwardsAt w.places y.arena low vs → length vs ≤ 2 ^ 24 → word_of w.places tail ≡ Some tail_word
      → ComesTo setting 0 (26 + 112 * length vs) (length vs) (t + 18) w z y (meant vs tail z) (whole t (at_turn (low + 4 * length vs) (length vs) tail_word r4 r5) y)

  all_made : Goes []
  unfolding mid_go_on
  all_made t w z y low tail tail_word r4 r5 things roomy at few of_tail =
      let regs : Registers = at_turn (low + 4 * 0) 0 tail_word r4 r5 in
      let step : StepsTo (code_at setting k t) loop regs y (ends falls regs (mid_charged 12 y)) = repeat_falls none_left refl refl refl in
      let run : RunsTo (code_at setting k n) (code_of (return_word 2 ∷ [])) regs (mid_charged 12 y) (ends (returns tail_word) regs (mid_charged 26 y)) =
      costing {n = y.cost + 26} (and_ends tt (return_ends refl)) (omega arith) in
      let back = around_cost setting {credit = 26} z y 26 (omega arith) in
      subst (λ q. ComesTo setting 0 (26 + 112 * 0) 0 (t + 18) w z y (gives tail z) q) (sym (ap (λ q. mid_go_on q behind) step.same ∙ run.same))
      (done (record {
        word = tail_word;
        end = refl;
        w' = w;
        world = world_cost setting 26 things;
        control = back.control;
        blocks = refl;
        charged = back.charged;
        grows = grows_same y.arena things.represents.arena;
        cost = omega arith;
        said = record { result = tail; outcome = refl; of_value = of_tail; frame = refl; units = omega arith };
      }))

  -- words that lie there stand in a later world
  later_words :
      {c1 : ℕ} {w w1 : World} {z z1 : FlatState} {y y1 : MidState} (low : ℕ) (vs : List Value) → WorldKept setting w w1 z z1 y y1 → Around setting c1 z z1 y y1 → Grows y.arena y1.arena
      → BackwardsAt w.places y.arena low vs → BackwardsAt w1.places y1.arena low vs
  later_words low [] kept a grows at = tt
  later_words low (v ∷ vs) kept a grows at =
      let same = from_same setting kept a in (
        record {
          word = at.0.word;
          of_value = word_later kept.later v at.0.word at.0.of_value;
          stands = lying_stays grows same low (suc (length vs)) (length vs) (omega arith) at.1 ∙ at.0.stands;
        },
        lies_later grows same low (suc (length vs)) at.1,
        later_words low vs kept a grows at.2,
      )

  module _ (v : Value) (vs : List Value) (goes : Goes vs) (t : ℕ) (w : World) (z : FlatState) (y : MidState) (low : ℕ) (tail : Value) (tail_word : ℕ) (r4 r5 : Option ℕ)
      (things : Things setting w z y) (roomy : RoomFor setting.limit room z.state y) (at : BackwardsAt w.places y.arena low (v ∷ vs)) (few : suc (length vs) ≤ 2 ^ 24)
      (of_tail : word_of w.places tail ≡ Some tail_word) where
    abbrev x : ℕ
    x = low + 4 * length vs

    abbrev outcome : MidOutcome
    outcome = whole (suc t) (at_turn (low + 4 * suc (length vs)) (suc (length vs)) tail_word r4 r5) y

    abbrev Comes : FlatEvaluated → Type 0
    Comes r = ComesTo setting 0 (26 + 112 * suc (length vs)) (suc (length vs)) (suc t + 18) w z y r outcome

    below : x + 4 < 2 ^ 32
    below =
        let there = word_there y.arena x at.0.word things.represents.arena at.0.stands in
        let size = things.represents.arena.size in
        omega (arith, there.below, size)

    -- the registers as they are in a turn
    outcome_is : outcome ≡ whole (suc t) (at_turn (x + 4) (length vs + 1) tail_word r4 r5) y
    outcome_is =
        ap (λ a. whole (suc t) (at_turn a (suc (length vs)) tail_word r4 r5) y) (omega arith)
        ∙ ap (λ m. whole (suc t) (at_turn (x + 4) m tail_word r4 r5) y) (omega arith)

    abbrev following : FlatState → FlatEvaluated
    following entered = meant vs (object (length entered.state.store)) (on_state (λ s. meaning.stored (cons v tail) (meaning.charged (2 + 0) s)) entered)

    cons_then : 2 ≤ left y.arena → has_room setting.limit (z.state.heap + z.state.stack + 2 + 0) ≡ true → Comes (meant vs (object (length z.state.store)) (with_cons v tail z))
    cons_then some fits =
        let w1 : World = world_made setting placed k t room things roomy v tail at.0.word tail_word at.0.of_value of_tail in
        let y1 : MidState = state_made setting placed k t room things roomy v tail at.0.word tail_word at.0.of_value of_tail in
        let kept = made_world setting placed k t room things roomy v tail at.0.word tail_word at.0.of_value of_tail some fits in
        let back = made_around setting placed k t room things roomy v tail at.0.word tail_word at.0.of_value of_tail some fits in
        let grows = made_grows setting placed k t room things roomy v tail at.0.word tail_word at.0.of_value of_tail some in
        let inner =
        goes t w1 (with_cons v tail z) y1 low (object (length z.state.store)) (y.arena.heap_to + 1) (Some y.arena.heap_to) (Some cons_tag) kept.things
        (room_after setting.limit room room z (with_cons v tail z) y y1 (omega arith) back.charged roomy) (later_words low vs kept back grows at.2) (omega (arith, few))
        (made_is setting placed k t room things roomy v tail at.0.word tail_word at.0.of_value of_tail some) in
        let turned = turn_goes_on setting placed k t room things roomy v tail at.0.word tail_word at.0.of_value of_tail some x (length vs) at.0.stands below (omega (arith, few)) r4 r5 in
        subst (λ q. ComesTo setting 0 (26 + 112 * suc (length vs)) (suc (length vs)) (suc t + 18) w z y (meant vs (object (length z.state.store)) (with_cons v tail z)) q)
        (sym (outcome_is ∙ ap (λ q. mid_go_on q behind) turned))
        (onward setting 112 1 {m = suc t + 18} kept back grows (omega arith) refl (omega arith) (omega arith) (omega arith) (omega arith) (omega arith) inner)

    cons_wanting : left y.arena < 2 → has_room setting.limit (z.state.heap + z.state.stack + 2 + 0) ≡ true → Comes (meant vs (object (length z.state.store)) (with_cons v tail z))
    cons_wanting wants fits =
        let r : FlatEvaluated = meant vs (object (length z.state.store)) (with_cons v tail z) in
        let turned = turn_wanting setting placed k t room things roomy v tail at.0.word tail_word at.0.of_value of_tail x (length vs) at.0.stands below (omega (arith, few)) r4 r5 wants in
        subst (λ q. ComesTo setting 0 (26 + 112 * suc (length vs)) (suc (length vs)) (suc t + 18) w z y r q)
        (sym (outcome_is ∙ ap (λ q. mid_go_on q behind) turned ∙ go_on_last (no_room 2 (left y.arena)) (ends (no_room 2 (left y.arena)) (at_turn x (length vs) tail_word (Some 2) (Some at.0.word)) (record y { cost = y.cost + 78 })) behind refl tt))
        (stopped (record {
          because = (room_ended setting setting.limit r.outcome room 2 0 z y roomy fits (omega arith) wants, wants);
          printed =
              subst (λ p. IsPrefix p r.state.state.printed) (sym things.represents.printed)
              (meant_grows vs (object (length z.state.store)) (with_cons v tail z)).printed;
          paid = λ ended. let up = (meant_grows vs (object (length z.state.store)) (with_cons v tail z)).units in omega (arith, up);
        }))

    one_turn : Comes (meant (v ∷ vs) tail z)
    one_turn = by (has_room setting.limit (z.state.heap + z.state.stack + 2 + 0)) refl (room_for 2 y.arena)
      where
        grown : (q : MidOutcome) → q ≡ outcome → IsPrefix z.state.printed q.state.printed
        grown q e =
            subst (λ (o : MidOutcome). IsPrefix z.state.printed o.state.printed) (sym e)
            (full_printed z y outcome things.represents.printed
            (go_on_grown _ behind y (loop_grows setting k (suc t) loop (at_turn (low + 4 * suc (length vs)) (suc (length vs)) tail_word r4 r5) y) (λ g p. steps_grow setting k n (return_word 2 ∷ []) g p)))

        by : (b : Bool) → has_room setting.limit (z.state.heap + z.state.stack + 2 + 0) ≡ b → Room 2 y.arena → Comes (meant (v ∷ vs) tail z)
        by true e (is_left some) = subst Comes (sym (request_granted setting.limit 2 z following e)) (cons_then some e)
        by true e (is_wanting wants) = subst Comes (sym (request_granted setting.limit 2 z following e)) (cons_wanting wants e)
        by false e any =
            subst Comes (sym (request_refused setting.limit 2 z following e))
            (full_there (record { asked = 2 + 0; left_then = room_left setting.limit (z.state.heap + z.state.stack); outcome = refl; printed = grown outcome refl }))

  one_more : (v : Value) (vs : List Value) → Goes vs → Goes (v ∷ vs)
  one_more v vs goes zero w z y low tail tail_word r4 r5 things roomy at few of_tail =
      few_turns (let units = (meant_grows (v ∷ vs) tail z).units in let some = some_words setting things in omega (arith, units, some))
  one_more v vs goes (suc t) w z y low tail tail_word r4 r5 things roomy at few of_tail = one_turn v vs goes t w z y low tail tail_word r4 r5 things roomy at few of_tail

  -- **cons by cons**
  list_goes : (vs : List Value) → Goes vs
  list_goes [] = all_made
  list_goes (v ∷ vs) = one_more v vs (list_goes vs)

-- ---- the routine

abbrev given : Setting → MidProcedure
given setting = procedure_with Turn 2 (list_code setting.at)

given_small : (setting : Setting) → (given setting).frame ≤ 30
unfolding list_code
given_small setting = omega arith

abbrev first_steps : Steps
first_steps = constant 3 2 ∷ compute 4 which.ShiftLeft 1 3 ∷ compute 0 which.Add 0 4 ∷ constant 2 nil_word ∷ constant 3 0 ∷ []

-- where the words of the arguments end
record WordsEnd (places : Places) (a : Arena) (address : ℕ) (vs : List Value) : Type 0 where
  low : ℕ
  sum : sum32 address (shift_left (length vs) 2) ≡ low + 4 * length vs
  at : BackwardsAt places a low (backwards vs)
  few : length vs ≤ 2 ^ 24

words_end :
    (setting : Setting) (w : World) (z : FlatState) (y y' : MidState) (address : ℕ) (vs : List Value) → Things setting w z y' → ((x : ℕ) → word_at y'.arena x ≡ word_at y.arena x)
    → stack_from y'.arena ≤ stack_from y.arena → ((v : Value) (others : List Value) → vs ≡ v ∷ others → ArgumentsGiven setting w y.arena address vs) → WordsEnd w.places y'.arena address vs
words_end setting w z y y' address [] t same lower given = record { low = sum32 address (shift_left 0 2); sum = omega arith; at = tt; few = omega arith }
words_end setting w z y y' address (v ∷ others) t same lower given =
    let g : ArgumentsGiven setting w y'.arena address (v ∷ others) = given_below setting w y y' address (v ∷ others) same lower (given v others refl) in
    let values : ValuesAt w.places y'.arena address (v ∷ others) = given_values setting t address (v ∷ others) g in
    let last = values (length others) (omega arith) in
    let there = word_there y'.arena (address + 4 * length others) last.word t.represents.arena last.stands in
    let size = t.represents.arena.size in
    record {
      low = address;
      sum = ap (λ n. sum32 address n) (four_times_count (suc (length others)) (omega (arith, there.below, size))) ∙ sum_fits address (4 * suc (length others)) (omega (arith, there.below, size));
      at = values_backwards w.places y'.arena address (v ∷ others) (given_lie setting t address (v ∷ others) g) values;
      few = omega (arith, there.below, size);
    }

module _ (setting : Setting) (placed : IsPlaced setting) (k n : ℕ) (address : ℕ) (vs : List Value) (y : MidState) (low : ℕ) (sum : sum32 address (shift_left (length vs) 2) ≡ low + 4 * length vs) where
  abbrev c : Context
  c = code_at setting k n

  abbrev body : MidOutcome
  body = exec c (code_of (given setting).body) (first_registers (given setting).registers (address ∷ length vs ∷ [])) y

  abbrev at_first : ℕ → Registers
  at_first count = at_turn (low + 4 * count) count nil_word (Some (shift_left (length vs) 2)) None

  begins : RunsTo c (code_of first_steps) (Some address ∷ Some (length vs) ∷ None ∷ None ∷ None ∷ None ∷ []) y (ends falls (at_first (length vs)) (mid_charged 38 y))
  begins =
      costing {n = y.cost + 38}
      (and_then constant_falls
      (and_then (compute_falls refl refl)
      (and_then (compute_known refl refl sum)
      (and_then constant_falls
      (and_then constant_falls none_left)))))
      (omega arith)

  body_is : body ≡ whole setting placed k n 0 n (at_first (length (backwards vs))) (mid_charged 38 y)
  unfolding list_code exec
  body_is =
      (parts_then first_steps (loop ∷ return_word 2 ∷ []) begins (record { same = refl })).same
      ∙ ap (λ m. whole setting placed k n 0 n (at_first m) (mid_charged 38 y)) (sym (as_many_back vs))

module _ (setting : Setting) (k turns : ℕ) (placed : IsPlaced setting) (rs valid : List Standing) (w : World) (around : DynamicContext) (z : FlatState) (y : MidState) where
  abbrev r_of : List Value → FlatEvaluated
  r_of vs = make_list setting.limit vs z (λ v after. gives v after)

  meant_is : (vs : List Value) → r_of vs ≡ conses setting.limit (backwards vs) nil z (λ v after. gives v after)
  meant_is vs = list_backwards setting.limit vs z (λ v after. gives v after)

  abbrev spare : ℕ
  spare = turns + entry_spare

  abbrev says : List Value → ℕ → World → Type 0
  says vs word w' = ListSays z (r_of vs) (length vs) word w'

  body_makes :
      (n address : ℕ) (vs : List Value) → ((v : Value) (others : List Value) → vs ≡ v ∷ others → ArgumentsGiven setting w y.arena address vs) → turns ≡ suc n
      → BodyMakes setting routine_words 0 38 (64 + 112 * length vs) spare (given setting) (address ∷ length vs ∷ []) rs valid w around z y (r_of vs) (says vs) k n
  body_makes n address vs given_there left_turns y' i =
      let t = i.call.things in
      let end = words_end setting w z y y' address vs t i.words i.from given_there in
      let room : ℕ = 0 + words_for_handler * length around.handlers in
      let y1 : MidState = mid_charged 38 y' in
      let world = world_cost setting 38 t in
      let back = around_cost setting {credit = 38} z y' 38 (omega arith) in
      let count = as_many_back vs in
      let loops =
      list_goes setting placed k n room (backwards vs) n w z y1 end.low nil nil_word (Some (shift_left (length vs) 2)) None world.things
      (room_after setting.limit room room z z y' y1 (omega arith) back.charged i.call.room) end.at (let few = end.few in omega (arith, few, count)) refl in
      subst (λ q. Comes vs y' (r_of vs) q) (sym (body_is setting placed k n address vs y' end.low end.sum))
      (subst (λ r. Comes vs y' r (whole setting placed k n 0 n (at_first setting placed k n address vs y' end.low end.sum (length (backwards vs))) y1)) (sym (meant_is vs))
      (onward setting 38 0 {m = spare} world back (grows_same y'.arena t.represents.arena) (omega arith) refl (omega arith) (omega (arith, left_turns)) (omega (arith, count)) (omega (arith, count)) (omega arith) loops))
    where
      Comes : List Value → MidState → FlatEvaluated → MidOutcome → Type 0
      Comes vs y' r q = ComesTo setting 38 (64 + 112 * length vs) (length vs) spare w z y' r q

  -- **the routine of lists**
  pub lists_make : ListDoes setting k turns rs valid w around z y
  lists_make vs address given_there b =
      let grown : FlatGrown z (r_of vs).state =
      subst (λ (r : FlatEvaluated). FlatGrown z r.state) (sym (meant_is vs)) (conses_grow setting.limit (backwards vs) nil z (λ v after. gives v after) (λ v after. same_flat after)) in
      there vs
      (makes_with_turn setting routine_words 0 38 (64 + 112 * length vs) spare (given setting) (address ∷ length vs ∷ []) rs valid w around z y (r_of vs) (says vs) k turns (list_routine setting.at)
      ((numbers_law setting).routine 16 _ placed refl) refl refl (let small = given_small setting in omega (arith, small)) (let units = grown.units in omega (arith, units)) grown.printed grown.units b
      (λ n e. body_makes n address vs given_there e))
    where
      there :
          {q : MidOutcome} (vs : List Value) → ComesTo setting (38 + 32) (64 + 112 * length vs + 32) (length vs) spare w z y (r_of vs) q
          → Ends setting (list_credit (length vs)) (ListThere setting k turns rs valid w around z y (list_credit (length vs)) (r_of vs) q) ⊥ spare z y (r_of vs) q
      there vs (done x) =
          done (record {
            returned = record {
              result = x.said.result;
              outcome = x.said.outcome;
              word = x.word;
              end = x.end;
              w' = x.w';
              world = x.world;
              back = record { control = x.control; blocks = x.blocks; charged = x.charged; paid = let units = x.said.units in omega (arith, x.cost, units) };
              of_value = x.said.of_value;
              frame = x.said.frame;
            };
            site = λ s. (s.0, x.grows.heap.words site_address (let below = control_below setting b.things in omega (arith, below)) ∙ s.1, s.2);
          })
      there vs (left_by x) = absurd x
      there vs (full_there x) = full_there x
      there vs (stopped x) = stopped (stopped_before setting (omega arith) x)
      there vs (few_turns x) = few_turns x

-- **lists are made**
pub lists_law : LawOfLists
lists_law setting k turns rs valid w around z y placed = lists_make setting k turns placed rs valid w around z y
