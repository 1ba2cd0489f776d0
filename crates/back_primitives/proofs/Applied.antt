-- What the code that applies a primitive by its procedure comes to, by what the call came to: a value, a condition, or an end.
use Rattle.std.proofs.Common.{◌≡◌, ℕ, ◌+◌, ◌<◌, ◌≤◌, false, List, [], ◌∷◌, ◌++◌, length, Some, refl, sym, ap, ◌∙◌, subst, arith}
use Rattle.std.specs.Prelude.{slice_set, ◌==◌}
use Rattle.std.proofs.Math.ListN.{length-set}
use Rattle.lang_meaning.specs.Prefixes.{IsPrefix}
use Rattle.lang_meaning.specs.State.{full}
use Rattle.lang_meaning.specs.State as meaning
use Rattle.lang_meaning.specs.Values.{Value}
use Rattle.flat_language.specs.FlatState.{FlatEvaluated, gives}
use Rattle.mid_code.specs.Law.{Grown}
use Rattle.mid_code.specs.Meaning.{Context, exec, exec_step}
use Rattle.mid_code.specs.Meaning as mid
use Rattle.mid_code.specs.MidCode.{MidCode, code_of}
use Rattle.mid_code.specs.State.{Registers, register, falls, returns, no_room, ends, MidOutcome, jumped}
use Rattle.mid_code.specs.State.{charged as mid_charged}
use Rattle.mid_code.proofs.Growth.{exec_grown, levels_grow, turns_grow}
use Rattle.mid_arena.specs.Places.{Places, word_of}
use Rattle.mid_arena.specs.Tags.{signal_word}
use Rattle.mid_arena.proofs.Registers.{register_here, register_beside}
use Rattle.mid_arena.proofs.Running.{RunsTo, and_then, and_ends, none_left, costing, constant_falls, choose_first, choose_second_falls}
use Rattle.back_lowering.specs.Steps.{Steps, call, constant, if_equal}
use Rattle.back_relation.specs.Setting.{Setting}
use Rattle.back_relation.specs.Placed.{IsPlaced}
use Rattle.back_relation.specs.Ends.{ChargedFrom, PaidFrom, RoomEnded, done, full_there, stopped, few_turns}
use Rattle.back_relation.specs.Forms.{code_at}
use Rattle.back_relation.specs.Starts.{Start, EndsAt, ReachedFrom}
use Rattle.back_relation.proofs.Choices.{jumps}
use Rattle.back_relation.proofs.Parts.{single_step}
use Rattle.back_relation.proofs.Starts.{start_after, reached_set, behind}
use Rattle.back_relation.proofs.Straight.{set_beside, registers_set}
use Rattle.back_relation.proofs.Standing.{StandsBehind, world_behind, reached_behind}
use Rattle.back_primitives.proofs.Called.{called_returns, called_wanting}

-- all words of the meaning were asked for: whatever code does
pub full_ends :
    (setting : Setting) {credit : ℕ} (k : ℕ) (a : Start setting) (code : MidCode) (asked left_then : ℕ) (z2 : meaning.State) → z2.printed ≡ a.z.state.printed
    → EndsAt setting credit a (record { outcome = full asked left_then; state = record a.z { state = z2 } }) (exec (code_at setting k a.turns) code a.regs a.y)
full_ends setting k a code asked left_then z2 same =
    let g : Grown a.y (exec (code_at setting k a.turns) code a.regs a.y).state =
    exec_grown (code_at setting k a.turns) (levels_grow setting.procedures setting.turns_each k)
    (turns_grow setting.procedures _ (levels_grow setting.procedures setting.turns_each k) a.turns) code a.regs a.y in
    full_there (record {
      asked = asked;
      left_then = left_then;
      outcome = refl;
      printed = record {
        rest = g.printed.0;
        is = ap (λ ps. ps ++ g.printed.0) (same ∙ sym a.begins.call.things.represents.printed) ∙ sym g.printed.1;
      };
    })

-- there were few turns for what was charged
pub few_ends :
    (setting : Setting) {credit : ℕ} (a : Start setting) (charged : ℕ) (r : FlatEvaluated) (q : MidOutcome) → a.turns ≤ charged
    → a.z.state.units + charged ≤ r.state.state.units → EndsAt setting credit a r q
few_ends setting a charged r q few up = few_turns (omega (arith, few, up))

module _ (setting : Setting) (placed : IsPlaced setting) (k : ℕ) (a : Start setting) (two : a.d + 1 < length a.regs) (number : ℕ) (arguments : List ℕ) (signalling : Steps)
    (q : MidOutcome) (is : exec_step (code_at setting k a.turns) (call a.d number arguments) a.regs a.y ≡ mid.called q a.d a.regs) where
  abbrev pub c : Context
  c = code_at setting k a.turns

  abbrev pub applied : Steps
  applied = call a.d number arguments ∷ constant (a.d + 1) signal_word ∷ if_equal a.d (a.d + 1) signalling [] ∷ []

  -- the call returned a word, in a state of the meaning behind
  pub record HandedBack (word : ℕ) (places : Places) (z2 : meaning.State) (credit : ℕ) : Type 0 where
    pub end : q.end ≡ returns word
    pub stands : StandsBehind setting a.w a.z a.y places z2 q.state
    pub charged : ChargedFrom a.z a.y (record a.z { state = z2 }) q.state
    pub paid : PaidFrom credit a.z a.y (record a.z { state = z2 }) q.state
    pub up : a.z.state.units ≤ z2.units

  module _ {word : ℕ} {places : Places} {z2 : meaning.State} {c1 : ℕ} (h : HandedBack word places z2 c1) where
    abbrev pub called_registers : Registers
    called_registers = slice_set a.regs a.d (Some word)

    abbrev pub tested_registers : Registers
    tested_registers = slice_set called_registers (a.d + 1) (Some signal_word)

    pub reached : ReachedFrom setting c1 a a.d (world_behind a.w a.y.arena places) (record a.z { state = z2 }) called_registers q.state
    reached =
        reached_behind setting placed a h.stands (set_beside a.regs a.d word (omega arith)) (registers_set a.regs a.d word (omega arith)) h.charged h.paid

    abbrev pub behind_call : Start setting
    behind_call = start_after setting a a.d a.d a.n (omega arith) (omega arith) (omega arith) a.begins.first reached

    -- where the answer was tested
    abbrev pub behind_test : Start setting
    behind_test =
        start_after setting behind_call a.d a.d a.n (omega arith) (omega arith) (omega arith) behind_call.begins.first
        (reached_set setting {credit = 18} behind_call a.d (a.d + 1) signal_word 18 (omega arith) (omega arith) (omega arith))

    first_word : register a.d tested_registers ≡ Some word
    first_word = register_beside called_registers (a.d + 1) a.d (Some signal_word) (λ e. omega arith) ∙ register_here a.regs a.d word a.begins.first

    second_word : register (a.d + 1) tested_registers ≡ Some signal_word
    second_word = register_here called_registers (a.d + 1) signal_word (omega (arith, two, length-set a.regs a.d (Some word)))

    -- it was a value's
    pub value_ends :
        {credit : ℕ} (v : Value) → word_of places v ≡ Some word → (word == signal_word) ≡ false → c1 + 20 ≤ credit
        → EndsAt setting credit a (gives v (record a.z { state = z2 })) (exec c (code_of applied) a.regs a.y)
    value_ends {credit} v of_value no_signal enough =
        let run : RunsTo c (code_of applied) a.regs a.y (ends falls tested_registers (mid_charged 20 q.state)) =
        costing {n = q.state.cost + 20}
        (and_then (record { same = is ∙ called_returns q word a.d a.regs h.end })
        (and_then constant_falls
        (and_then (choose_second_falls first_word second_word no_signal none_left) none_left)))
        (omega arith) in
        subst (λ o. EndsAt setting credit a (gives v (record a.z { state = z2 })) o) (sym run.same)
        (behind setting {c1 = c1} {c2 = 20} a a.d (omega arith) reached enough h.up
        (done (record {
          result = v;
          outcome = refl;
          end = refl;
          w' = behind_call.w;
          reached = reached_set setting {credit = 20} behind_call a.d (a.d + 1) signal_word 20 (omega arith) (omega arith) (omega arith);
          word = word;
          in_register = first_word;
          of_value = of_value;
        })))

    -- it said that a condition is to be signalled
    pub signal_ends :
        {c2 credit : ℕ} (r : FlatEvaluated) → word ≡ signal_word → c1 + 20 + c2 ≤ credit → z2.units ≤ r.state.state.units
        → EndsAt setting c2 behind_test r (exec c (code_of signalling) tested_registers (mid_charged 18 q.state))
        → EndsAt setting credit a r (exec c (code_of applied) a.regs a.y)
    signal_ends {c2} {credit} r signals enough up e =
        let branch : RunsTo c (code_of (if_equal a.d (a.d + 1) signalling [] ∷ [])) tested_registers (mid_charged 6 q.state)
        (jumped (exec c (code_of signalling) tested_registers (mid_charged 12 (mid_charged 6 q.state)))) =
        record {
          same =
              single_step c (if_equal a.d (a.d + 1) signalling []) tested_registers (mid_charged 6 q.state)
              ∙ (choose_first (first_word ∙ ap (λ w. Some w) signals) second_word refl (record { same = refl })).same;
        } in
        let run : RunsTo c (code_of applied) a.regs a.y (jumped (exec c (code_of signalling) tested_registers (mid_charged 12 (mid_charged 6 q.state)))) =
        and_then (record { same = is ∙ called_returns q word a.d a.regs h.end }) (and_then constant_falls branch) in
        let same : q.state.cost + 6 + 12 ≡ q.state.cost + 18 = omega arith in
        subst (λ o. EndsAt setting credit a r o)
        (sym (run.same ∙ ap (λ n. jumped (exec c (code_of signalling) tested_registers (record q.state { cost = n }))) same))
        (behind setting {c1 = c1} {c2 = 20 + c2} a a.d (omega arith) reached (omega (arith, enough)) h.up
        (behind setting {c1 = 18} {c2 = c2 + 2} behind_call a.d (omega arith)
        (reached_set setting {credit = 18} behind_call a.d (a.d + 1) signal_word 18 (omega arith) (omega arith) (omega arith)) (omega arith) (omega arith)
        (jumps setting {c1 = c2} behind_test (omega arith) up e)))

  -- words were not left
  pub wanting_ends :
      {credit : ℕ} (asked left_then : ℕ) (r : FlatEvaluated) → q.end ≡ no_room asked left_then → left_then < asked → RoomEnded setting setting.limit r.outcome
      → IsPrefix q.state.printed r.state.state.printed → PaidFrom credit a.z a.y r.state q.state → EndsAt setting credit a r (exec c (code_of applied) a.regs a.y)
  wanting_ends {credit} asked left_then r end less room printed paid =
      let run : RunsTo c (code_of applied) a.regs a.y (ends (no_room asked left_then) a.regs q.state) =
      and_ends tt (record { same = is ∙ called_wanting q asked left_then a.d a.regs end }) in
      subst (λ o. EndsAt setting credit a r o) (sym run.same) (stopped (record { because = (room, less); printed = printed; paid = λ ended. omega (arith, paid) }))
