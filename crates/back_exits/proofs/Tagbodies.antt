-- **A tagbody**: its exit is made, its turns run, and nil's word comes behind them.
use Rattle.std.proofs.Common.{◌≡◌, ℕ, suc, ◌+◌, ◌<◌, ◌≤◌, Bool, true, false, [], ◌∷◌, ◌++◌, length, Some, refl, sym, ap, ◌∙◌, subst, arith}
use Rattle.std.specs.Prelude.{◌^◌, ◌-◌, ◌==◌, slice_set}
use Rattle.lang_meaning.specs.Meaning.{segment_of, with_turns}
use Rattle.lang_meaning.specs.State.{DynamicContext}
use Rattle.lang_meaning.specs.Values.{nil}
use Rattle.flat_language.specs.FlatForm.{FlatForms}
use Rattle.flat_language.specs.FlatMeaning.{mean, mean_sequence, from_segment}
use Rattle.flat_language.specs.FlatNodes.{count_forms}
use Rattle.flat_language.specs.FlatSignals.{turn}
use Rattle.flat_language.specs.FlatState.{FlatEnvironment, FlatState, FlatEvaluated, charged, exit_made, gives, go_on}
use Rattle.mid_code.specs.Meaning.{Context, exec, exec_step}
use Rattle.mid_code.specs.MidCode.{MidStep, code_of}
use Rattle.mid_code.specs.State.{Registers, falls, exhausted, ends, MidState, MidOutcome, Next}
use Rattle.mid_code.specs.State.{charged as mid_charged, go_on as mid_go_on}
use Rattle.mid_arena.specs.Tags.{nil_word}
use Rattle.mid_arena.proofs.Registers.{register_here}
use Rattle.mid_arena.proofs.Running.{RunsTo, and_then, none_left, constant_falls, in_two_parts}
use Rattle.back_lowering.specs.Codes.{lower}
use Rattle.back_lowering.specs.Steps.{Steps, constant}
use Rattle.back_relation.specs.Setting.{Setting}
use Rattle.back_relation.specs.Placed.{IsPlaced}
use Rattle.back_relation.specs.Activation.{FormScope}
use Rattle.back_relation.specs.Ends.{done}
use Rattle.back_relation.specs.Forms.{context_at, below_at, code_at}
use Rattle.back_relation.specs.Points.{Point, start_at}
use Rattle.back_relation.specs.Starts.{FlatGrown, Start, EndsAt, SparingAt, LoopEnds, ReachedFrom}
use Rattle.back_relation.proofs.Choices.{go_gives}
use Rattle.back_relation.proofs.FormGrowth.{below_grows}
use Rattle.back_relation.proofs.Growth.{same_flat, both_flat, same_prefix, then_grown, then_value}
use Rattle.back_relation.proofs.Parts.{go_on_falls, step_then}
use Rattle.back_relation.proofs.Points.{point_after, code_grows}
use Rattle.back_relation.proofs.Sequences.{sequence_grows}
use Rattle.back_relation.proofs.Starts.{start_charged, ends_sparing, reached_set}
use Rattle.back_relation.proofs.Then.{ends_go_on, ends_behind, reached_then}
use Rattle.back_exits.specs.Known.{FormsKnown}
use Rattle.back_exits.proofs.BlockRecords.{no_serial}
use Rattle.back_exits.proofs.Exits.{landed_grows}
use Rattle.back_exits.specs.Tagbodies.{SegmentsHere, LawOfTagbodies}
use Rattle.back_exits.specs.Turns.{turns_loop, with_own, segment_codes, turn_meant, TurnsHere}
use Rattle.back_exits.proofs.Serials.{drawing, drawn, counted_registers, counted_state, draws, draws_none, drawn_registers, drawn_state, world_drawn, reached_drawn, first_turn}
use Rattle.back_exits.proofs.Turns.{turn_sim}

turn_grows :
    (setting : Setting) (k : ℕ) (all : FlatForms) (e i : ℕ) (env : FlatEnvironment) (around : DynamicContext) (z : FlatState)
    → FlatGrown z (turn_meant setting k all e i env around z).state
turn_grows setting k all e i env around z =
    let inner : FlatEvaluated = mean_sequence (context_at setting k) nil (from_segment i all) (with_own e env) (with_turns e around) z in
    both_flat
    (both_flat (sequence_grows setting k nil (from_segment i all) (with_own e env) (with_turns e around) z) (then_grown inner (λ v after. gives nil after) (λ v y. same_flat y)))
    (landed_grows setting e (λ v landing y. below_at setting k (turn e (from_segment (segment_of landing) all) all) (with_own e env) around y)
    (λ v landing y. below_grows setting k (turn e (from_segment (segment_of landing) all) all) (with_own e env) around y) (go_on inner (λ v after. gives nil after)))

module _ (setting : Setting) (placed : IsPlaced setting) (s : FormScope) (d m n size k t : ℕ) (all : FlatForms) (known : FormsKnown s) (wide : d + 9 ≤ size) (enough : 8 + m ≤ n)
    (some : 1 ≤ count_forms all) (small : count_forms all < 2 ^ 32) (fewer : t ≤ setting.turns_each) (segments_here : SegmentsHere setting s d m size k t all)
    (below_here : (j : ℕ) → k ≡ suc j → TurnsHere setting s d n size j setting.turns_each all) (p : Point setting s d n size) where
  abbrev c : Context
  c = code_at setting k t

  abbrev units : ℕ
  units = 2 + (count_forms all - 1)

  abbrev a0 : Start setting
  a0 = start_at setting s d n size t p

  abbrev a : Start setting
  a = start_charged setting a0 units

  -- the point behind the units of the form
  abbrev pc : Point setting s d n size
  pc = record {
    rs = p.rs;
    valid = p.valid;
    w = p.w;
    env = p.env;
    around = p.around;
    z = charged units p.z;
    regs = p.regs;
    y = p.y;
    begins = a.begins;
    count = p.count;
  }

  wide_here : d + 9 ≤ length p.regs
  wide_here = let same = p.count in omega (arith, wide, same)

  abbrev loop : MidStep
  loop = turns_loop d (count_forms all) (segment_codes setting s d all)

  abbrev nil_steps : Steps
  nil_steps = constant d nil_word ∷ []

  abbrev steps : Steps
  steps = drawing d ++ (loop ∷ nil_steps)

  abbrev behind : Next
  behind regs y = exec c (code_of nil_steps) regs y

  abbrev result : FlatEvaluated
  result = turn_meant setting k all p.z.state.exits 0 p.env p.around (exit_made (charged units p.z))

  grown_behind : FlatGrown (exit_made (charged units p.z)) result.state
  grown_behind = turn_grows setting k all p.z.state.exits 0 p.env p.around (exit_made (charged units p.z))

  grown : FlatGrown a.z result.state
  grown = both_flat (record { printed = same_prefix a.z.state.printed; units = omega arith; exits = omega arith }) grown_behind

  one_more : p.z.state.exits + 1 ≤ result.state.state.exits
  one_more = let g = grown_behind in omega (arith, g.exits)

  -- ---- no serial number

  ended : (drawn setting placed c a (count_forms all) some wide_here == 2 ^ 32 - 1) ≡ true
      → exec c (code_of steps) p.regs p.y ≡ ends exhausted (counted_registers setting placed c a (count_forms all) some wide_here) (mid_charged 26 (counted_state setting placed c a (count_forms all) some wide_here))
  unfolding mid_go_on
  ended last =
      in_two_parts c (drawing d) (loop ∷ nil_steps) p.regs p.y
      ∙ ap (λ q. mid_go_on q (λ rs y. exec c (code_of (loop ∷ nil_steps)) rs y)) (draws_none setting placed c a (count_forms all) some wide_here last).same

  -- ---- the turns

  module _ (few : (drawn setting placed c a (count_forms all) some wide_here == 2 ^ 32 - 1) ≡ false) where
    abbrev regs1 : Registers
    regs1 = drawn_registers setting placed c a (count_forms all) some wide_here

    abbrev y1 : MidState
    y1 = drawn_state setting placed c a (count_forms all) some wide_here

    reached : ReachedFrom setting 38 (start_at setting s d n size t pc) d (world_drawn setting placed c a (count_forms all) some wide_here few) (exit_made (charged units p.z)) regs1 y1
    reached = reached_drawn setting placed c a (count_forms all) some wide_here few

    abbrev p1 : Point setting s d n size
    p1 = point_after setting s d n size t pc reached

    abbrev ran : MidOutcome
    ran = exec_step c loop regs1 y1

    turns_end : LoopEnds setting 224 a result ran
    turns_end =
        ends_behind setting (omega arith) reached
        (λ f. record {
          outcome = f.outcome;
          end = f.end;
          w' = f.w';
          reached = reached_then setting (omega arith) reached (omega arith) f.reached;
          spare = omega (arith, reached.back.paid, f.spare);
        })
        (omega arith) (omega arith)
        (turn_sim setting placed s d m n size k t all known wide enough small fewer segments_here below_here p1 p.z.state.exits 0 (first_turn setting placed c a (count_forms all) some wide_here few))

    runs_so : exec c (code_of steps) p.regs p.y ≡ mid_go_on ran behind
    unfolding mid_go_on
    runs_so =
        in_two_parts c (drawing d) (loop ∷ nil_steps) p.regs p.y
        ∙ ap (λ q. mid_go_on q (λ rs y. exec c (code_of (loop ∷ nil_steps)) rs y)) (draws setting placed c a (count_forms all) some wide_here few).same
        ∙ step_then c loop nil_steps regs1 y1

    ends_so : EndsAt setting 600 a result (mid_go_on ran behind)
    ends_so =
        subst (λ o. EndsAt setting 600 a o (mid_go_on ran behind)) (go_gives result)
        (ends_go_on setting (λ v z. gives v z) behind (omega arith) (omega arith) turns_end (λ v z. same_flat z) (λ g y. code_grows setting s d n size k t nil_steps g y)
        (λ x.
        let b : Point setting s d n size = point_after setting s d n size t pc x.reached in
        let runs : RunsTo c (code_of nil_steps) ran.registers ran.state (ends falls (slice_set ran.registers d (Some nil_word)) (mid_charged 6 ran.state)) =
        and_then constant_falls none_left in
        subst (λ o. EndsAt setting 600 a o (mid_go_on ran behind)) (sym (then_value result (λ v z. gives v z) nil x.outcome))
        (subst (λ o. EndsAt setting 600 a (gives nil result.state) o) (sym (go_on_falls ran behind x.end ∙ runs.same))
        (done (record {
          result = nil;
          outcome = refl;
          end = refl;
          w' = x.w';
          reached =
              reached_then setting (omega arith) x.reached (omega arith)
              (reached_set setting {credit = 6} (start_at setting s d n size t b) d d nil_word 6 (omega arith) (omega arith) (omega arith));
          word = nil_word;
          in_register = register_here ran.registers d nil_word b.begins.first;
          of_value = refl;
        })))))

  -- **a tagbody**, behind its units
  tagbody_ends : EndsAt setting 600 a result (exec c (code_of steps) p.regs p.y)
  tagbody_ends = by (drawn setting placed c a (count_forms all) some wide_here == 2 ^ 32 - 1) refl
    where
      by : (b : Bool) → (drawn setting placed c a (count_forms all) some wide_here == 2 ^ 32 - 1) ≡ b → EndsAt setting 600 a result (exec c (code_of steps) p.regs p.y)
      by true last =
          subst (λ q. EndsAt setting 600 a result q) (sym (ended last))
          (no_serial setting a result (counted_registers setting placed c a (count_forms all) some wide_here) (mid_charged 26 (counted_state setting placed c a (count_forms all) some wide_here)) refl (omega arith) grown one_more last)
      by false few = subst (λ q. EndsAt setting 600 a result q) (sym (runs_so few)) (ends_so few)

  pub tagbody_sim : SparingAt setting a0 result (exec c (code_of steps) p.regs p.y)
  tagbody_sim = ends_sparing setting {c1 = 600} a0 units (omega arith) (omega arith) tagbody_ends

pub tagbodies_law : LawOfTagbodies
unfolding mean lower
tagbodies_law setting s d m n size k turns all placed known wide enough some small fewer segments_here below_here p =
    tagbody_sim setting placed s d m n size k turns all known wide enough some small fewer segments_here below_here p
