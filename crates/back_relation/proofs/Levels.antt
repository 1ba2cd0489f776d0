-- Levels: what code does one level below, and a loop of the program.
use Rattle.std.proofs.Common.{◌≡◌, ℕ, zero, suc, ◌+◌, ◌≤◌, Bool, true, false, List, [], ◌∷◌, Some, refl, sym, ◌∙◌, subst, arith}
use Rattle.std.specs.Prelude.{slice_set, if◌then◌else◌}
use Rattle.lang_meaning.specs.Prefixes.{IsPrefix}
use Rattle.lang_meaning.specs.State.{DynamicContext}
use Rattle.lang_meaning.specs.Values.{Value, nil, is_true}
use Rattle.flat_language.specs.FlatForm.{FlatForm, while_form}
use Rattle.flat_language.specs.FlatMeaning.{mean, unless_nil, flat_meaning_at}
use Rattle.flat_language.specs.FlatSignals.{form}
use Rattle.flat_language.specs.FlatState.{FlatEnvironment, FlatState, FlatEvaluated, gives, charged, go_on}
use Rattle.mid_code.specs.declared.program.MidProcedure.{MidProcedure}
use Rattle.mid_code.specs.Costs.{test_cost, jump_cost}
use Rattle.mid_code.specs.Law.{Grown}
use Rattle.mid_code.specs.Meaning.{Task, enter, again, Context, test, run_procedure, exec, exec_step, turns, levels}
use Rattle.mid_code.specs.MidCode.{MidStep, MidCode, code_of}
use Rattle.mid_code.specs.State.{Registers, register, falls, no_level, ends, MidState, MidOutcome, Next, jumped}
use Rattle.mid_code.specs.State.{charged as mid_charged, go_on as mid_go_on}
use Rattle.mid_code.specs.Words.{compares}
use Rattle.mid_code.proofs.Growth.{both_grown, charged_grown, levels_grow, turns_grow, exec_grown, go_on_grown, test_grown, jumped_grown, same_grown}
use Rattle.mid_arena.proofs.Running.{RunsTo, and_then, none_left, constant_falls, go_on_twice, test_true, test_false}
use Rattle.back_relation.specs.Setting.{Setting}
use Rattle.back_relation.specs.Worlds.{World}
use Rattle.back_relation.specs.Activation.{FormScope}
use Rattle.back_relation.specs.Ends.{done, left_by, full_there, stopped, few_turns, form_credit}
use Rattle.back_relation.specs.Forms.{judged_credit, below_at, context_at, code_at, value_code, judged}
use Rattle.back_relation.specs.Starts.{FlatGrown, Start, EndsAt, ReachedFrom, LoopEnds}
use Rattle.back_relation.proofs.Growth.{same_flat, both_flat, then_grown, same_prefix, then_value}
use Rattle.mid_arena.specs.Tags.{nil_word}
use Rattle.mid_arena.proofs.Registers.{register_here}
use Rattle.back_lowering.specs.Codes.{lower}
use Rattle.back_lowering.specs.Steps.{Steps, constant}
use Rattle.back_relation.proofs.Choices.{go_gives}
use Rattle.back_relation.proofs.Parts.{go_on_falls, step_then}
use Rattle.back_relation.specs.FormLaws.{LawOfLoops, LawOfWhiles}
use Rattle.back_relation.specs.Points.{Point, start_at, loop, Here, JudgedHere, LoopHere}
use Rattle.back_relation.proofs.FormGrowth.{form_grows, below_grows}
use Rattle.back_relation.proofs.Points.{point_after, charged_point}
use Rattle.back_relation.proofs.Starts.{start_charged, ends_charged_by, ends_spared, tests_spared, reached_repaid, reached_cost, reached_set, reached_same}
use Rattle.back_relation.proofs.Then.{ends_go_on, ends_behind, reached_then}

module _ (setting : Setting) where
  abbrev pub deeper_levels : ℕ → Task → MidState → MidOutcome
  deeper_levels k = levels setting.procedures setting.turns_each k

  -- with no level there is none; with one more, a procedure is entered and a loop goes on in the context one level below, with all turns
  pub level_none : (task : Task) (y : MidState) → deeper_levels zero task y ≡ ends no_level [] y
  unfolding levels
  level_none task y = refl

  pub level_entered :
      (k : ℕ) (p : MidProcedure) (ws : List ℕ) (y : MidState) → deeper_levels (suc k) (enter p ws) y ≡ run_procedure (code_at setting k setting.turns_each) p ws y
  unfolding levels turns
  level_entered k p ws y = refl

  pub level_again :
      (k : ℕ) (s : MidStep) (regs : Registers) (y : MidState)
      → deeper_levels (suc k) (again s regs) y ≡ exec_step (code_at setting k setting.turns_each) s regs y
  unfolding levels turns
  level_again k s regs y = refl

  -- the meaning one level below
  pub meaning_below :
      (k : ℕ) (f : FlatForm) (env : FlatEnvironment) (around : DynamicContext) (z : FlatState)
      → below_at setting (suc k) (form f) env around z ≡ mean (context_at setting k) f env around z
  unfolding flat_meaning_at
  meaning_below zero f env around z = refl
  meaning_below (suc k) f env around z = refl

-- ---- a loop of the program, whose turns are levels on both sides: in a scope, with a first register, so many words, and so many registers

module _ (setting : Setting) (s : FormScope) (d m size : ℕ) where
  module _ (k n : ℕ) (fewer : n ≤ setting.turns_each) (t body : FlatForm) where
    abbrev c : Context
    c = code_at setting k n

    abbrev the_loop : MidStep
    the_loop = loop setting s d m size k n t body

    module _
        (test_sim : JudgedHere setting s d m size k n t)
        (body_sim : Here setting s d m size k n body)
        (again_sim : (j : ℕ) → k ≡ suc j → LoopHere setting s d m size j setting.turns_each t body)
      where
        -- the loop goes on one level below, or there is no level
        goes_on : (p : Point setting s d m size) → LoopEnds setting 0 (start_at setting s d m size n p) (below_at setting k (form (while_form t body)) p.env p.around p.z) (deeper_levels setting k (again the_loop p.regs) p.y)
        goes_on p = by k refl
          where
            by : (j : ℕ) → k ≡ j → LoopEnds setting 0 (start_at setting s d m size n p) (below_at setting j (form (while_form t body)) p.env p.around p.z) (deeper_levels setting j (again the_loop p.regs) p.y)
            by zero same =
                subst (λ q. LoopEnds setting 0 (start_at setting s d m size n p) (below_at setting zero (form (while_form t body)) p.env p.around p.z) q)
                (sym (level_none setting (again the_loop p.regs) p.y))
                (stopped (record {
                  because = refl;
                  printed = subst (λ ps. IsPrefix ps p.z.state.printed) (sym p.begins.call.things.represents.printed) (same_prefix p.z.state.printed);
                  paid = λ ended. omega arith;
                }))
            by (suc j) same =
                subst (λ r. LoopEnds setting 0 (start_at setting s d m size n p) r (deeper_levels setting (suc j) (again the_loop p.regs) p.y))
                (sym (meaning_below setting j (while_form t body) p.env p.around p.z))
                (subst (λ q. LoopEnds setting 0 (start_at setting s d m size n p) (mean (context_at setting j) (while_form t body) p.env p.around p.z) q)
                (sym (level_again setting j the_loop p.regs p.y)) (fewer_said (again_sim j same p)))
              where
                fewer_said : {r : FlatEvaluated} {q : MidOutcome} → LoopEnds setting 0 (start_at setting s d m size setting.turns_each p) r q → LoopEnds setting 0 (start_at setting s d m size n p) r q
                fewer_said (done x) = done (record { outcome = x.outcome; end = x.end; w' = x.w'; reached = x.reached; spare = x.spare })
                fewer_said (left_by x) = left_by x
                fewer_said (full_there x) = full_there x
                fewer_said (stopped x) = stopped x
                fewer_said (few_turns x) = few_turns (omega (arith, x, fewer))

        -- what a loop comes to behind what was reached
        loop_behind :
            {c1 c2 credit : ℕ} (p : Point setting s d m size) {w : World} {z : FlatState} {regs : Registers} {y : MidState} {r : FlatEvaluated} {q : MidOutcome}
            (x : ReachedFrom setting c1 (start_at setting s d m size n p) d w z regs y) → c1 + c2 ≤ credit → p.z.state.units ≤ z.state.units
            → LoopEnds setting c2 (start_at setting s d m size n (point_after setting s d m size n p x)) r q → LoopEnds setting credit (start_at setting s d m size n p) r q
        loop_behind p x enough more e =
            ends_behind setting (omega arith) x
            (λ f. record { outcome = f.outcome; end = f.end; w' = f.w'; reached = reached_then setting (omega arith) x enough f.reached; spare = omega (arith, x.back.paid, f.spare, enough) })
            enough more e

        -- what comes behind the body, and behind the test
        abbrev again_next : Next
        again_next regs y = deeper_levels setting k (again the_loop regs) (mid_charged jump_cost y)

        abbrev turn_next : Next
        turn_next regs y = mid_go_on (jumped (exec c (value_code setting s d body) regs y)) (λ g x. deeper_levels setting k (again the_loop g) x)

        turn_is : (regs : Registers) (y : MidState) → turn_next regs y ≡ mid_go_on (exec c (value_code setting s d body) regs y) again_next
        unfolding mid_go_on
        turn_is regs y =
            go_on_twice (exec c (value_code setting s d body) regs y) (λ g x. ends falls g (mid_charged jump_cost x)) (λ g x. deeper_levels setting k (again the_loop g) x)

        abbrev after_body : FlatEnvironment → DynamicContext → Value → FlatState → FlatEvaluated
        after_body env around ignored z = below_at setting k (form (while_form t body)) env around z

        again_grows : (g : Registers) (y : MidState) → Grown y (again_next g y).state
        again_grows g y =
            both_grown (charged_grown jump_cost y) ((levels_grow setting.procedures setting.turns_each k).at (again the_loop g) (mid_charged jump_cost y))

        -- a turn
        turn_sim : (p : Point setting s d m size) → LoopEnds setting 2 (start_at setting s d m size n p) (go_on (mean (context_at setting k) body p.env p.around p.z) (after_body p.env p.around)) (turn_next p.regs p.y)
        turn_sim p =
            subst (λ q. LoopEnds setting 2 (start_at setting s d m size n p) (go_on (mean (context_at setting k) body p.env p.around p.z) (after_body p.env p.around)) q)
            (sym (turn_is p.regs p.y))
            (ends_go_on setting (after_body p.env p.around) again_next (omega arith) (omega arith) (ends_spared setting (start_at setting s d m size n p) (body_sim p))
            (λ v z. below_grows setting k (form (while_form t body)) p.env p.around z) again_grows
            (λ x.
            let b : Point setting s d m size = point_after setting s d m size n p x.reached in
            let e : ReachedFrom setting 2 (start_at setting s d m size n b) d b.w b.z b.regs (mid_charged jump_cost b.y) = reached_cost setting {credit = 2} (start_at setting s d m size n b) d jump_cost (omega arith) in
            subst (λ r. LoopEnds setting 2 (start_at setting s d m size n p) r (mid_go_on (exec c (value_code setting s d body) p.regs p.y) again_next)) (sym (then_value _ (after_body p.env p.around) x.result x.outcome))
            (subst (λ q. LoopEnds setting 2 (start_at setting s d m size n p) (after_body p.env p.around x.result (mean (context_at setting k) body p.env p.around p.z).state) q) (sym (go_on_falls _ again_next x.end))
            (loop_behind {c1 = 0} {c2 = 2} p x.reached (omega arith) (form_grows setting k body p.env p.around p.z).units
            (loop_behind {c1 = 2} {c2 = 0} b e (omega arith) (omega arith) (goes_on (point_after setting s d m size n b e)))))))

        abbrev value_next : FlatEnvironment → DynamicContext → Value → FlatState → FlatEvaluated
        value_next env around v z = unless_nil v (go_on (mean (context_at setting k) body env around z) (after_body env around)) (gives nil z)

        abbrev test_next : Next
        test_next regs y = test (judged setting s d t).test turn_next (ends falls) regs y

        value_grows : (env : FlatEnvironment) (around : DynamicContext) (v : Value) (z : FlatState) → FlatGrown z (value_next env around v z).state
        value_grows env around v z = by (is_true v)
          where
            by : (b : Bool) → FlatGrown z (if b then go_on (mean (context_at setting k) body env around z) (after_body env around) else gives nil z).state
            by true =
                both_flat (form_grows setting k body env around z)
                (then_grown (mean (context_at setting k) body env around z) (after_body env around) (λ v x. below_grows setting k (form (while_form t body)) env around x))
            by false = same_flat z

        code_grows : (code : MidCode) (g : Registers) (y : MidState) → Grown y (exec c code g y).state
        code_grows code g y =
            exec_grown c (levels_grow setting.procedures setting.turns_each k)
            (turns_grow setting.procedures _ (levels_grow setting.procedures setting.turns_each k) n) code g y

        test_grows : (g : Registers) (y : MidState) → Grown y (test_next g y).state
        test_grows g y =
            test_grown (judged setting s d t).test turn_next (ends falls) g y
            (λ g y. go_on_grown _ _ y (jumped_grown _ y (code_grows (value_code setting s d body) g y)) (λ g y. (levels_grow setting.procedures setting.turns_each k).at _ y))
            (λ g y. same_grown y)

        -- the test was made
        judged_sim :
            (p : Point setting s d m size) (v : Value) (a b : ℕ) → register (judged setting s d t).test.first p.regs ≡ Some a → register (judged setting s d t).test.second p.regs ≡ Some b
            → compares (judged setting s d t).test.comparison a b ≡ is_true v → LoopEnds setting 20 (start_at setting s d m size n p) (value_next p.env p.around v p.z) (test_next p.regs p.y)
        judged_sim p v a b here there so = by (is_true v) so
          where
            e : ReachedFrom setting test_cost (start_at setting s d m size n p) d p.w p.z p.regs (mid_charged test_cost p.y)
            e = reached_cost setting (start_at setting s d m size n p) d test_cost (omega arith)

            by : (yes_or_no : Bool) → compares (judged setting s d t).test.comparison a b ≡ yes_or_no
                → LoopEnds setting 20 (start_at setting s d m size n p) (if yes_or_no then go_on (mean (context_at setting k) body p.env p.around p.z) (after_body p.env p.around) else gives nil p.z) (test_next p.regs p.y)
            by true so =
                subst (λ q. LoopEnds setting 20 (start_at setting s d m size n p) (go_on (mean (context_at setting k) body p.env p.around p.z) (after_body p.env p.around)) q)
                (sym (test_true (judged setting s d t).test turn_next (ends falls) p.regs p.y here there so))
                (loop_behind {c1 = test_cost} {c2 = 2} p e (omega arith) (omega arith) (turn_sim (point_after setting s d m size n p e)))
            by false so =
                subst (λ q. LoopEnds setting 20 (start_at setting s d m size n p) (gives nil p.z) q)
                (sym (test_false (judged setting s d t).test turn_next (ends falls) p.regs p.y here there so))
                (done (record { outcome = refl; end = refl; w' = p.w; reached = reached_cost setting (start_at setting s d m size n p) d test_cost (omega arith); spare = omega arith }))

        -- a loop of the program, behind its unit
        loop_behind_unit :
            (p : Point setting s d m size)
            → LoopEnds setting 300 (start_charged setting (start_at setting s d m size n p) 1) (mean (context_at setting k) (while_form t body) p.env p.around p.z) (exec_step c the_loop p.regs p.y)
        unfolding mean exec
        loop_behind_unit p =
            let b : Start setting = start_charged setting (start_at setting s d m size n p) 1 in
            ends_go_on setting (value_next p.env p.around) test_next (omega arith) (omega arith) (tests_spared setting b (test_sim b_point)) (value_grows p.env p.around) test_grows
            (λ x.
            let y : Point setting s d m size = point_after setting s d m size n b_point x.reached in
            subst (λ r. LoopEnds setting 300 b r (mid_go_on (exec c (code_of (judged setting s d t).ready) p.regs p.y) test_next)) (sym (then_value _ (value_next p.env p.around) x.result x.outcome))
            (subst (λ q. LoopEnds setting 300 b (value_next p.env p.around x.result (mean (context_at setting k) t p.env p.around (charged 1 p.z)).state) q) (sym (go_on_falls _ test_next x.end))
            (loop_behind {c1 = judged_credit} {c2 = 290} b_point x.reached (omega arith) (form_grows setting k t p.env p.around (charged 1 p.z)).units
            (more_credit y (judged_sim y x.result x.first x.second x.first_word x.second_word x.judged)))))
          where
            b_point : Point setting s d m size
            b_point = charged_point setting s d m size n p

            more_credit : (p : Point setting s d m size) {r : FlatEvaluated} {q : MidOutcome} → LoopEnds setting 20 (start_at setting s d m size n p) r q → LoopEnds setting 290 (start_at setting s d m size n p) r q
            more_credit p e =
                ends_behind setting (omega arith) (reached_same setting {credit = 0} (start_at setting s d m size n p) d)
                (λ f. record {
                  outcome = f.outcome;
                  end = f.end;
                  w' = f.w';
                  reached = reached_then setting (omega arith) (reached_same setting {credit = 0} (start_at setting s d m size n p) d) (omega arith) f.reached;
                  spare = omega (arith, f.spare);
                })
                (omega arith) (omega arith) e

        -- **a loop of the program**
        pub loop_sim : (p : Point setting s d m size) → LoopEnds setting 0 (start_at setting s d m size n p) (mean (context_at setting k) (while_form t body) p.env p.around p.z) (exec_step c the_loop p.regs p.y)
        loop_sim p =
            ends_charged_by setting {c1 = 300} {c2 = 0} (start_at setting s d m size n p) 1
            (λ f. record { outcome = f.outcome; end = f.end; w' = f.w'; reached = reached_repaid setting (start_at setting s d m size n p) 1 (omega arith) f.reached; spare = omega (arith, f.spare) })
            (omega arith) (loop_behind_unit p)

        -- **the form of a loop**: nil's word comes behind it
        pub while_sim : Here setting s d m size k n (while_form t body)
        unfolding lower
        while_sim p0 =
            let p : Point setting s d m size = charged_point setting s d m size n p0 in
            let nil_steps : Steps = constant d nil_word ∷ [] in
            let next : Next = λ g y. exec c (code_of nil_steps) g y in
            let r : FlatEvaluated = mean (context_at setting k) (while_form t body) p0.env p0.around p0.z in
            let q : MidOutcome = exec_step c the_loop p.regs p.y in
            subst (λ o. EndsAt setting form_credit (start_at setting s d m size n p) r o) (sym (step_then c the_loop nil_steps p.regs p.y))
            (subst (λ o. EndsAt setting form_credit (start_at setting s d m size n p) o (mid_go_on q next)) (go_gives r)
            (ends_go_on setting (λ v z. gives v z) next (omega arith) (omega arith) (loop_behind_unit p0) (λ v z. same_flat z) (λ g y. code_grows (code_of nil_steps) g y)
            (λ x.
            let b : Point setting s d m size = point_after setting s d m size n p x.reached in
            let runs : RunsTo c (code_of nil_steps) q.registers q.state (ends falls (slice_set q.registers d (Some nil_word)) (mid_charged 6 q.state)) =
            and_then constant_falls none_left in
            let whole : ReachedFrom setting 306 (start_at setting s d m size n p) d x.w' r.state (slice_set q.registers d (Some nil_word)) (mid_charged 6 q.state) =
            reached_then setting (omega arith) x.reached (omega arith)
            (reached_set setting {credit = 6} (start_at setting s d m size n b) d d nil_word 6 (omega arith) (omega arith) (omega arith)) in
            subst (λ o. EndsAt setting form_credit (start_at setting s d m size n p) o (mid_go_on q next)) (sym (then_value r (λ v z. gives v z) nil x.outcome))
            (subst (λ o. EndsAt setting form_credit (start_at setting s d m size n p) (gives nil r.state) o) (sym (go_on_falls q next x.end ∙ runs.same))
            (done (record {
              result = nil;
              outcome = refl;
              end = refl;
              w' = x.w';
              reached = record {
                kept = whole.kept;
                back = record { control = whole.back.control; blocks = whole.back.blocks; charged = whole.back.charged; paid = omega (arith, x.spare) };
              };
              word = nil_word;
              in_register = register_here q.registers d nil_word b.begins.first;
              of_value = refl;
            }))))))

pub loops_law : LawOfLoops
loops_law setting s d m size k turns t body fewer test_sim body_sim again_sim = loop_sim setting s d m size k turns fewer t body test_sim body_sim again_sim

pub whiles_law : LawOfWhiles
whiles_law setting s d m size k turns t body fewer test_sim body_sim again_sim = while_sim setting s d m size k turns fewer t body test_sim body_sim again_sim
