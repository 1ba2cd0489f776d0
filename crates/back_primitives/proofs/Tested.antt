-- Tests: code fell out, and two registers compare as the value is true; what is shown of tests behind other steps.
use Rattle.std.proofs.Common.{◌≡◌, ℕ, ◌+◌, ◌≤◌, Bool, ◌++◌, length, Some, refl, sym, ◌∙◌, subst, arith}
use Rattle.std.specs.Prelude.{◌==◌, not, if◌then◌else◌}
use Rattle.lang_meaning.specs.Values.{Value, is_true}
use Rattle.lang_meaning.specs.Counts.{unit_cost}
use Rattle.flat_language.specs.FlatState.{FlatState, FlatEvaluated, gives}
use Rattle.mid_code.specs.Costs.{jump_cost}
use Rattle.mid_code.specs.declared.operation.Test.{Test}
use Rattle.mid_code.specs.Law.{Grown}
use Rattle.mid_code.specs.Meaning.{Context, exec}
use Rattle.mid_code.specs.MidCode.{code_of}
use Rattle.mid_code.specs.State.{Registers, register, falls, ends, MidState, MidOutcome, Next, jumped}
use Rattle.mid_code.specs.State.{charged as mid_charged, go_on as mid_go_on}
use Rattle.mid_code.specs.Words.{compares}
use Rattle.mid_code.proofs.Growth.{charged_grown, exec_grown, levels_grow, turns_grow}
use Rattle.mid_arena.specs.Tags.{nil_word}
use Rattle.mid_arena.proofs.Running.{RunsTo, in_two_parts}
use Rattle.back_lowering.specs.Steps.{Steps}
use Rattle.back_relation.specs.Setting.{Setting}
use Rattle.back_relation.specs.Worlds.{World}
use Rattle.back_relation.specs.Ends.{Ends, Left, done}
use Rattle.back_relation.specs.Forms.{FellJudged, code_at}
use Rattle.back_relation.specs.Starts.{Start, EndsAt, FellFrom, ReachedFrom}
use Rattle.back_relation.proofs.Choices.{go_gives}
use Rattle.back_relation.proofs.Growth.{same_flat}
use Rattle.back_relation.proofs.Judging.{truth_of_word}
use Rattle.back_relation.proofs.Parts.{go_on_falls}
use Rattle.back_relation.proofs.Starts.{start_after, reached_cost}
use Rattle.back_relation.proofs.Then.{reached_then, ends_behind, ends_go_on}
use Rattle.back_primitives.specs.Applying.{TestAt}
use Rattle.back_primitives.proofs.Choosing.{Beside, beside_less, reached_beside, start_beside, Chosen}

-- steps fall out, and then the test says so
pub record Tells (c : Context) (test : Test) (rest : Steps) (regs : Registers) (y : MidState) (d most : ℕ) (b : Bool) : Type 0 where
  pub regs' : Registers
  pub cost : ℕ
  pub run : RunsTo c (code_of rest) regs y (ends falls regs' (mid_charged cost y))
  pub beside : Beside d regs regs'
  pub first : ℕ
  pub second : ℕ
  pub first_word : register test.first regs' ≡ Some first
  pub second_word : register test.second regs' ≡ Some second
  pub judged : compares test.comparison first second ≡ b
  pub within : cost ≤ most

module _ (setting : Setting) where
  abbrev FellAt : ℕ → Start setting → Test → FlatEvaluated → MidOutcome → Type 0
  FellAt credit a test r q = FellJudged setting credit a.rs a.valid a.s a.d a.w a.env a.around a.z a.regs a.y test r q

  -- a value that is known is judged at once
  pub told_at_once :
      {credit : ℕ} (a : Start setting) (c : Context) (test : Test) (ready : Steps) (v : Value) → Tells c test ready a.regs a.y a.d credit (is_true v)
      → TestAt setting credit a test (gives v a.z) (exec c (code_of ready) a.regs a.y)
  told_at_once {credit} a c test ready v t =
      subst (λ o. TestAt setting credit a test (gives v a.z) o) (sym t.run.same)
      (done (record {
        result = v;
        outcome = refl;
        end = refl;
        w' = a.w;
        reached = reached_beside setting a t.regs' t.cost t.beside t.within;
        first = t.first;
        second = t.second;
        first_word = t.first_word;
        second_word = t.second_word;
        judged = t.judged;
      }))

  -- behind what was done
  pub test_behind :
      {c1 c2 credit : ℕ} (a : Start setting) (test : Test) {w : World} {z : FlatState} {regs : Registers} {y : MidState} {r : FlatEvaluated} {q : MidOutcome}
      (x : ReachedFrom setting c1 a a.d w z regs y) → c1 + c2 ≤ credit → a.z.state.units ≤ z.state.units
      → TestAt setting c2 (start_after setting a a.d a.d a.n (omega arith) (omega arith) (omega arith) a.begins.first x) test r q → TestAt setting credit a test r q
  test_behind a test x enough up e =
      ends_behind setting (omega arith) x
      (λ f. record {
        result = f.result;
        outcome = f.outcome;
        end = f.end;
        w' = f.w';
        reached = reached_then setting (omega arith) x enough f.reached;
        first = f.first;
        second = f.second;
        first_word = f.first_word;
        second_word = f.second_word;
        judged = f.judged;
      })
      enough up e

  -- what goes on behind a part, of which the meaning knows nothing
  test_after :
      {D : Type 0} {c1 credit : ℕ} (a : Start setting) (test : Test) {r : FlatEvaluated} {q : MidOutcome} (next : Next) → c1 ≤ credit
      → Ends setting (c1 + unit_cost) D (Left setting c1 a.rs a.valid a.s a.d a.w a.env a.around a.z a.regs a.y r q) a.turns a.z a.y r q
      → ((g : Registers) (y : MidState) → Grown y (next g y).state) → (D → FellAt credit a test r (mid_go_on q next)) → TestAt setting credit a test r (mid_go_on q next)
  test_after {D} {c1} {credit} a test {r} {q} next enough e grown h =
      subst (λ o. TestAt setting credit a test o (mid_go_on q next)) (go_gives r)
      (ends_go_on setting (λ v z. gives v z) next (omega arith) enough e (λ v z. same_flat z) grown
      (λ x. done (subst (λ o. FellAt credit a test o (mid_go_on q next)) (sym (go_gives r)) (h x))))

  test_jumps :
      {c1 credit : ℕ} (a : Start setting) (test : Test) {r : FlatEvaluated} {q : MidOutcome} → c1 + 2 ≤ credit → TestAt setting c1 a test r q
      → TestAt setting credit a test r (jumped q)
  test_jumps {c1} {credit} a test {r} {q} enough e =
      test_after {c1 = c1} a test (λ g y. ends falls g (mid_charged jump_cost y)) (omega (arith, enough)) e (λ g y. charged_grown jump_cost y)
      (λ (f : FellAt c1 a test r q).
      let b : Start setting = start_after setting a a.d a.d a.n (omega arith) (omega arith) (omega arith) a.begins.first f.reached in
      subst (λ o. FellAt credit a test r o) (sym (go_on_falls q (λ g y. ends falls g (mid_charged jump_cost y)) f.end))
      (record {
        result = f.result;
        outcome = f.outcome;
        end = refl;
        w' = f.w';
        reached = reached_then setting (omega arith) f.reached enough (reached_cost setting {credit = 2} b a.d jump_cost (omega arith));
        first = f.first;
        second = f.second;
        first_word = f.first_word;
        second_word = f.second_word;
        judged = f.judged;
      }))

  -- behind a choice
  pub chosen_test :
      {c1 credit t most : ℕ} {code first second : Steps} {b : Bool} (a : Start setting) (c : Context) (h : Chosen setting c a.regs a.y t most code first second b) (low : a.d ≤ t)
      (test : Test) (r : FlatEvaluated) → c1 + most ≤ credit
      → TestAt setting c1 (start_beside setting a h.regs' h.cost (beside_less low h.beside)) test r
      (exec c (code_of (if b then first else second)) h.regs' (mid_charged h.cost a.y))
      → TestAt setting credit a test r (exec c (code_of code) a.regs a.y)
  chosen_test {c1} {credit} a c h low test r enough e =
      subst (λ o. TestAt setting credit a test r o) (sym h.run)
      (test_behind {c1 = h.cost} {c2 = c1 + 2} a test (reached_beside setting {credit = h.cost} a h.regs' h.cost (beside_less low h.beside) (omega arith))
      (let small = h.within in omega (arith, small, enough)) (omega arith)
      (test_jumps {c1 = c1} (start_beside setting a h.regs' h.cost (beside_less low h.beside)) test (omega arith) e))

  -- **a value comes in the first register, and is judged behind it**
  pub value_told :
      {c1 c2 credit : ℕ} (k : ℕ) (a : Start setting) (test : Test) (ss rest : Steps) (r : FlatEvaluated)
      → EndsAt setting c1 a r (exec (code_at setting k a.turns) (code_of ss) a.regs a.y) → c1 + c2 ≤ credit
      → ((regs : Registers) (y : MidState) (word : ℕ) → length regs ≡ length a.regs → register a.d regs ≡ Some word
      → Tells (code_at setting k a.turns) test rest regs y a.d c2 (not (word == nil_word)))
      → TestAt setting credit a test r (exec (code_at setting k a.turns) (code_of (ss ++ rest)) a.regs a.y)
  value_told {c1} {c2} {credit} k a test ss rest r e enough tells =
      subst (λ o. TestAt setting credit a test r o) (sym (in_two_parts c ss rest a.regs a.y))
      (test_after {c1 = c1} a test (λ g y. exec c (code_of rest) g y) (omega (arith, enough)) e
      (λ g y. exec_grown c (levels_grow setting.procedures setting.turns_each k) (turns_grow setting.procedures _ (levels_grow setting.procedures setting.turns_each k) a.turns) (code_of rest) g y)
      told)
    where
      c : Context
      c = code_at setting k a.turns

      q : MidOutcome
      q = exec c (code_of ss) a.regs a.y

      told : FellFrom setting c1 a a.d r q → FellAt credit a test r (mid_go_on q (λ g y. exec c (code_of rest) g y))
      told x =
          let b : Start setting = start_after setting a a.d a.d a.n (omega arith) (omega arith) (omega arith) a.begins.first x.reached in
          let t : Tells c test rest q.registers q.state a.d c2 (not (x.word == nil_word)) = tells q.registers q.state x.word x.reached.kept.registers.count x.in_register in
          let few = t.within in
          subst (λ o. FellAt credit a test r o) (sym (go_on_falls q (λ g y. exec c (code_of rest) g y) x.end ∙ t.run.same))
          (record {
            result = x.result;
            outcome = x.outcome;
            end = refl;
            w' = x.w';
            reached =
                reached_then setting (omega arith) x.reached (omega (arith, few, enough)) (reached_beside setting {credit = t.cost} b t.regs' t.cost t.beside (omega arith));
            first = t.first;
            second = t.second;
            first_word = t.first_word;
            second_word = t.second_word;
            judged = t.judged ∙ truth_of_word setting x.reached.kept.world.things x.result x.word x.of_value;
          })
