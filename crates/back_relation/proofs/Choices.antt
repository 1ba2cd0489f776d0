-- Choices: one code or another, as a test says.
use Rattle.std.proofs.Common.{◌≡◌, ℕ, ◌+◌, ◌≤◌, Bool, true, false, Some, refl, sym, ap, ◌∙◌, subst, arith}
use Rattle.std.specs.Prelude.{if◌then◌else◌}
use Rattle.lang_meaning.specs.State.{Outcome, value, exit, full, more}
use Rattle.flat_language.specs.FlatState.{FlatEvaluated, gives, go_on_from, go_on}
use Rattle.mid_code.specs.declared.operation.Test.{Test}
use Rattle.mid_code.specs.Costs.{test_cost, jump_cost}
use Rattle.mid_code.specs.Law.{Grown}
use Rattle.mid_code.specs.Meaning.{Context, exec, exec_step}
use Rattle.mid_code.specs.MidCode.{MidCode, choose}
use Rattle.mid_code.specs.State.{Registers, register, falls, ends, MidState, MidOutcome, Next, jumped}
use Rattle.mid_code.specs.State.{charged as mid_charged, go_on as mid_go_on}
use Rattle.mid_code.specs.Words.{compares}
use Rattle.mid_code.proofs.Growth.{charged_grown}
use Rattle.mid_arena.proofs.Running.{choose_first, choose_second}
use Rattle.back_relation.specs.Setting.{Setting}
use Rattle.back_relation.specs.Ends.{done}
use Rattle.back_relation.specs.Forms.{FormEnds}
use Rattle.back_relation.proofs.Growth.{same_flat}
use Rattle.back_relation.specs.Starts.{Start, EndsFrom, EndsAt, FellFrom}
use Rattle.back_relation.proofs.Starts.{start_after, reached_cost, two, behind}

pub go_gives : (r : FlatEvaluated) → go_on r (λ v z. gives v z) ≡ r
go_gives r = from r.outcome refl
  where
    from : (o : Outcome) → r.outcome ≡ o → go_on r (λ v z. gives v z) ≡ r
    from (value v) e = ap (λ o. go_on_from o r.state (λ v z. gives v z)) e ∙ ap (λ o. record { outcome = o; state = r.state }) (sym e)
    from (exit x v landing) e = ap (λ o. go_on_from o r.state (λ v z. gives v z)) e ∙ ap (λ o. record { outcome = o; state = r.state }) (sym e)
    from (full asked left_then) e = ap (λ o. go_on_from o r.state (λ v z. gives v z)) e ∙ ap (λ o. record { outcome = o; state = r.state }) (sym e)
    from more e = ap (λ o. go_on_from o r.state (λ v z. gives v z)) e ∙ ap (λ o. record { outcome = o; state = r.state }) (sym e)

module _ (setting : Setting) where
  -- **code behind a form** of which the meaning knows nothing
  pub after :
      {c1 c2 credit : ℕ} (a : Start setting) (d1 : ℕ) {r : FlatEvaluated} {q : MidOutcome} (next : Next) → a.d ≤ d1 → c1 + c2 ≤ credit
      → a.z.state.units ≤ r.state.state.units → EndsFrom setting c1 a d1 r q → ((g : Registers) (y : MidState) → Grown y (next g y).state)
      → ((x : FellFrom setting c1 a d1 r q)
      → FormEnds setting c2 a.turns a.rs a.valid a.s a.d x.w' a.env a.around r.state q.registers q.state (gives x.result r.state) (next q.registers q.state))
      → EndsAt setting credit a r (mid_go_on q next)
  after {c1} {c2} {credit} a d1 {r} {q} next l enough up x grown h =
      subst (λ p. EndsAt setting credit a p (mid_go_on q next)) (go_gives r)
      (two setting {c1 = c1} {c2 = c2} a d1 (λ v z. gives v z) next l enough up x (λ v z. same_flat z) grown h)

  -- a jump
  pub jumps :
      {c1 credit : ℕ} (a : Start setting) {r : FlatEvaluated} {q : MidOutcome} → c1 + 2 ≤ credit → a.z.state.units ≤ r.state.state.units → EndsAt setting c1 a r q
      → EndsAt setting credit a r (jumped q)
  unfolding mid_go_on
  jumps {c1} {credit} a {r} {q} enough up x =
      after {c1 = c1} {c2 = 2} a a.d (λ g y. ends falls g (mid_charged jump_cost y)) (omega arith) enough up x (λ g y. charged_grown jump_cost y)
      (λ f.
      let b : Start setting = start_after setting a a.d a.d a.n (omega arith) (omega arith) (omega arith) a.begins.first f.reached in
      done (record {
        result = f.result;
        outcome = refl;
        end = refl;
        w' = f.w';
        reached = reached_cost setting {credit = 2} b a.d jump_cost (omega arith);
        word = f.word;
        in_register = f.in_register;
        of_value = f.of_value;
      }))

  -- where a test was made
  abbrev pub tested : Start setting → Start setting
  tested a =
      start_after setting a a.d a.d a.n (omega arith) (omega arith) (omega arith) a.begins.first (reached_cost setting {credit = test_cost} a a.d test_cost (omega arith))

  -- **a choice**
  pub choice :
      {c1 credit : ℕ} (c : Context) (a : Start setting) (t : Test) (first second : MidCode) (v w : ℕ) (b : Bool) (f g : FlatEvaluated)
      → register t.first a.regs ≡ Some v → register t.second a.regs ≡ Some w → compares t.comparison v w ≡ b → c1 + 14 ≤ credit
      → a.z.state.units ≤ f.state.state.units → a.z.state.units ≤ g.state.state.units
      → (b ≡ true → EndsAt setting c1 (tested a) f (exec c first (tested a).regs (tested a).y))
      → (b ≡ false → EndsAt setting c1 (tested a) g (exec c second (tested a).regs (tested a).y))
      → EndsAt setting credit a (if b then f else g) (exec_step c (choose t first second) a.regs a.y)
  choice {c1} {credit} c a t first second v w true f g here there so enough f_up g_up yes_sim no_sim =
      subst (λ q. EndsAt setting credit a f q) (sym (choose_first here there so (record { same = refl })).same)
      (behind setting {c1 = test_cost} {c2 = c1 + 2} a a.d (omega arith) (reached_cost setting a a.d test_cost (omega arith)) (omega arith) (omega arith)
      (jumps (tested a) (omega arith) f_up (yes_sim refl)))
  choice {c1} {credit} c a t first second v w false f g here there so enough f_up g_up yes_sim no_sim =
      subst (λ q. EndsAt setting credit a g q) (sym (choose_second here there so (record { same = refl })).same)
      (behind setting {c1 = test_cost} {c2 = c1 + 2} a a.d (omega arith) (reached_cost setting a a.d test_cost (omega arith)) (omega arith) (omega arith)
      (jumps (tested a) (omega arith) g_up (no_sim refl)))
