-- A loop that counts turns, whose body calls something: what follows the call is the rest of the body and the loop with a turn less.
use Rattle.std.proofs.Common.{◌≡◌, ℕ, suc, true, ◌∷◌, ◌++◌, Some, refl, ap, ◌∙◌}
use Rattle.mid_code.specs.declared.operation.Counted.{Counted}
use Rattle.mid_code.specs.declared.operation.Counted.TheVariants.{Turn}
use Rattle.mid_code.specs.declared.operation.Test.{Test}
use Rattle.mid_code.specs.Costs.{test_cost}
use Rattle.mid_code.specs.Law.{Grown}
use Rattle.mid_code.specs.Meaning.{Context, exec, exec_step, turns}
use Rattle.mid_code.specs.MidCode.{MidStep, MidCode, repeat, code_of}
use Rattle.mid_code.specs.State.{Registers, register, falls, ends, MidState, Next, charged, go_on, jumped}
use Rattle.mid_code.specs.Words.{compares}
use Rattle.mid_code.proofs.Growth.{go_on_grown, jumped_grown, exec_grown, count_grown, levels_grow, turns_grow}
use Rattle.mid_arena.proofs.Running.{RunsTo, test_true, loop_test, loop_turn, loop_again, go_on_twice, in_two_parts}
use Rattle.back_lowering.specs.Steps.{Steps}
use Rattle.back_relation.specs.Setting.{Setting}
use Rattle.back_relation.specs.Forms.{code_at}

module _ (c : Context) (how : Counted) (head pre : Steps) (s : MidStep) (post : Steps) (t : Test) where
  abbrev body : MidCode
  body = code_of (pre ++ s ∷ post)

  -- what follows the call
  abbrev pub behind_call : Next
  behind_call g x = go_on (jumped (exec c (code_of post) g x)) (loop_again c how (code_of head) t body)

  -- **the test holds, and the body comes to the call**
  pub loop_calls :
      {a b : ℕ} {rs rs' rs'' : Registers} {z z' z'' : MidState} → RunsTo c (code_of head) rs z (ends falls rs' z') → register t.first rs' ≡ Some a → register t.second rs' ≡ Some b
      → compares t.comparison a b ≡ true → RunsTo c (code_of pre) rs' (charged test_cost z') (ends falls rs'' z'')
      → exec_step c (repeat how (code_of head) t body) rs z ≡ go_on (exec_step c s rs'' z'') behind_call
  unfolding exec go_on
  loop_calls {rs' = rs'} {rs'' = rs''} {z' = z'} {z'' = z''} g e f h k =
      ap (λ r. go_on r (loop_test c how (code_of head) t body)) g.same ∙ test_true t (loop_turn c how (code_of head) t body) (ends falls) rs' z' e f h
      ∙ ap (λ r. go_on (jumped r) (loop_again c how (code_of head) t body))
      (in_two_parts c pre (s ∷ post) rs' (charged test_cost z') ∙ ap (λ r. go_on r (λ g x. exec c (code_of (s ∷ post)) g x)) k.same)
      ∙ ap (λ r. go_on r (loop_again c how (code_of head) t body)) (go_on_twice (exec_step c s rs'' z'') (λ g x. exec c (code_of post) g x) (λ g x. ends falls g (charged 2 x)))
      ∙ go_on_twice (exec_step c s rs'' z'') (λ g x. jumped (exec c (code_of post) g x)) (loop_again c how (code_of head) t body)

-- with a turn less
pub again_runs :
    (setting : Setting) (k n : ℕ) (head inner : MidCode) (t : Test) (g : Registers) (x : MidState)
    → loop_again (code_at setting k (suc n)) Turn head t inner g x ≡ exec_step (code_at setting k n) (repeat Turn head t inner) g x
unfolding turns
again_runs setting k n head inner t g x = refl

-- such code only grows
pub behind_call_grows : (setting : Setting) (k n : ℕ) (head pre : Steps) (s : MidStep) (post : Steps) (t : Test) (g : Registers) (x : MidState)
    → Grown x (behind_call (code_at setting k n) Turn head pre s post t g x).state
behind_call_grows setting k n head pre s post t g x =
    go_on_grown (jumped (exec (code_at setting k n) (code_of post) g x)) (loop_again (code_at setting k n) Turn (code_of head) t (code_of (pre ++ s ∷ post))) x
    (jumped_grown (exec (code_at setting k n) (code_of post) g x) x
    (exec_grown (code_at setting k n) (levels_grow setting.procedures setting.turns_each k) (turns_grow setting.procedures _ (levels_grow setting.procedures setting.turns_each k) n) (code_of post) g x))
    (λ rs y.
    count_grown (code_at setting k n) (levels_grow setting.procedures setting.turns_each k) (turns_grow setting.procedures _ (levels_grow setting.procedures setting.turns_each k) n) Turn _ y)
