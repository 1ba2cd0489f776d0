-- What code costs that calls nothing: no more than its steps say, and its loops once more for each turn that is left.
use Rattle.std.proofs.Common.{◌≡◌, ℕ, zero, suc, ◌+◌, ◌≤◌, Bool, true, false, List, [], ◌∷◌, Option, Some, None, refl, arith}
use Rattle.std.specs.Prelude.{◌&&◌}
use Rattle.mid_code.specs.declared.operation.Counted.TheVariants.{Level, Turn}
use Rattle.mid_code.specs.declared.operation.Operation.{Operation}
use Rattle.mid_code.specs.declared.operation.Operation.TheVariants.{Move, Constant, Compute, Load, Store, Request, Draw, Put, Get, Call}
use Rattle.mid_code.specs.declared.operation.Test.{Test}
use Rattle.mid_code.specs.declared.program.MidProcedure.{MidProcedure}
use Rattle.mid_code.specs.Arena.{Block}
use Rattle.mid_code.specs.Costs.{operation_cost, test_cost, jump_cost, return_cost, entry_cost}
use Rattle.mid_code.specs.MidCode.{MidStep, perform, choose, switch, repeat, with_block, lend, return_word, cut_to, halt_with, end_unhandled, MidCode, no_step, step_and, code_of}
use Rattle.mid_code.specs.State.{Registers, first_registers, MidState, End, falls, MidOutcome, Next, ends, charged, go_on, go_on_from, with_some, choose_by, jumped}
use Rattle.mid_code.specs.Meaning.{get_from, test, Task, enter, again, Context, context_of, operate, left_from, leaves, exec, exec_step, turns}
use Rattle.mid_arena.specs.CodeCosts.{step_cost, code_cost, procedure_cost}
use Rattle.mid_arena.proofs.Running.{loop_again, loop_turn, loop_test, entered}

-- it calls nothing, lays nothing, and its loops count turns and have none inside
abbrev mutual
  pub is_simple_step : MidStep → Bool
  is_simple_step (perform (Call to callee arguments)) = false
  is_simple_step (perform o) = true
  is_simple_step (choose t first second) = is_simple first && is_simple second
  is_simple_step (return_word r) = true
  is_simple_step s = false

  pub is_simple : MidCode → Bool
  is_simple no_step = true
  is_simple (step_and s c) = is_simple_step s && is_simple c

abbrev mutual
  pub is_plain_step : MidStep → Bool
  is_plain_step (repeat Turn head t body) = is_simple head && is_simple body
  is_plain_step (choose t first second) = is_plain first && is_plain second
  is_plain_step s = is_simple_step s

  pub is_plain : MidCode → Bool
  is_plain no_step = true
  is_plain (step_and s c) = is_plain_step s && is_plain c

-- what the loops cost
abbrev mutual
  pub loop_of_step : MidStep → ℕ
  loop_of_step (repeat counted head t body) = step_cost (repeat counted head t body)
  loop_of_step (choose t first second) = loops_of first + loops_of second
  loop_of_step s = 0

  pub loops_of : MidCode → ℕ
  loops_of no_step = 0
  loops_of (step_and s c) = loop_of_step s + loops_of c

abbrev pub repeated : ℕ → ℕ → ℕ
repeated zero cost = 0
repeated (suc n) cost = cost + repeated n cost

repeated_sum : (n a b : ℕ) → repeated n (a + b) ≡ repeated n a + repeated n b
repeated_sum zero a b = refl
repeated_sum (suc n) a b = omega (arith, repeated_sum n a b)

pub both_true : (a b : Bool) → (a && b) ≡ true → (a ≡ true) × (b ≡ true)
both_true true true e = (refl, refl)
both_true true false e = absurd (cc e)
both_true false b e = absurd (cc e)

-- ---- combinators

pub go_on_cost :
    (r : MidOutcome) (next : Next) (m n : ℕ) → r.state.cost ≤ m → ((rs : Registers) (y : MidState) → (next rs y).state.cost ≤ y.cost + n)
    → (go_on r next).state.cost ≤ m + n
unfolding go_on
go_on_cost r next m n h k = by r.end
  where
    by : (e : End) → (go_on_from e r next).state.cost ≤ m + n
    by falls = let last : (next r.registers r.state).state.cost ≤ r.state.cost + n = k r.registers r.state in omega (arith, h, last)
    by e = omega (arith, h)

some_cost :
    {X : Type 0} (o : Option X) (next : X → Next) (rs : Registers) (z : MidState) (m : ℕ) → z.cost ≤ m → ((x : X) → (next x rs z).state.cost ≤ m)
    → (with_some o next rs z).state.cost ≤ m
unfolding with_some
some_cost None next rs z m h k = h
some_cost (Some x) next rs z m h k = k x

choose_cost :
    (b : Bool) (first second : Next) (rs : Registers) (z : MidState) (m : ℕ) → (first rs z).state.cost ≤ m → (second rs z).state.cost ≤ m
    → (choose_by b first second rs z).state.cost ≤ m
unfolding choose_by
choose_cost true first second rs z m h k = h
choose_cost false first second rs z m h k = k

jumped_cost : (r : MidOutcome) (m : ℕ) → r.state.cost ≤ m → (jumped r).state.cost ≤ m + jump_cost
jumped_cost r m h = go_on_cost r (λ rs z. ends falls rs (charged jump_cost z)) m jump_cost h (λ rs y. omega arith)

test_at_most :
    (t : Test) (first second : Next) (rs : Registers) (z : MidState) (m : ℕ) → z.cost + test_cost ≤ m → (first rs (charged test_cost z)).state.cost ≤ m
    → (second rs (charged test_cost z)).state.cost ≤ m → (test t first second rs z).state.cost ≤ m
test_at_most t first second rs z m h f s =
    some_cost _ _ rs (charged test_cost z) m h (λ a. some_cost _ _ rs (charged test_cost z) m h (λ b. choose_cost _ first second rs (charged test_cost z) m f s))

leaves_at : (bs : List Block) (r : MidOutcome) → (leaves bs r).state.cost ≡ r.state.cost
unfolding leaves
leaves_at bs r = by r.end
  where
    by : (e : End) → (left_from e bs r).state.cost ≡ r.state.cost
    by falls = refl
    by e = refl

get_cost : (bytes : List ℕ) (to : ℕ) (rs : Registers) (z : MidState) → (get_from bytes to rs z).state.cost ≡ z.cost
get_cost [] to rs z = refl
get_cost (b ∷ bs) to rs z = refl

-- ---- code

module _ (c : Context) where
  operation_at_most : (o : Operation) (rs : Registers) (z : MidState) → is_simple_step (perform o) ≡ true → (operate c o rs z).state.cost ≤ z.cost
  operation_at_most (Move to from) rs z e = some_cost _ _ rs z z.cost (omega arith) (λ w. omega arith)
  operation_at_most (Constant to word) rs z e = omega arith
  operation_at_most (Compute to how first second) rs z e =
      some_cost _ _ rs z z.cost (omega arith) (λ a. some_cost _ _ rs z z.cost (omega arith) (λ b. omega arith))
  operation_at_most (Load to base offset) rs z e =
      some_cost _ _ rs z z.cost (omega arith) (λ a. some_cost _ _ rs z z.cost (omega arith) (λ w. omega arith))
  operation_at_most (Store from base offset) rs z e =
      some_cost _ _ rs z z.cost (omega arith) (λ w.
      some_cost _ _ rs z z.cost (omega arith) (λ a. choose_cost _ _ _ rs z z.cost (omega arith) (omega arith)))
  operation_at_most (Request to n) rs z e =
      some_cost _ _ rs z z.cost (omega arith) (λ w. choose_cost _ _ _ rs z z.cost (omega arith) (omega arith))
  operation_at_most (Draw to base offset) rs z e =
      some_cost _ _ rs z z.cost (omega arith) (λ a.
      some_cost _ _ rs z z.cost (omega arith) (λ w.
      choose_cost _ _ _ rs z z.cost (omega arith) (choose_cost _ _ _ rs z z.cost (omega arith) (omega arith))))
  operation_at_most (Put from) rs z e = some_cost _ _ rs z z.cost (omega arith) (λ w. omega arith)
  operation_at_most (Get to) rs z e = omega (arith, get_cost z.input to rs z)
  operation_at_most (Call to callee arguments) rs z e = absurd (cc e)

  performed_at_most : (o : Operation) (rs : Registers) (z : MidState) → is_simple_step (perform o) ≡ true → (exec_step c (perform o) rs z).state.cost ≤ z.cost + operation_cost o
  unfolding exec
  performed_at_most o rs z e = operation_at_most o rs (charged (operation_cost o) z) e

  mutual
    unfolding exec

    simple_step_cost : (s : MidStep) (rs : Registers) (z : MidState) → is_simple_step s ≡ true → (exec_step c s rs z).state.cost ≤ z.cost + step_cost s
    simple_step_cost (perform o) rs z e = performed_at_most o rs z e
    simple_step_cost (choose t first second) rs z e =
        let two = both_true (is_simple first) (is_simple second) e in
        test_at_most t _ _ rs z (z.cost + step_cost (choose t first second)) (omega arith)
        (let one = jumped_cost (exec c first rs (charged test_cost z)) (z.cost + test_cost + code_cost first) (simple_cost first rs (charged test_cost z) two.0) in omega (arith, one))
        (let one = jumped_cost (exec c second rs (charged test_cost z)) (z.cost + test_cost + code_cost second) (simple_cost second rs (charged test_cost z) two.1) in omega (arith, one))
    simple_step_cost (return_word r) rs z e =
        some_cost _ _ rs (charged return_cost z) (z.cost + step_cost (return_word r)) (omega arith) (λ w. omega arith)
    simple_step_cost (switch r codes) rs z e = absurd (cc e)
    simple_step_cost (repeat counted head t body) rs z e = absurd (cc e)
    simple_step_cost (with_block b n w inside landing) rs z e = absurd (cc e)
    simple_step_cost (lend b n inside) rs z e = absurd (cc e)
    simple_step_cost (cut_to b w) rs z e = absurd (cc e)
    simple_step_cost (halt_with r) rs z e = absurd (cc e)
    simple_step_cost (end_unhandled class site condition) rs z e = absurd (cc e)

    pub simple_cost : (code : MidCode) (rs : Registers) (z : MidState) → is_simple code ≡ true → (exec c code rs z).state.cost ≤ z.cost + code_cost code
    simple_cost no_step rs z e = omega arith
    simple_cost (step_and s code) rs z e =
        let two = both_true (is_simple_step s) (is_simple code) e in
        let all = go_on_cost (exec_step c s rs z) (λ rs y. exec c code rs y) (z.cost + step_cost s) (code_cost code) (simple_step_cost s rs z two.0)
        (λ rs y. simple_cost code rs y two.1) in
        omega (arith, all)

-- with so many turns
module _ (procedures : List MidProcedure) (below : Task → MidState → MidOutcome) where
  abbrev with_turns : ℕ → Context
  with_turns n = context_of procedures below (turns procedures below n)

  -- a loop, where what its further turns cost is known
  loop_once :
      (n : ℕ) (head body : MidCode) (t : Test) (rs : Registers) (z : MidState) → is_simple head ≡ true → is_simple body ≡ true
      → ((rs : Registers) (z : MidState)
      → (turns procedures below n (again (repeat Turn head t body) rs) z).state.cost ≤ z.cost + repeated n (step_cost (repeat Turn head t body)))
      → (exec_step (with_turns n) (repeat Turn head t body) rs z).state.cost
      ≤ z.cost + step_cost (repeat Turn head t body) + repeated n (step_cost (repeat Turn head t body))
  unfolding exec
  loop_once n head body t rs z h k further =
      let all = go_on_cost (exec (with_turns n) head rs z) (loop_test (with_turns n) Turn head t body) (z.cost + code_cost head)
      (test_cost + code_cost body + jump_cost + repeated n (step_cost (repeat Turn head t body)))
      (simple_cost (with_turns n) head rs z h)
      (λ rs' y.
      test_at_most t (loop_turn (with_turns n) Turn head t body) (ends falls) rs' y (y.cost + (test_cost + code_cost body + jump_cost + repeated n (step_cost (repeat Turn head t body)))) (omega arith)
      (let turn = go_on_cost (jumped (exec (with_turns n) body rs' (charged test_cost y))) (loop_again (with_turns n) Turn head t body) (y.cost + test_cost + code_cost body + jump_cost)
      (repeated n (step_cost (repeat Turn head t body)))
      (jumped_cost (exec (with_turns n) body rs' (charged test_cost y)) (y.cost + test_cost + code_cost body) (simple_cost (with_turns n) body rs' (charged test_cost y) k)) (λ rs'' x. further rs'' x) in
      omega (arith, turn))
      (omega arith)) in
      omega (arith, all)

  loop_cost :
      (n : ℕ) (head body : MidCode) (t : Test) (rs : Registers) (z : MidState) → is_simple head ≡ true → is_simple body ≡ true
      → (exec_step (with_turns n) (repeat Turn head t body) rs z).state.cost
      ≤ z.cost + step_cost (repeat Turn head t body) + repeated n (step_cost (repeat Turn head t body))
  unfolding turns
  loop_cost zero head body t rs z h k = loop_once zero head body t rs z h k (λ rs' y. omega arith)
  loop_cost (suc m) head body t rs z h k =
      loop_once (suc m) head body t rs z h k (λ rs' y. let rest = loop_cost m head body t rs' y h k in omega (arith, rest))

  mutual
    unfolding exec

    plain_step_cost :
        (n : ℕ) (s : MidStep) (rs : Registers) (z : MidState) → is_plain_step s ≡ true
        → (exec_step (with_turns n) s rs z).state.cost ≤ z.cost + step_cost s + repeated n (loop_of_step s)
    plain_step_cost n (repeat Turn head t body) rs z e =
        let two = both_true (is_simple head) (is_simple body) e in loop_cost n head body t rs z two.0 two.1
    plain_step_cost n (repeat Level head t body) rs z e = absurd (cc e)
    plain_step_cost n (choose t first second) rs z e =
        let two = both_true (is_plain first) (is_plain second) e in
        let sum = repeated_sum n (loops_of first) (loops_of second) in
        test_at_most t _ _ rs z (z.cost + step_cost (choose t first second) + repeated n (loop_of_step (choose t first second))) (omega arith)
        (let one = jumped_cost (exec (with_turns n) first rs (charged test_cost z)) (z.cost + test_cost + code_cost first + repeated n (loops_of first)) (plain_cost n first rs (charged test_cost z) two.0) in omega (arith, one, sum))
        (let one = jumped_cost (exec (with_turns n) second rs (charged test_cost z)) (z.cost + test_cost + code_cost second + repeated n (loops_of second)) (plain_cost n second rs (charged test_cost z) two.1) in omega (arith, one, sum))
    plain_step_cost n (perform o) rs z e = let one = simple_step_cost (with_turns n) (perform o) rs z e in omega (arith, one)
    plain_step_cost n (return_word r) rs z e = let one = simple_step_cost (with_turns n) (return_word r) rs z e in omega (arith, one)
    plain_step_cost n (switch r codes) rs z e = absurd (cc e)
    plain_step_cost n (with_block b m w inside landing) rs z e = absurd (cc e)
    plain_step_cost n (lend b m inside) rs z e = absurd (cc e)
    plain_step_cost n (cut_to b w) rs z e = absurd (cc e)
    plain_step_cost n (halt_with r) rs z e = absurd (cc e)
    plain_step_cost n (end_unhandled class site condition) rs z e = absurd (cc e)

    pub plain_cost :
        (n : ℕ) (code : MidCode) (rs : Registers) (z : MidState) → is_plain code ≡ true
        → (exec (with_turns n) code rs z).state.cost ≤ z.cost + code_cost code + repeated n (loops_of code)
    plain_cost n no_step rs z e = omega arith
    plain_cost n (step_and s code) rs z e =
        let two = both_true (is_plain_step s) (is_plain code) e in
        let sum = repeated_sum n (loop_of_step s) (loops_of code) in
        let all = go_on_cost (exec_step (with_turns n) s rs z) (λ rs y. exec (with_turns n) code rs y) (z.cost + step_cost s + repeated n (loop_of_step s))
        (code_cost code + repeated n (loops_of code)) (plain_step_cost n s rs z two.0)
        (λ rs y. let rest = plain_cost n code rs y two.1 in omega (arith, rest)) in
        omega (arith, all, sum)

  -- **a procedure**, whatever its frame
  pub procedure_at_most :
      (n : ℕ) (p : MidProcedure) (ws : List ℕ) (z : MidState) → is_plain (code_of p.body) ≡ true
      → (turns procedures below (suc n) (enter p ws) z).state.cost ≤ z.cost + procedure_cost p + repeated n (loops_of (code_of p.body))
  unfolding turns
  procedure_at_most n p ws z e =
      choose_cost _ _ _ _ (charged (entry_cost p.parameters) z) (z.cost + procedure_cost p + repeated n (loops_of (code_of p.body)))
      (choose_cost _ _ _ _ (charged (entry_cost p.parameters) z) (z.cost + procedure_cost p + repeated n (loops_of (code_of p.body)))
      (let body = plain_cost n (code_of p.body) (first_registers p.registers ws) (entered p z) e in
      let same = leaves_at z.arena.blocks (exec (with_turns n) (code_of p.body) (first_registers p.registers ws) (entered p z)) in
      omega (arith, body, same))
      (omega arith))
      (omega arith)
