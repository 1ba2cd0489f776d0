-- More levels and turns: a lemma for each combinator, and a line for each step.
use Rattle.std.proofs.Common.{◌≡◌, ℕ, zero, suc, ◌≤◌, Bool, true, false, List, [], ◌∷◌, Option, Some, None, refl, sym, subst, arith}
use Rattle.std.specs.Prelude.{length}
use Rattle.mid_code.specs.declared.operation.Counted.{Counted}
use Rattle.mid_code.specs.declared.operation.Counted.TheVariants.{Level, Turn}
use Rattle.mid_code.specs.declared.operation.Callee.{Callee}
use Rattle.mid_code.specs.declared.operation.Callee.TheVariants.{Procedure, Word}
use Rattle.mid_code.specs.declared.operation.Operation.{Operation}
use Rattle.mid_code.specs.declared.operation.Operation.TheVariants.{Call}
use Rattle.mid_code.specs.declared.operation.Test.{Test}
use Rattle.mid_code.specs.declared.program.MidProcedure.{MidProcedure}
use Rattle.mid_code.specs.declared.program.MidProgram.{MidProgram}
use Rattle.mid_code.specs.MidCode.{MidStep, perform, choose, switch, repeat, with_block, lend, MidCode, no_step, step_and, MidCodes, no_code, code_and, code_of}
use Rattle.mid_code.specs.Arena.{Block, activation_frame, record_of, lent_block}
use Rattle.mid_code.specs.State.{Registers, MidState, End, falls, returns, cuts, no_room, no_level, no_turn, halts, unhandled, exhausted, stuck, MidOutcome, Next, ends, go_on, with_some, choose_by, with_registers, jumped, landed}
use Rattle.mid_code.specs.Meaning.{lay, give_back, run_inside, run_landing, with_record, run_lent, with_lent, test, Task, enter, again, Context, context_of, called, leaves, count, with_callee, operate, exec, exec_step, exec_number, run_task, turns, levels, at_top, runs}
use Rattle.mid_code.specs.Law.{Grown, OutcomeExtends, LawOfPrinting, LawOfCosts, LawOfArenas, LawOfLevels}
use Rattle.mid_code.proofs.Growth.{same_grown, charged_grown, go_on_grown, with_some_grown, jumped_grown, landed_grown, called_grown, leaves_grown, at_top_grown, run_landing_grown, give_back_grown, after_inside_grown, test_grown, TasksGrow, exec_grown, count_grown, turns_grow, levels_grow}

pub same_extends : (r : MidOutcome) → OutcomeExtends r r
same_extends r = record { same = λ h. refl; later = same_grown r.state }

-- the same as an end that was reached
pub reached_extends : (e : End) (rs : Registers) (z : MidState) (f : MidOutcome → MidOutcome) (g : MidOutcome) (s : MidOutcome) → s ≡ ends e rs z → OutcomeExtends g (f (ends e rs z)) → OutcomeExtends g (f s)
reached_extends e rs z f g s same h = subst (λ v. OutcomeExtends g (f v)) (sym same) h

pub no_level_extends : (rs : Registers) (z : MidState) (s : MidOutcome) → Grown z s.state → OutcomeExtends (ends no_level rs z) s
no_level_extends rs z s g = record { same = λ h. absurd h; later = g }

pub no_turn_extends : (rs : Registers) (z : MidState) (s : MidOutcome) → Grown z s.state → OutcomeExtends (ends no_turn rs z) s
no_turn_extends rs z s g = record { same = λ h. absurd h; later = g }

-- combinators

pub go_on_extends :
    (r s : MidOutcome) (f g : Next) → OutcomeExtends r s → ((rs : Registers) (y : MidState) → OutcomeExtends (f rs y) (g rs y))
    → ((rs : Registers) (y : MidState) → Grown y (g rs y).state) → OutcomeExtends (go_on r f) (go_on s g)
unfolding go_on
go_on_extends r s f g x h k = from r.end r.registers r.state s x
  where
    from : (e : End) (rs : Registers) (z : MidState) (s : MidOutcome) → OutcomeExtends (ends e rs z) s → OutcomeExtends (go_on (ends e rs z) f) (go_on s g)
    from falls rs z s x = reached_extends falls rs z (λ v. go_on v g) _ s (x.same tt) (h rs z)
    from (returns w) rs z s x = reached_extends (returns w) rs z (λ v. go_on v g) _ s (x.same tt) (same_extends _)
    from (cuts n w) rs z s x = reached_extends (cuts n w) rs z (λ v. go_on v g) _ s (x.same tt) (same_extends _)
    from (no_room asked left) rs z s x = reached_extends (no_room asked left) rs z (λ v. go_on v g) _ s (x.same tt) (same_extends _)
    from no_level rs z s x = no_level_extends rs z _ (go_on_grown s g z x.later k)
    from no_turn rs z s x = no_turn_extends rs z _ (go_on_grown s g z x.later k)
    from (halts w) rs z s x = reached_extends (halts w) rs z (λ v. go_on v g) _ s (x.same tt) (same_extends _)
    from (unhandled class site condition) rs z s x = reached_extends (unhandled class site condition) rs z (λ v. go_on v g) _ s (x.same tt) (same_extends _)
    from exhausted rs z s x = reached_extends exhausted rs z (λ v. go_on v g) _ s (x.same tt) (same_extends _)
    from stuck rs z s x = reached_extends stuck rs z (λ v. go_on v g) _ s (x.same tt) (same_extends _)

pub with_some_extends :
    {X : Type 0} (o : Option X) (f g : X → Next) (rs : Registers) (z : MidState) → ((x : X) → OutcomeExtends (f x rs z) (g x rs z))
    → OutcomeExtends (with_some o f rs z) (with_some o g rs z)
unfolding with_some
with_some_extends None f g rs z h = same_extends _
with_some_extends (Some x) f g rs z h = h x

pub choose_extends :
    (b : Bool) (f g f' g' : Next) (rs : Registers) (z : MidState) → OutcomeExtends (f rs z) (f' rs z) → OutcomeExtends (g rs z) (g' rs z)
    → OutcomeExtends (choose_by b f g rs z) (choose_by b f' g' rs z)
unfolding choose_by
choose_extends true f g f' g' rs z h k = h
choose_extends false f g f' g' rs z h k = k

pub with_registers_extends :
    (list : List ℕ) (f g : List ℕ → Next) (rs : Registers) (z : MidState) → ((ws : List ℕ) → OutcomeExtends (f ws rs z) (g ws rs z))
    → OutcomeExtends (with_registers list f rs z) (with_registers list g rs z)
unfolding with_registers
with_registers_extends [] f g rs z h = h []
with_registers_extends (r ∷ more) f g rs z h =
    with_some_extends _ _ _ rs z (λ w. with_registers_extends more (λ ws. f (w ∷ ws)) (λ ws. g (w ∷ ws)) rs z (λ ws. h (w ∷ ws)))

pub jumped_extends : (r s : MidOutcome) → OutcomeExtends r s → OutcomeExtends (jumped r) (jumped s)
jumped_extends r s x = go_on_extends r s _ _ x (λ rs y. same_extends _) (λ rs y. charged_grown _ y)

pub landed_extends :
    (outside : ℕ) (f g : ℕ → Next) (r s : MidOutcome) → OutcomeExtends r s → ((w : ℕ) (rs : Registers) (y : MidState) → OutcomeExtends (f w rs y) (g w rs y))
    → ((w : ℕ) (rs : Registers) (y : MidState) → Grown y (g w rs y).state) → OutcomeExtends (landed outside f r) (landed outside g s)
unfolding landed
landed_extends outside f g r s x h k = from r.end r.registers r.state s x
  where
    from : (e : End) (rs : Registers) (z : MidState) (s : MidOutcome) → OutcomeExtends (ends e rs z) s → OutcomeExtends (landed outside f (ends e rs z)) (landed outside g s)
    from falls rs z s x = reached_extends falls rs z (landed outside g) _ s (x.same tt) (same_extends _)
    from (returns w) rs z s x = reached_extends (returns w) rs z (landed outside g) _ s (x.same tt) (same_extends _)
    from (cuts n w) rs z s x =
        reached_extends (cuts n w) rs z (landed outside g) _ s (x.same tt)
        (choose_extends _ (f w) (ends (cuts n w)) (g w) (ends (cuts n w)) rs z (h w rs z) (same_extends _))
    from (no_room asked left) rs z s x = reached_extends (no_room asked left) rs z (landed outside g) _ s (x.same tt) (same_extends _)
    from no_level rs z s x = no_level_extends rs z _ (landed_grown outside g s z x.later k)
    from no_turn rs z s x = no_turn_extends rs z _ (landed_grown outside g s z x.later k)
    from (halts w) rs z s x = reached_extends (halts w) rs z (landed outside g) _ s (x.same tt) (same_extends _)
    from (unhandled class site condition) rs z s x = reached_extends (unhandled class site condition) rs z (landed outside g) _ s (x.same tt) (same_extends _)
    from exhausted rs z s x = reached_extends exhausted rs z (landed outside g) _ s (x.same tt) (same_extends _)
    from stuck rs z s x = reached_extends stuck rs z (landed outside g) _ s (x.same tt) (same_extends _)

pub called_extends : (r s : MidOutcome) (to : ℕ) (own : Registers) → OutcomeExtends r s → OutcomeExtends (called r to own) (called s to own)
unfolding called
called_extends r s to own x = from r.end r.registers r.state s x
  where
    from : (e : End) (rs : Registers) (z : MidState) (s : MidOutcome) → OutcomeExtends (ends e rs z) s → OutcomeExtends (called (ends e rs z) to own) (called s to own)
    from falls rs z s x = reached_extends falls rs z (λ v. called v to own) _ s (x.same tt) (same_extends _)
    from (returns w) rs z s x = reached_extends (returns w) rs z (λ v. called v to own) _ s (x.same tt) (same_extends _)
    from (cuts n w) rs z s x = reached_extends (cuts n w) rs z (λ v. called v to own) _ s (x.same tt) (same_extends _)
    from (no_room asked left) rs z s x = reached_extends (no_room asked left) rs z (λ v. called v to own) _ s (x.same tt) (same_extends _)
    from no_level rs z s x = no_level_extends own z _ (called_grown s to own z x.later)
    from no_turn rs z s x = no_turn_extends own z _ (called_grown s to own z x.later)
    from (halts w) rs z s x = reached_extends (halts w) rs z (λ v. called v to own) _ s (x.same tt) (same_extends _)
    from (unhandled class site condition) rs z s x = reached_extends (unhandled class site condition) rs z (λ v. called v to own) _ s (x.same tt) (same_extends _)
    from exhausted rs z s x = reached_extends exhausted rs z (λ v. called v to own) _ s (x.same tt) (same_extends _)
    from stuck rs z s x = reached_extends stuck rs z (λ v. called v to own) _ s (x.same tt) (same_extends _)

pub leaves_extends : (bs : List Block) (r s : MidOutcome) → OutcomeExtends r s → OutcomeExtends (leaves bs r) (leaves bs s)
unfolding leaves
leaves_extends bs r s x = from r.end r.registers r.state s x
  where
    from : (e : End) (rs : Registers) (z : MidState) (s : MidOutcome) → OutcomeExtends (ends e rs z) s → OutcomeExtends (leaves bs (ends e rs z)) (leaves bs s)
    from falls rs z s x = reached_extends falls rs z (leaves bs) _ s (x.same tt) (same_extends _)
    from (returns w) rs z s x = reached_extends (returns w) rs z (leaves bs) _ s (x.same tt) (same_extends _)
    from (cuts n w) rs z s x = reached_extends (cuts n w) rs z (leaves bs) _ s (x.same tt) (same_extends _)
    from (no_room asked left) rs z s x = reached_extends (no_room asked left) rs z (leaves bs) _ s (x.same tt) (same_extends _)
    from no_level rs z s x = no_level_extends rs z _ (leaves_grown bs s z x.later)
    from no_turn rs z s x = no_turn_extends rs z _ (leaves_grown bs s z x.later)
    from (halts w) rs z s x = reached_extends (halts w) rs z (leaves bs) _ s (x.same tt) (same_extends _)
    from (unhandled class site condition) rs z s x = reached_extends (unhandled class site condition) rs z (leaves bs) _ s (x.same tt) (same_extends _)
    from exhausted rs z s x = reached_extends exhausted rs z (leaves bs) _ s (x.same tt) (same_extends _)
    from stuck rs z s x = reached_extends stuck rs z (leaves bs) _ s (x.same tt) (same_extends _)

pub test_extends :
    (t : Test) (f g f' g' : Next) (rs : Registers) (z : MidState) → ((rs : Registers) (y : MidState) → OutcomeExtends (f rs y) (f' rs y))
    → ((rs : Registers) (y : MidState) → OutcomeExtends (g rs y) (g' rs y)) → OutcomeExtends (test t f g rs z) (test t f' g' rs z)
test_extends t f g f' g' rs z h k =
    with_some_extends _ _ _ rs _ (λ a. with_some_extends _ _ _ rs _ (λ b. choose_extends _ f g f' g' rs _ (h rs _) (k rs _)))

lay_extends : (b : Block) (f g : Next) (rs : Registers) (z : MidState) → ((rs : Registers) (y : MidState) → OutcomeExtends (f rs y) (g rs y)) → OutcomeExtends (lay b f rs z) (lay b g rs z)
lay_extends b f g rs z h = choose_extends _ _ _ _ _ rs z (h rs _) (same_extends _)

run_inside_extends :
    (outside block : ℕ) (f g : Next) (rs : Registers) (z : MidState) → ((rs : Registers) (y : MidState) → OutcomeExtends (f rs y) (g rs y))
    → OutcomeExtends (run_inside outside block f rs z) (run_inside outside block g rs z)
run_inside_extends outside block f g rs z h =
    go_on_extends _ _ _ _ (h _ z) (λ rs' y. same_extends _) (λ rs' y. after_inside_grown outside rs' y)

run_landing_extends :
    (outside word : ℕ) (f g : Next) (w : ℕ) (rs : Registers) (z : MidState) → ((rs : Registers) (y : MidState) → OutcomeExtends (f rs y) (g rs y))
    → OutcomeExtends (run_landing outside word f w rs z) (run_landing outside word g w rs z)
run_landing_extends outside word f g w rs z h =
    with_some_extends _ _ _ rs z (λ bs.
    go_on_extends _ _ (give_back outside) (give_back outside) (h _ _) (λ rs' y. same_extends _) (λ rs' y. give_back_grown outside rs' y))

with_record_extends :
    (block words word : ℕ) (f f' g g' : Next) (rs : Registers) (z : MidState) → ((rs : Registers) (y : MidState) → OutcomeExtends (f rs y) (g rs y))
    → ((rs : Registers) (y : MidState) → OutcomeExtends (f' rs y) (g' rs y)) → ((rs : Registers) (y : MidState) → Grown y (g' rs y).state)
    → OutcomeExtends (with_record block words word f f' rs z) (with_record block words word g g' rs z)
with_record_extends block words word f f' g g' rs z h k e =
    lay_extends (record_of words)
    (λ rs' y. landed (length z.arena.blocks) (run_landing (length z.arena.blocks) word f') (run_inside (length z.arena.blocks) block f rs' y))
    (λ rs' y. landed (length z.arena.blocks) (run_landing (length z.arena.blocks) word g') (run_inside (length z.arena.blocks) block g rs' y)) rs _
    (λ rs' y. landed_extends (length z.arena.blocks) (run_landing (length z.arena.blocks) word f') (run_landing (length z.arena.blocks) word g') _ _
    (run_inside_extends _ block f g rs' y h) (λ w rs'' x. run_landing_extends _ word f' g' w rs'' x k)
    (λ w rs'' x. run_landing_grown _ word g' w rs'' x e))

run_lent_extends :
    (outside block : ℕ) (f g : Next) (rs : Registers) (z : MidState) → ((rs : Registers) (y : MidState) → OutcomeExtends (f rs y) (g rs y))
    → OutcomeExtends (run_lent outside block f rs z) (run_lent outside block g rs z)
run_lent_extends outside block f g rs z h =
    go_on_extends _ _ (give_back outside) (give_back outside) (h _ z) (λ rs' y. same_extends _) (λ rs' y. give_back_grown outside rs' y)

with_lent_extends :
    (block words : ℕ) (f g : Next) (rs : Registers) (z : MidState) → ((rs : Registers) (y : MidState) → OutcomeExtends (f rs y) (g rs y))
    → OutcomeExtends (with_lent block words f rs z) (with_lent block words g rs z)
with_lent_extends block words f g rs z h =
    choose_extends _ _ (ends stuck) _ (ends stuck) rs z
    (lay_extends (lent_block words) (run_lent (length z.arena.blocks) block f) (run_lent (length z.arena.blocks) block g) rs z
    (λ rs' y. run_lent_extends _ block f g rs' y h))
    (same_extends _)

at_top_extends : (r s : MidOutcome) → OutcomeExtends r s → OutcomeExtends (at_top r) (at_top s)
unfolding at_top
at_top_extends r s x = from r.end r.registers r.state s x
  where
    from : (e : End) (rs : Registers) (z : MidState) (s : MidOutcome) → OutcomeExtends (ends e rs z) s → OutcomeExtends (at_top (ends e rs z)) (at_top s)
    from falls rs z s x = reached_extends falls rs z at_top _ s (x.same tt) (same_extends _)
    from (returns w) rs z s x = reached_extends (returns w) rs z at_top _ s (x.same tt) (same_extends _)
    from (cuts n w) rs z s x = reached_extends (cuts n w) rs z at_top _ s (x.same tt) (same_extends _)
    from (no_room asked left) rs z s x = reached_extends (no_room asked left) rs z at_top _ s (x.same tt) (same_extends _)
    from no_level rs z s x = no_level_extends rs z _ (at_top_grown s z x.later)
    from no_turn rs z s x = no_turn_extends rs z _ (at_top_grown s z x.later)
    from (halts w) rs z s x = reached_extends (halts w) rs z at_top _ s (x.same tt) (same_extends _)
    from (unhandled class site condition) rs z s x = reached_extends (unhandled class site condition) rs z at_top _ s (x.same tt) (same_extends _)
    from exhausted rs z s x = reached_extends exhausted rs z at_top _ s (x.same tt) (same_extends _)
    from stuck rs z s x = reached_extends stuck rs z at_top _ s (x.same tt) (same_extends _)

-- code and tasks in two contexts: what tasks do one level below and one turn further in the second extends what they do in the
-- first

pub record TasksExtend (f g : Task → MidState → MidOutcome) : Type 0 where
  pub at : (task : Task) (z : MidState) → OutcomeExtends (f task z) (g task z)

module _ (procedures : List MidProcedure) (f f' g g' : Task → MidState → MidOutcome) (below : TasksExtend f g) (further : TasksExtend f' g') (below_grows : TasksGrow g) (further_grows : TasksGrow g') where
  abbrev one : Context
  one = context_of procedures f f'

  abbrev other : Context
  other = context_of procedures g g'

  count_extends : (how : Counted) (task : Task) (z : MidState) → OutcomeExtends (count one how task z) (count other how task z)
  count_extends Level task z = below.at task z
  count_extends Turn task z = further.at task z

  callee_extends :
      (callee : Callee) (m n : MidProcedure → Next) (rs : Registers) (z : MidState) → ((p : MidProcedure) → OutcomeExtends (m p rs z) (n p rs z))
      → OutcomeExtends (with_callee one callee m rs z) (with_callee other callee n rs z)
  callee_extends (Procedure number) m n rs z h = with_some_extends _ m n rs z h
  callee_extends (Word r) m n rs z h = with_some_extends _ _ _ rs z (λ number. with_some_extends _ m n rs z h)

  operate_extends : (o : Operation) (rs : Registers) (z : MidState) → OutcomeExtends (operate one o rs z) (operate other o rs z)
  operate_extends (Call to callee arguments) rs z =
      with_registers_extends arguments _ _ rs z (λ ws. callee_extends callee _ _ rs z (λ p.
      called_extends _ _ to rs (count_extends p.counted (enter p ws) z)))
  operate_extends w rs z = same_extends _

  mutual
    unfolding exec

    exec_extends : (code : MidCode) (rs : Registers) (z : MidState) → OutcomeExtends (exec one code rs z) (exec other code rs z)
    exec_extends no_step rs z = same_extends _
    exec_extends (step_and s code) rs z =
        go_on_extends _ _ _ _ (step_extends s rs z) (λ rs' y. exec_extends code rs' y)
        (λ rs' y. exec_grown other below_grows further_grows code rs' y)

    step_extends : (s : MidStep) (rs : Registers) (z : MidState) → OutcomeExtends (exec_step one s rs z) (exec_step other s rs z)
    step_extends (perform o) rs z = operate_extends o rs _
    step_extends (choose t first second) rs z =
        test_extends t _ _ _ _ rs z (λ rs' y. jumped_extends _ _ (exec_extends first rs' y)) (λ rs' y. jumped_extends _ _ (exec_extends second rs' y))
    step_extends (switch r codes) rs z =
        with_some_extends _ _ _ rs _ (λ n. jumped_extends _ _ (number_extends codes n rs _))
    step_extends (repeat how head t body) rs z =
        go_on_extends _ _ _ _ (exec_extends head rs z)
        (λ rs' y. test_extends t _ _ _ _ rs' y
        (λ rs'' x. go_on_extends _ _ _ _ (jumped_extends _ _ (exec_extends body rs'' x)) (λ rs''' w. count_extends how _ w)
        (λ rs''' w. count_grown other below_grows further_grows how _ w))
        (λ rs'' x. same_extends _))
        (λ rs' y. test_grown t _ _ rs' y
        (λ rs'' x. go_on_grown _ _ x (jumped_grown _ x (exec_grown other below_grows further_grows body rs'' x))
        (λ rs''' w. count_grown other below_grows further_grows how _ w))
        (λ rs'' x. same_grown x))
    step_extends (with_block block words word inside landing) rs z =
        with_record_extends block words word (λ rs' y. exec one inside rs' y) (λ rs' y. exec one landing rs' y)
        (λ rs' y. exec other inside rs' y) (λ rs' y. exec other landing rs' y) rs z (λ rs' y. exec_extends inside rs' y) (λ rs' y. exec_extends landing rs' y)
        (λ rs' y. exec_grown other below_grows further_grows landing rs' y)
    step_extends (lend block words inside) rs z =
        with_some_extends _ _ _ rs _ (λ n.
        with_lent_extends block n (λ rs' y. exec one inside rs' y) (λ rs' y. exec other inside rs' y) rs _ (λ rs' y. exec_extends inside rs' y))
    step_extends w rs z = same_extends _

    number_extends : (codes : MidCodes) (n : ℕ) (rs : Registers) (z : MidState) → OutcomeExtends (exec_number one codes n rs z) (exec_number other codes n rs z)
    number_extends no_code n rs z = same_extends _
    number_extends (code_and code codes) zero rs z = exec_extends code rs z
    number_extends (code_and code codes) (suc n) rs z = number_extends codes n rs z

  pub task_extends : (task : Task) (z : MidState) → OutcomeExtends (run_task one task z) (run_task other task z)
  task_extends (enter p arguments) z =
      choose_extends _ _ (ends stuck) _ (ends stuck) _ _
      (lay_extends (record { words = p.frame; kind = activation_frame })
      (λ rs y. leaves z.arena.blocks (exec one (code_of p.body) rs y))
      (λ rs y. leaves z.arena.blocks (exec other (code_of p.body) rs y)) _ _
      (λ rs y. leaves_extends z.arena.blocks _ _ (exec_extends (code_of p.body) rs y)))
      (same_extends _)
  task_extends (again s rs) z = step_extends s rs z

-- tasks with more turns and levels

turns_extend :
    (procedures : List MidProcedure) (f g : Task → MidState → MidOutcome) → TasksExtend f g → TasksGrow g → (m n : ℕ) → m ≤ n
    → TasksExtend (turns procedures f m) (turns procedures g n)
unfolding turns
turns_extend procedures f g x k zero n h = record { at = λ task z. no_turn_extends [] z _ ((turns_grow procedures g k n).at task z) }
turns_extend procedures f g x k (suc m) zero h = absurd (omega arith)
turns_extend procedures f g x k (suc m) (suc n) h = record {
  at = λ task z. task_extends procedures f (turns procedures f m) g (turns procedures g n) x (turns_extend procedures f g x k m n (omega arith)) k (turns_grow procedures g k n) task z;
}

levels_extend :
    (procedures : List MidProcedure) (m n : ℕ) → m ≤ n → (k l : ℕ) → k ≤ l
    → TasksExtend (levels procedures m k) (levels procedures n l)
unfolding levels
levels_extend procedures m n h zero l e = record { at = λ task z. no_level_extends [] z _ ((levels_grow procedures n l).at task z) }
levels_extend procedures m n h (suc k) zero e = absurd (omega arith)
levels_extend procedures m n h (suc k) (suc l) e =
    turns_extend procedures _ _ (levels_extend procedures m n h k l (omega arith)) (levels_grow procedures n l) (suc m) (suc n) (omega (arith, h))

grown : (program : MidProgram) (k turns_each entry : ℕ) (arguments : List ℕ) (z : MidState) → Grown z (runs program k turns_each entry arguments z).state
unfolding runs
grown program k turns_each entry arguments z =
    at_top_grown _ z (with_some_grown _ _ [] z (λ p.
    (levels_grow program.procedures turns_each (suc k)).at (enter p arguments) z))

pub law_of_printing : LawOfPrinting
law_of_printing program k turns_each entry arguments z = (grown program k turns_each entry arguments z).printed

pub law_of_costs : LawOfCosts
law_of_costs program k turns_each entry arguments z = (grown program k turns_each entry arguments z).cost

pub law_of_arenas : LawOfArenas
law_of_arenas program k turns_each entry arguments z = (grown program k turns_each entry arguments z).arena

pub law_of_levels : LawOfLevels
unfolding runs
law_of_levels program k l m n entry arguments z e h =
    at_top_extends _ _ (with_some_extends _ _ _ [] z (λ p.
    (levels_extend program.procedures m n h (suc k) (suc l) (omega (arith, e))).at (enter p arguments) z))
