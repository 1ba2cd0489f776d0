-- States only grow: a lemma for each combinator, and a line for each operation and step.
use Rattle.std.proofs.Common.{◌≡◌, ℕ, zero, suc, ◌+◌, ◌/◌, length, Bool, true, false, List, [], ◌∷◌, ◌++◌, Option, Some, None, refl, sym, ap, ◌∙◌, arith, append_assoc}
use Rattle.std.specs.Prelude.{slice_set}
use Rattle.std.proofs.lemmas.List.{append-nil}
use Rattle.std.proofs.Math.ListN.{length-set}
use Rattle.mid_code.specs.declared.operation.Counted.{Counted}
use Rattle.mid_code.specs.declared.operation.Counted.TheVariants.{Level, Turn}
use Rattle.mid_code.specs.declared.operation.Callee.{Callee}
use Rattle.mid_code.specs.declared.operation.Callee.TheVariants.{Procedure, Word}
use Rattle.mid_code.specs.declared.operation.Operation.{Operation}
use Rattle.mid_code.specs.declared.operation.Operation.TheVariants.{Move, Constant, Compute, Load, Store, Request, Draw, Put, Get, Call}
use Rattle.mid_code.specs.declared.operation.Test.{Test}
use Rattle.mid_code.specs.declared.program.MidProcedure.{MidProcedure}
use Rattle.mid_code.specs.MidCode.{MidStep, perform, choose, switch, repeat, with_block, lend, return_word, cut_to, halt_with, end_unhandled, MidCode, no_step, step_and, MidCodes, no_code, code_and, code_of}
use Rattle.mid_code.specs.Arena.{Arena, Block, activation_frame, record_of, lent_block, emptied, with_word, with_heap, with_new_block, with_blocks}
use Rattle.mid_code.specs.State.{Registers, MidState, End, falls, returns, cuts, MidOutcome, Next, ends, charged, gives, go_on, go_on_from, with_some, choose_by, with_arena, with_registers, jumped, landed, landed_from}
use Rattle.mid_code.specs.Meaning.{store, where_left, lay, give_back, close, run_inside, run_landing, with_record, run_lent, with_lent, get_from, test, Task, enter, again, Context, context_of, called, called_from, left_from, leaves, count, with_callee, operate, exec, exec_step, exec_number, run_task, turns, levels, at_top, at_top_from}
use Rattle.mid_code.specs.Law.{Enlarged, Grown}

pub same_enlarged : (a : Arena) → Enlarged a a
same_enlarged a = record { size = refl; laid_from = refl; laid_to = refl; heap_from = refl; heap_to = omega arith }

both_enlarged : (a b c : Arena) → Enlarged a b → Enlarged b c → Enlarged a c
both_enlarged a b c g h = record {
  size = h.size ∙ g.size;
  laid_from = h.laid_from ∙ g.laid_from;
  laid_to = h.laid_to ∙ g.laid_to;
  heap_from = h.heap_from ∙ g.heap_from;
  heap_to = omega (arith, g.heap_to, h.heap_to);
}

pub length-emptied : (i n : ℕ) (ws : List (Option ℕ)) → length (emptied i n ws) ≡ length ws
length-emptied i n [] = refl
length-emptied zero zero (w ∷ ws) = refl
length-emptied zero (suc n) (w ∷ ws) = omega (arith, length-emptied zero n ws)
length-emptied (suc i) n (w ∷ ws) = omega (arith, length-emptied i n ws)

-- each change of the arena
word_enlarged : (a word : ℕ) (arena : Arena) → Enlarged arena (with_word a word arena)
word_enlarged a word arena = record { size = length-set arena.memory (a / 4) (Some word); laid_from = refl; laid_to = refl; heap_from = refl; heap_to = omega arith }

heap_enlarged : (words : ℕ) (arena : Arena) → Enlarged arena (with_heap words arena)
heap_enlarged words arena = record { size = length-emptied (arena.heap_to / 4) words arena.memory; laid_from = refl; laid_to = refl; heap_from = refl; heap_to = omega arith }

block_enlarged : (b : Block) (arena : Arena) → Enlarged arena (with_new_block b arena)
block_enlarged b arena = record { size = length-emptied _ b.words arena.memory; laid_from = refl; laid_to = refl; heap_from = refl; heap_to = omega arith }

blocks_enlarged : (bs : List Block) (arena : Arena) → Enlarged arena (with_blocks bs arena)
blocks_enlarged bs arena = record { size = refl; laid_from = refl; laid_to = refl; heap_from = refl; heap_to = omega arith }

pub same_grown : (z : MidState) → Grown z z
same_grown z = record { arena = same_enlarged z.arena; printed = ([], sym (append-nil z.printed)); cost = omega arith }

pub both_grown : {x y z : MidState} → Grown x y → Grown y z → Grown x z
both_grown {x} {y} {z} g h = record {
  arena = both_enlarged x.arena y.arena z.arena g.arena h.arena;
  printed = (
    g.printed.0 ++ h.printed.0,
    h.printed.1 ∙ ap (λ l. l ++ h.printed.0) g.printed.1 ∙ append_assoc x.printed g.printed.0 h.printed.0,
  );
  cost = omega (arith, g.cost, h.cost);
}

pub charged_grown : (n : ℕ) (z : MidState) → Grown z (charged n z)
charged_grown n z = record { arena = same_enlarged z.arena; printed = ([], sym (append-nil z.printed)); cost = omega arith }

-- another arena
arena_grown : (a : Arena) (z : MidState) → Enlarged z.arena a → Grown z (with_arena a z)
arena_grown a z g = record { arena = g; printed = ([], sym (append-nil z.printed)); cost = omega arith }

-- it grows from each state
pub record GrowsEachState (next : Next) : Type 0 where
  pub at : (rs : Registers) (z : MidState) → Grown z (next rs z).state

-- combinators

pub go_on_grown : (r : MidOutcome) (next : Next) (z : MidState) → Grown z r.state → ((rs : Registers) (y : MidState) → Grown y (next rs y).state) → Grown z (go_on r next).state
unfolding go_on
go_on_grown r next z g h = from r.end
  where
    from : (e : End) → Grown z (go_on_from e r next).state
    from falls = both_grown g (h r.registers r.state)
    from e = g

pub with_some_grown : {X : Type 0} (o : Option X) (next : X → Next) (rs : Registers) (z : MidState) → ((x : X) → Grown z (next x rs z).state) → Grown z (with_some o next rs z).state
unfolding with_some
with_some_grown None next rs z h = same_grown z
with_some_grown (Some x) next rs z h = h x

pub choose_grown : (b : Bool) (first second : Next) (rs : Registers) (z : MidState) → Grown z (first rs z).state → Grown z (second rs z).state → Grown z (choose_by b first second rs z).state
unfolding choose_by
choose_grown true first second rs z g h = g
choose_grown false first second rs z g h = h

pub with_registers_grown :
    (list : List ℕ) (next : List ℕ → Next) (rs : Registers) (z : MidState) → ((ws : List ℕ) → Grown z (next ws rs z).state)
    → Grown z (with_registers list next rs z).state
unfolding with_registers
with_registers_grown [] next rs z h = h []
with_registers_grown (r ∷ more) next rs z h =
    with_some_grown _ _ rs z (λ w. with_registers_grown more (λ ws. next (w ∷ ws)) rs z (λ ws. h (w ∷ ws)))

pub jumped_grown : (r : MidOutcome) (z : MidState) → Grown z r.state → Grown z (jumped r).state
jumped_grown r z g = go_on_grown r _ z g (λ rs y. charged_grown _ y)

pub landed_grown :
    (outside : ℕ) (catch : ℕ → Next) (r : MidOutcome) (z : MidState) → Grown z r.state
    → ((w : ℕ) (rs : Registers) (y : MidState) → Grown y (catch w rs y).state) → Grown z (landed outside catch r).state
unfolding landed
landed_grown outside catch r z g h = from r.end
  where
    from : (e : End) → Grown z (landed_from e outside catch r).state
    from (cuts n w) =
        both_grown g (choose_grown _ (catch w) (ends (cuts n w)) r.registers r.state (h w r.registers r.state) (same_grown r.state))
    from e = g

pub called_grown : (r : MidOutcome) (to : ℕ) (rs : Registers) (z : MidState) → Grown z r.state → Grown z (called r to rs).state
unfolding called
called_grown r to rs z g = from r.end
  where
    from : (e : End) → Grown z (called_from e to rs r.state).state
    from falls = g
    from e = g

pub leaves_grown : (bs : List Block) (r : MidOutcome) (z : MidState) → Grown z r.state → Grown z (leaves bs r).state
unfolding leaves
leaves_grown bs r z g = from r.end
  where
    from : (e : End) → Grown z (left_from e bs r).state
    from (returns w) = both_grown g (arena_grown _ r.state (blocks_enlarged bs r.state.arena))
    from e = g

-- operations

store_grown : (a w : ℕ) (next : Next) (rs : Registers) (z : MidState) → ((rs : Registers) (y : MidState) → Grown y (next rs y).state) → Grown z (store a w next rs z).state
store_grown a w next rs z h = choose_grown _ _ _ rs z (both_grown (arena_grown _ z (word_enlarged a w z.arena)) (h rs _)) (same_grown z)

where_left_grown : (words : ℕ) (next : Next) (rs : Registers) (z : MidState) → Grown z (next rs z).state → Grown z (where_left words next rs z).state
where_left_grown words next rs z g = choose_grown _ _ _ rs z g (same_grown z)

lay_grown : (b : Block) (next : Next) (rs : Registers) (z : MidState) → ((rs : Registers) (y : MidState) → Grown y (next rs y).state) → Grown z (lay b next rs z).state
lay_grown b next rs z h = where_left_grown b.words _ rs z (both_grown (arena_grown _ z (block_enlarged b z.arena)) (h rs _))

pub give_back_grown : (outside : ℕ) (rs : Registers) (z : MidState) → Grown z (give_back outside rs z).state
give_back_grown outside rs z =
    both_grown (charged_grown _ z) (with_some_grown _ _ rs _ (λ bs. arena_grown _ _ (blocks_enlarged bs z.arena)))

close_grown : (outside : ℕ) (next : Next) (rs : Registers) (z : MidState) → ((rs : Registers) (y : MidState) → Grown y (next rs y).state) → Grown z (close outside next rs z).state
close_grown outside next rs z h =
    with_some_grown _ _ rs z (λ bs. both_grown (arena_grown _ z (blocks_enlarged bs z.arena)) (h rs _))

run_inside_grown : (outside block : ℕ) (inside : Next) (rs : Registers) (z : MidState) → ((rs : Registers) (y : MidState) → Grown y (inside rs y).state) → Grown z (run_inside outside block inside rs z).state
run_inside_grown outside block inside rs z h =
    go_on_grown _ _ z (h _ z) (λ rs' y. jumped_grown _ y (give_back_grown outside rs' y))

pub run_landing_grown : (outside word : ℕ) (landing : Next) (w : ℕ) (rs : Registers) (z : MidState) → ((rs : Registers) (y : MidState) → Grown y (landing rs y).state) → Grown z (run_landing outside word landing w rs z).state
run_landing_grown outside word landing w rs z h =
    close_grown outside (λ rs' y. go_on (landing (slice_set rs' word (Some w)) y) (give_back outside)) rs z
    (λ rs' y. go_on_grown _ (give_back outside) y (h _ y) (λ rs'' x. give_back_grown outside rs'' x))

pub after_inside_grown : (outside : ℕ) (rs : Registers) (z : MidState) → Grown z (jumped (give_back outside rs z)).state
after_inside_grown outside rs z = jumped_grown _ z (give_back_grown outside rs z)

with_record_grown :
    (block words word : ℕ) (inside landing : Next) (rs : Registers) (z : MidState) → ((rs : Registers) (y : MidState) → Grown y (inside rs y).state)
    → ((rs : Registers) (y : MidState) → Grown y (landing rs y).state) → Grown z (with_record block words word inside landing rs z).state
with_record_grown block words word inside landing rs z g h =
    both_grown (charged_grown _ z)
    (lay_grown (record_of words)
    (λ rs' y. landed (length z.arena.blocks) (run_landing (length z.arena.blocks) word landing) (run_inside (length z.arena.blocks) block inside rs' y)) rs _
    (λ rs' y. landed_grown (length z.arena.blocks) _ _ y (run_inside_grown _ block inside rs' y g)
    (λ w rs'' x. run_landing_grown _ word landing w rs'' x h)))

run_lent_grown : (outside block : ℕ) (inside : Next) (rs : Registers) (z : MidState) → ((rs : Registers) (y : MidState) → Grown y (inside rs y).state) → Grown z (run_lent outside block inside rs z).state
run_lent_grown outside block inside rs z h = go_on_grown _ (give_back outside) z (h _ z) (λ rs' y. give_back_grown outside rs' y)

with_lent_grown : (block words : ℕ) (inside : Next) (rs : Registers) (z : MidState) → ((rs : Registers) (y : MidState) → Grown y (inside rs y).state) → Grown z (with_lent block words inside rs z).state
with_lent_grown block words inside rs z h =
    choose_grown _ _ _ rs z
    (lay_grown (lent_block words) (run_lent (length z.arena.blocks) block inside) rs z (λ rs' y. run_lent_grown _ block inside rs' y h))
    (same_grown z)

get_grown : (bytes : List ℕ) (to : ℕ) (rs : Registers) (z : MidState) → Grown z (get_from bytes to rs z).state
get_grown [] to rs z = same_grown z
get_grown (byte ∷ bytes) to rs z = record { arena = same_enlarged z.arena; printed = ([], sym (append-nil z.printed)); cost = omega arith }

pub test_grown : (t : Test) (first second : Next) (rs : Registers) (z : MidState) → ((rs : Registers) (y : MidState) → Grown y (first rs y).state) → ((rs : Registers) (y : MidState) → Grown y (second rs y).state) → Grown z (test t first second rs z).state
test_grown t first second rs z g h =
    both_grown (charged_grown _ z)
    (with_some_grown _ _ rs _ (λ a. with_some_grown _ _ rs _ (λ b. choose_grown _ first second rs _ (g rs _) (h rs _))))

-- code and tasks, where tasks grow one level below and one turn further

pub record TasksGrow (f : Task → MidState → MidOutcome) : Type 0 where
  pub at : (task : Task) (z : MidState) → Grown z (f task z).state

module _ (c : Context) (below : TasksGrow c.below) (further : TasksGrow c.further) where
  pub count_grown : (how : Counted) (task : Task) (z : MidState) → Grown z (count c how task z).state
  count_grown Level task z = below.at task z
  count_grown Turn task z = further.at task z

  callee_grown :
      (callee : Callee) (next : MidProcedure → Next) (rs : Registers) (z : MidState) → ((p : MidProcedure) → Grown z (next p rs z).state)
      → Grown z (with_callee c callee next rs z).state
  callee_grown (Procedure n) next rs z h = with_some_grown _ next rs z h
  callee_grown (Word r) next rs z h = with_some_grown _ _ rs z (λ n. with_some_grown _ next rs z h)

  operate_grown : (o : Operation) (rs : Registers) (z : MidState) → Grown z (operate c o rs z).state
  operate_grown (Move to from) rs z = with_some_grown _ (gives to) rs z (λ w. same_grown z)
  operate_grown (Constant to word) rs z = same_grown z
  operate_grown (Compute to which first second) rs z =
      with_some_grown _ _ rs z (λ a. with_some_grown _ _ rs z (λ b. same_grown z))
  operate_grown (Load to base offset) rs z =
      with_some_grown _ _ rs z (λ a. with_some_grown _ (gives to) rs z (λ w. same_grown z))
  operate_grown (Store from base offset) rs z =
      with_some_grown _ _ rs z (λ w. with_some_grown _ _ rs z (λ a. store_grown _ w (ends falls) rs z (λ rs' y. same_grown y)))
  operate_grown (Request to words) rs z =
      with_some_grown _ _ rs z (λ w. where_left_grown w _ rs z (arena_grown _ z (heap_enlarged w z.arena)))
  operate_grown (Draw to base offset) rs z =
      with_some_grown _ _ rs z (λ a. with_some_grown _ _ rs z (λ w.
      choose_grown _ _ _ rs z (same_grown z) (store_grown _ (w + 1) (gives to (w + 1)) rs z (λ rs' y. same_grown y))))
  operate_grown (Put from) rs z =
      with_some_grown _ _ rs z (λ w. record { arena = same_enlarged z.arena; printed = (_, refl); cost = omega arith })
  operate_grown (Get to) rs z = get_grown z.input to rs z
  operate_grown (Call to callee arguments) rs z =
      with_registers_grown arguments _ rs z (λ ws. callee_grown callee _ rs z (λ p.
      called_grown _ to rs z (count_grown p.counted (enter p ws) z)))

  mutual
    unfolding exec

    pub exec_grown : (code : MidCode) (rs : Registers) (z : MidState) → Grown z (exec c code rs z).state
    exec_grown no_step rs z = same_grown z
    exec_grown (step_and s code) rs z = go_on_grown _ _ z (step_grown s rs z) (λ rs' y. exec_grown code rs' y)

    step_grown : (s : MidStep) (rs : Registers) (z : MidState) → Grown z (exec_step c s rs z).state
    step_grown (perform o) rs z = both_grown (charged_grown _ z) (operate_grown o rs _)
    step_grown (choose t first second) rs z =
        test_grown t _ _ rs z (λ rs' y. jumped_grown _ y (exec_grown first rs' y)) (λ rs' y. jumped_grown _ y (exec_grown second rs' y))
    step_grown (switch r codes) rs z =
        both_grown (charged_grown _ z) (with_some_grown _ _ rs _ (λ n. jumped_grown _ _ (number_grown codes n rs _)))
    step_grown (repeat how head t body) rs z =
        go_on_grown _ _ z (exec_grown head rs z) (λ rs' y. test_grown t _ _ rs' y
        (λ rs'' x. go_on_grown _ _ x (jumped_grown _ x (exec_grown body rs'' x)) (λ rs''' w. count_grown how _ w))
        (λ rs'' x. same_grown x))
    step_grown (with_block block words word inside landing) rs z =
        with_record_grown block words word (λ rs' y. exec c inside rs' y) (λ rs' y. exec c landing rs' y) rs z (λ rs' y. exec_grown inside rs' y) (λ rs' y. exec_grown landing rs' y)
    step_grown (lend block words inside) rs z =
        both_grown (charged_grown _ z)
        (with_some_grown _ _ rs _ (λ n. with_lent_grown block n (λ rs' y. exec c inside rs' y) rs _ (λ rs' y. exec_grown inside rs' y)))
    step_grown (return_word r) rs z = both_grown (charged_grown _ z) (with_some_grown _ _ rs _ (λ w. same_grown _))
    step_grown (cut_to block word) rs z =
        both_grown (charged_grown _ z)
        (with_some_grown _ _ rs _ (λ b. with_some_grown _ _ rs _ (λ w. with_some_grown _ _ rs _ (λ bs. arena_grown _ _ (blocks_enlarged bs z.arena)))))
    step_grown (halt_with r) rs z = both_grown (charged_grown _ z) (with_some_grown _ _ rs _ (λ w. same_grown _))
    step_grown (end_unhandled class site condition) rs z =
        both_grown (charged_grown _ z)
        (with_some_grown _ _ rs _ (λ a. with_some_grown _ _ rs _ (λ b. with_some_grown _ _ rs _ (λ w. same_grown _))))

    number_grown : (codes : MidCodes) (n : ℕ) (rs : Registers) (z : MidState) → Grown z (exec_number c codes n rs z).state
    number_grown no_code n rs z = same_grown z
    number_grown (code_and code codes) zero rs z = exec_grown code rs z
    number_grown (code_and code codes) (suc n) rs z = number_grown codes n rs z

  pub task_grown : (task : Task) (z : MidState) → Grown z (run_task c task z).state
  task_grown (enter p arguments) z =
      both_grown (charged_grown _ z)
      (choose_grown _ _ _ _ _
      (lay_grown (record { words = p.frame; kind = activation_frame }) (λ rs y. leaves z.arena.blocks (exec c (code_of p.body) rs y)) _ _
      (λ rs y. leaves_grown z.arena.blocks _ y (exec_grown (code_of p.body) rs y)))
      (same_grown _))
  task_grown (again s rs) z = step_grown s rs z

pub at_top_grown : (r : MidOutcome) (z : MidState) → Grown z r.state → Grown z (at_top r).state
unfolding at_top
at_top_grown r z g = from r.end
  where
    from : (e : End) → Grown z (at_top_from e r).state
    from falls = g
    from e = g

-- tasks with so many turns and levels

pub turns_grow : (procedures : List MidProcedure) (below : Task → MidState → MidOutcome) → TasksGrow below → (n : ℕ) → TasksGrow (turns procedures below n)
unfolding turns
turns_grow procedures below g zero = record { at = λ task z. same_grown z }
turns_grow procedures below g (suc n) = record {
  at = λ task z. task_grown (context_of procedures below (turns procedures below n)) g (turns_grow procedures below g n) task z;
}

pub levels_grow : (procedures : List MidProcedure) (turns_each k : ℕ) → TasksGrow (levels procedures turns_each k)
unfolding levels
levels_grow procedures turns_each zero = record { at = λ task z. same_grown z }
levels_grow procedures turns_each (suc k) = turns_grow procedures _ (levels_grow procedures turns_each k) (suc turns_each)
