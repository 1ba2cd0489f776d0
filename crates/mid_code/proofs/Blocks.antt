-- The law of blocks: a lemma for each combinator, and a line for each operation and step.
use Rattle.std.proofs.Common.{◌≡◌, ℕ, zero, suc, ◌+◌, length, Bool, true, false, cond, List, [], ◌∷◌, ◌++◌, Option, Some, None, ◌⊎◌, inl, inr, refl, sym, ap, subst, ◌∙◌, arith, append_assoc, length-append}
use Rattle.std.specs.Prelude.{◌==◌, ◌&&◌, slice_get, slice_set}
use Rattle.std.proofs.lemmas.Bool.{eqb-true, eqb-false}
use Rattle.mid_code.specs.declared.operation.Counted.{Counted}
use Rattle.mid_code.specs.declared.operation.Counted.TheVariants.{Level, Turn}
use Rattle.mid_code.specs.declared.operation.Callee.{Callee}
use Rattle.mid_code.specs.declared.operation.Callee.TheVariants.{Procedure, Word}
use Rattle.mid_code.specs.declared.operation.Operation.{Operation}
use Rattle.mid_code.specs.declared.operation.Operation.TheVariants.{Move, Constant, Compute, Load, Store, Request, Draw, Put, Get, Call}
use Rattle.mid_code.specs.declared.operation.Test.{Test}
use Rattle.mid_code.specs.declared.program.MidProcedure.{MidProcedure}
use Rattle.mid_code.specs.declared.program.MidProgram.{MidProgram}
use Rattle.mid_code.specs.MidCode.{MidStep, perform, choose, switch, repeat, with_block, lend, return_word, cut_to, halt_with, end_unhandled, MidCode, no_step, step_and, MidCodes, no_code, code_and, code_of}
use Rattle.mid_code.specs.Arena.{Block, activation_frame, closed_record, is_record, is_open, record_of, lent_block, lent_from, with_blocks, blocks_from, outside_of, blocks_outside, blocks_closed}
use Rattle.mid_code.specs.State.{Registers, MidState, End, falls, returns, cuts, no_level, no_turn, stuck, MidOutcome, Next, ends, with_arena, gives, go_on, with_some, choose_by, with_registers, jumped, landed}
use Rattle.mid_code.specs.Meaning.{store, cut, give_back, run_landing, with_record, with_lent, get_from, test, Task, enter, again, Context, context_of, called, leaves, count, with_callee, operate, exec, exec_step, exec_number, run_procedure, run_task, turns, levels, at_top, runs}
use Rattle.mid_code.specs.BlockLaw.{OuterPart, is_innermost_open, CutBlocks, CodeEnded, ProcedureEnded, TaskEnded, context_in, LawOfBlocks}

-- blocks

part_of_rest : (b : Block) (bs outer : List Block) → OuterPart outer bs → OuterPart outer (b ∷ bs)
part_of_rest b bs outer p = record { inner = b ∷ p.inner; parts = ap (λ l. b ∷ l) p.parts }

rest_is_part : (b : Block) (bs all : List Block) → OuterPart (b ∷ bs) all → OuterPart bs all
rest_is_part b bs all p = record { inner = p.inner ++ b ∷ []; parts = p.parts ∙ sym (append_assoc p.inner (b ∷ []) bs) }

length_of_part : (bs outer : List Block) (p : OuterPart outer bs) → length bs ≡ length p.inner + length outer
length_of_part bs outer p = ap length p.parts ∙ length-append p.inner outer

-- an outer part is all blocks, or one of those outside the innermost one
all_or_part : (b : Block) (bs outer : List Block) → OuterPart outer (b ∷ bs) → (outer ≡ b ∷ bs) ⊎ OuterPart outer bs
all_or_part b bs outer p = from p.inner p.parts
  where
    from : (inner : List Block) → b ∷ bs ≡ inner ++ outer → (outer ≡ b ∷ bs) ⊎ OuterPart outer bs
    from [] e = inl (sym e)
    from (c ∷ cs) e = inr (record { inner = cs; parts = cc e })

-- a cut passes an innermost block that is no open record
cut_passes : (n : ℕ) (b : Block) (bs after : List Block) → is_open b.kind ≡ false → CutBlocks n (b ∷ bs) after → CutBlocks n bs after
cut_passes n b bs after h c = from (all_or_part b bs after c.part)
  where
    from : (after ≡ b ∷ bs) ⊎ OuterPart after bs → CutBlocks n bs after
    from (inl e) = let open_one : is_innermost_open after ≡ is_open b.kind = ap is_innermost_open e in absurd (cc (h, c.innermost, open_one))
    from (inr p) = record { part = p; count = c.count; innermost = c.innermost }

-- a cut to another block passes it too
cut_passes_other : (n : ℕ) (b : Block) (bs after : List Block) → (n ≡ length bs → ⊥) → CutBlocks n (b ∷ bs) after → CutBlocks n bs after
cut_passes_other n b bs after h c = from (all_or_part b bs after c.part)
  where
    from : (after ≡ b ∷ bs) ⊎ OuterPart after bs → CutBlocks n bs after
    from (inl e) = let size : length after ≡ length (b ∷ bs) = ap length e in absurd (h (omega (arith, size, c.count)))
    from (inr p) = record { part = p; count = c.count; innermost = c.innermost }

-- a cut to the innermost block leaves all blocks
cut_stays : (n : ℕ) (b : Block) (bs after : List Block) → n ≡ length bs → CutBlocks n (b ∷ bs) after → after ≡ b ∷ bs
cut_stays n b bs after h c = from (all_or_part b bs after c.part)
  where
    from : (after ≡ b ∷ bs) ⊎ OuterPart after bs → after ≡ b ∷ bs
    from (inl e) = e
    from (inr p) = absurd (omega (arith, h, length_of_part bs after p, c.count))

-- a cut among blocks is not to one inside all of them
cut_is_among : (n : ℕ) (bs after : List Block) → n ≡ length bs → CutBlocks n bs after → ⊥
cut_is_among n bs after h c = omega (arith, h, length_of_part bs after c.part, c.count)

-- the blocks that a cut leaves
cut_blocks :
    (size block : ℕ) (bs after : List Block) → blocks_from size bs block ≡ Some after → CutBlocks (outside_of after) bs after
cut_blocks size block [] after e = absurd (cc e)
cut_blocks size block (b ∷ bs) after e = from (is_open b.kind) (lent_from size (b ∷ bs) == block) refl e (cut_blocks size block bs after)
  where
    passed : CutBlocks (outside_of after) bs after → CutBlocks (outside_of after) (b ∷ bs) after
    passed c = record { part = part_of_rest b bs after c.part; count = c.count; innermost = c.innermost }

    from :
        (o t : Bool) → is_open b.kind ≡ o → cond (o && t) (Some (b ∷ bs)) (blocks_from size bs block) ≡ Some after
        → (blocks_from size bs block ≡ Some after → CutBlocks (outside_of after) bs after) → CutBlocks (outside_of after) (b ∷ bs) after
    from true true h f g =
        subst (λ l. CutBlocks (outside_of l) (b ∷ bs) l) (cc f) (record { part = record { inner = []; parts = refl }; count = omega arith; innermost = h })
    from true false h f g = passed (g f)
    from false t h f g = passed (g f)

-- the blocks that are left where a block is given back, or closed
given_back : (outside : ℕ) (b : Block) (bs all left : List Block) → all ≡ b ∷ bs → blocks_outside outside all ≡ Some left → left ≡ bs
given_back outside b bs all left same e = from (is_record b.kind && (length bs == outside)) (sym (ap (blocks_outside outside) same) ∙ e)
  where
    from : (t : Bool) → cond t (Some bs) None ≡ Some left → left ≡ bs
    from true f = cc f
    from false f = absurd (cc f)

abbrev closed : Block → Block
closed b = record b { kind = closed_record }

closed_blocks : (outside : ℕ) (b : Block) (bs all left : List Block) → all ≡ b ∷ bs → blocks_closed outside all ≡ Some left → left ≡ closed b ∷ bs
closed_blocks outside b bs all left same e = from (is_open b.kind && (length bs == outside)) (sym (ap (blocks_closed outside) same) ∙ e)
  where
    from : (t : Bool) → cond t (Some (closed b ∷ bs)) None ≡ Some left → left ≡ closed b ∷ bs
    from true f = cc f
    from false f = absurd (cc f)

-- combinators

with_some_ended :
    {X : Type 0} (Q : MidOutcome → Type 0) (o : Option X) (next : X → Next) (rs : Registers) (z : MidState) → Q (ends stuck rs z)
    → ((x : X) → o ≡ Some x → Q (next x rs z)) → Q (with_some o next rs z)
unfolding with_some
with_some_ended Q None next rs z g h = g
with_some_ended Q (Some x) next rs z g h = h x refl

choose_ended :
    (Q : MidOutcome → Type 0) (b : Bool) (first second : Next) (rs : Registers) (z : MidState) → (b ≡ true → Q (first rs z))
    → (b ≡ false → Q (second rs z)) → Q (choose_by b first second rs z)
unfolding choose_by
choose_ended Q true first second rs z g h = g refl
choose_ended Q false first second rs z g h = h refl

-- code that falls out with the same blocks, or that is stuck
fell : (rs : Registers) (z : MidState) → CodeEnded z.arena.blocks (ends falls rs z)
fell rs z = record { blocks = refl }

stuck_there : (bs : List Block) (rs : Registers) (z : MidState) → CodeEnded bs (ends stuck rs z)
stuck_there bs rs z = record { blocks = tt }

some_ended :
    {X : Type 0} (bs : List Block) (o : Option X) (next : X → Next) (rs : Registers) (z : MidState) → ((x : X) → CodeEnded bs (next x rs z))
    → CodeEnded bs (with_some o next rs z)
some_ended bs o next rs z h = with_some_ended (CodeEnded bs) o next rs z (stuck_there bs rs z) (λ x e. h x)

with_registers_ended :
    (bs : List Block) (list : List ℕ) (next : List ℕ → Next) (rs : Registers) (z : MidState) → ((ws : List ℕ) → CodeEnded bs (next ws rs z))
    → CodeEnded bs (with_registers list next rs z)
unfolding with_registers
with_registers_ended bs [] next rs z h = h []
with_registers_ended bs (r ∷ more) next rs z h =
    some_ended bs _ _ rs z (λ w. with_registers_ended bs more (λ ws. next (w ∷ ws)) rs z (λ ws. h (w ∷ ws)))

go_on_ended : (bs : List Block) (r : MidOutcome) (next : Next) → CodeEnded bs r → ((rs : Registers) (y : MidState) → CodeEnded y.arena.blocks (next rs y)) → CodeEnded bs (go_on r next)
unfolding go_on
go_on_ended bs r next g h = from r.end r.registers r.state g
  where
    from : (e : End) (rs : Registers) (z : MidState) → CodeEnded bs (ends e rs z) → CodeEnded bs (go_on (ends e rs z) next)
    from falls rs z g = subst (λ l. CodeEnded l (next rs z)) g.blocks (h rs z)
    from e rs z g = g

jumped_ended : (bs : List Block) (r : MidOutcome) → CodeEnded bs r → CodeEnded bs (jumped r)
jumped_ended bs r g = go_on_ended bs r _ g (λ rs y. record { blocks = refl })

called_ended : (bs : List Block) (r : MidOutcome) (to : ℕ) (own : Registers) → ProcedureEnded bs r → CodeEnded bs (called r to own)
unfolding called
called_ended bs r to own g = from r.end r.registers r.state g
  where
    from : (e : End) (rs : Registers) (z : MidState) → ProcedureEnded bs (ends e rs z) → CodeEnded bs (called (ends e rs z) to own)
    from falls rs z g = absurd g.blocks
    from (returns w) rs z g = record { blocks = g.blocks }
    from (cuts n w) rs z g = record { blocks = g.blocks }
    from e rs z g = record { blocks = tt }

-- the body of a procedure, which has laid a block that is no open record
leaves_ended : (b : Block) (bs : List Block) (r : MidOutcome) → is_open b.kind ≡ false → CodeEnded (b ∷ bs) r → ProcedureEnded bs (leaves bs r)
unfolding leaves
leaves_ended b bs r h g = from r.end r.registers r.state g
  where
    from : (e : End) (rs : Registers) (z : MidState) → CodeEnded (b ∷ bs) (ends e rs z) → ProcedureEnded bs (leaves bs (ends e rs z))
    from (returns w) rs z g = record { blocks = refl }
    from (cuts n w) rs z g = record { blocks = cut_passes n b bs z.arena.blocks h g.blocks }
    from e rs z g = record { blocks = tt }

-- control records

give_back_ended : (outside : ℕ) (b : Block) (bs : List Block) (rs : Registers) (z : MidState) → z.arena.blocks ≡ b ∷ bs → CodeEnded bs (give_back outside rs z)
give_back_ended outside b bs rs z same =
    with_some_ended (CodeEnded bs) (blocks_outside outside z.arena.blocks) _ rs _ (stuck_there bs rs _)
    (λ left e. record { blocks = given_back outside b bs z.arena.blocks left same e })

-- the landing of a record that is closed, and the record given back behind it
closed_ended : (outside : ℕ) (b : Block) (bs : List Block) (r : MidOutcome) → is_open b.kind ≡ false → CodeEnded (b ∷ bs) r → CodeEnded bs (go_on r (give_back outside))
unfolding go_on
closed_ended outside b bs r h g = from r.end r.registers r.state g
  where
    from : (e : End) (rs : Registers) (z : MidState) → CodeEnded (b ∷ bs) (ends e rs z) → CodeEnded bs (go_on (ends e rs z) (give_back outside))
    from falls rs z g = give_back_ended outside b bs rs z g.blocks
    from (returns w) rs z g = record { blocks = rest_is_part b bs z.arena.blocks g.blocks }
    from (cuts n w) rs z g = record { blocks = cut_passes n b bs z.arena.blocks h g.blocks }
    from e rs z g = record { blocks = tt }

run_landing_ended :
    (outside word : ℕ) (landing : Next) (b : Block) (bs : List Block) (w : ℕ) (rs : Registers) (z : MidState)
    → ((rs : Registers) (y : MidState) → CodeEnded y.arena.blocks (landing rs y)) → z.arena.blocks ≡ b ∷ bs
    → CodeEnded bs (run_landing outside word landing w rs z)
run_landing_ended outside word landing b bs w rs z h same =
    with_some_ended (CodeEnded bs) (blocks_closed outside z.arena.blocks) _ rs z (stuck_there bs rs z) (λ left e.
    closed_ended outside (closed b) bs _ refl
    (subst (λ l. CodeEnded l (landing (slice_set rs word (Some w)) (with_arena (with_blocks left z.arena) z)))
    (closed_blocks outside b bs z.arena.blocks left same e) (h _ _)))

-- no cut is to a block inside all of them
nothing_caught : (bs : List Block) (catch : ℕ → Next) (r : MidOutcome) → CodeEnded bs r → CodeEnded bs (landed (length bs) catch r)
unfolding landed
nothing_caught bs catch r g = from r.end r.registers r.state g
  where
    from : (e : End) (rs : Registers) (z : MidState) → CodeEnded bs (ends e rs z) → CodeEnded bs (landed (length bs) catch (ends e rs z))
    from (cuts n w) rs z g =
        choose_ended (CodeEnded bs) _ (catch w) (ends (cuts n w)) rs z
        (λ t. absurd (cut_is_among n bs z.arena.blocks (eqb-true n (length bs) t) g.blocks)) (λ t. g)
    from e rs z g = g

-- the inside of a record, what comes behind it, and what catches a cut to it
record_ended :
    (b : Block) (bs : List Block) (r : MidOutcome) (next : Next) (catch : ℕ → Next) → CodeEnded (b ∷ bs) r
    → ((rs : Registers) (y : MidState) → y.arena.blocks ≡ b ∷ bs → CodeEnded bs (next rs y))
    → ((w : ℕ) (rs : Registers) (y : MidState) → y.arena.blocks ≡ b ∷ bs → CodeEnded bs (catch w rs y))
    → CodeEnded bs (landed (length bs) catch (go_on r next))
unfolding go_on landed
record_ended b bs r next catch g h k = from r.end r.registers r.state g
  where
    from : (e : End) (rs : Registers) (z : MidState) → CodeEnded (b ∷ bs) (ends e rs z) → CodeEnded bs (landed (length bs) catch (go_on (ends e rs z) next))
    from falls rs z g = nothing_caught bs catch (next rs z) (h rs z g.blocks)
    from (returns w) rs z g = record { blocks = rest_is_part b bs z.arena.blocks g.blocks }
    from (cuts n w) rs z g =
        choose_ended (CodeEnded bs) _ (catch w) (ends (cuts n w)) rs z
        (λ t. k w rs z (cut_stays n b bs z.arena.blocks (eqb-true n (length bs) t) g.blocks))
        (λ t. record { blocks = cut_passes_other n b bs z.arena.blocks (eqb-false n (length bs) t) g.blocks })
    from e rs z g = record { blocks = tt }

with_record_ended :
    (block words word : ℕ) (inside landing : Next) (rs : Registers) (z : MidState)
    → ((rs : Registers) (y : MidState) → CodeEnded y.arena.blocks (inside rs y)) → ((rs : Registers) (y : MidState) → CodeEnded y.arena.blocks (landing rs y))
    → CodeEnded z.arena.blocks (with_record block words word inside landing rs z)
with_record_ended block words word inside landing rs z g h =
    choose_ended (CodeEnded z.arena.blocks) _ _ _ rs _
    (λ t. record_ended (record_of words) z.arena.blocks _ _ (run_landing (length z.arena.blocks) word landing) (g _ _)
    (λ rs' y same. jumped_ended z.arena.blocks _ (give_back_ended (length z.arena.blocks) (record_of words) z.arena.blocks rs' y same))
    (λ w rs' y same. run_landing_ended (length z.arena.blocks) word landing (record_of words) z.arena.blocks w rs' y h same))
    (λ t. record { blocks = tt })

-- a block that is lent is passed by cuts, as a record that is closed
with_lent_ended :
    (block words : ℕ) (inside : Next) (rs : Registers) (z : MidState) → ((rs : Registers) (y : MidState) → CodeEnded y.arena.blocks (inside rs y))
    → CodeEnded z.arena.blocks (with_lent block words inside rs z)
with_lent_ended block words inside rs z h =
    choose_ended (CodeEnded z.arena.blocks) _ _ _ rs z
    (λ t. choose_ended (CodeEnded z.arena.blocks) _ _ _ rs z
    (λ u. closed_ended (length z.arena.blocks) (lent_block words) z.arena.blocks _ refl (h _ _))
    (λ u. record { blocks = tt }))
    (λ t. stuck_there z.arena.blocks rs z)

-- operations

store_ended : (a w : ℕ) (next : Next) (rs : Registers) (z : MidState) → ((rs : Registers) (y : MidState) → CodeEnded y.arena.blocks (next rs y)) → CodeEnded z.arena.blocks (store a w next rs z)
store_ended a w next rs z h = choose_ended (CodeEnded z.arena.blocks) _ _ _ rs z (λ t. h rs _) (λ t. stuck_there z.arena.blocks rs z)

get_ended : (bytes : List ℕ) (to : ℕ) (rs : Registers) (z : MidState) → CodeEnded z.arena.blocks (get_from bytes to rs z)
get_ended [] to rs z = record { blocks = refl }
get_ended (byte ∷ bytes) to rs z = record { blocks = refl }

cut_ended : (block word : ℕ) (rs : Registers) (z : MidState) → CodeEnded z.arena.blocks (cut block word rs z)
cut_ended block word rs z =
    with_some_ended (CodeEnded z.arena.blocks) (blocks_from (length z.arena.memory) z.arena.blocks block) _ rs z (stuck_there z.arena.blocks rs z)
    (λ left e. record { blocks = cut_blocks (length z.arena.memory) block z.arena.blocks left e })

test_ended :
    (t : Test) (first second : Next) (rs : Registers) (z : MidState) → ((rs : Registers) (y : MidState) → CodeEnded y.arena.blocks (first rs y))
    → ((rs : Registers) (y : MidState) → CodeEnded y.arena.blocks (second rs y)) → CodeEnded z.arena.blocks (test t first second rs z)
test_ended t first second rs z g h =
    some_ended z.arena.blocks _ _ rs _ (λ a. some_ended z.arena.blocks _ _ rs _ (λ b.
    choose_ended (CodeEnded z.arena.blocks) _ first second rs _ (λ e. g rs _) (λ e. h rs _)))

-- code and tasks, where it is so for tasks one level below and one turn further

pub record TasksEnd (f : Task → MidState → MidOutcome) : Type 0 where
  pub at : (task : Task) (z : MidState) → TaskEnded task z.arena.blocks (f task z)

module _ (c : Context) (below : TasksEnd c.below) (further : TasksEnd c.further) where
  count_ended : (how : Counted) (task : Task) (z : MidState) → TaskEnded task z.arena.blocks (count c how task z)
  count_ended Level task z = below.at task z
  count_ended Turn task z = further.at task z

  callee_ended :
      (callee : Callee) (next : MidProcedure → Next) (rs : Registers) (z : MidState) → ((p : MidProcedure) → CodeEnded z.arena.blocks (next p rs z))
      → CodeEnded z.arena.blocks (with_callee c callee next rs z)
  callee_ended (Procedure n) next rs z h = some_ended z.arena.blocks _ next rs z h
  callee_ended (Word r) next rs z h = some_ended z.arena.blocks _ _ rs z (λ n. some_ended z.arena.blocks _ next rs z h)

  operate_ended : (o : Operation) (rs : Registers) (z : MidState) → CodeEnded z.arena.blocks (operate c o rs z)
  operate_ended (Move to from) rs z = some_ended z.arena.blocks _ (gives to) rs z (λ w. fell _ z)
  operate_ended (Constant to word) rs z = fell _ z
  operate_ended (Compute to which first second) rs z =
      some_ended z.arena.blocks _ _ rs z (λ a. some_ended z.arena.blocks _ _ rs z (λ b. fell _ z))
  operate_ended (Load to base offset) rs z =
      some_ended z.arena.blocks _ _ rs z (λ a. some_ended z.arena.blocks _ (gives to) rs z (λ w. fell _ z))
  operate_ended (Store from base offset) rs z =
      some_ended z.arena.blocks _ _ rs z (λ w. some_ended z.arena.blocks _ _ rs z (λ a. store_ended _ w (ends falls) rs z (λ rs' y. fell rs' y)))
  operate_ended (Request to words) rs z =
      some_ended z.arena.blocks _ _ rs z (λ w.
      choose_ended (CodeEnded z.arena.blocks) _ _ _ rs z (λ t. record { blocks = refl }) (λ t. record { blocks = tt }))
  operate_ended (Draw to base offset) rs z =
      some_ended z.arena.blocks _ _ rs z (λ a. some_ended z.arena.blocks _ _ rs z (λ w.
      choose_ended (CodeEnded z.arena.blocks) _ _ _ rs z (λ t. record { blocks = tt }) (λ t. store_ended _ (w + 1) (gives to (w + 1)) rs z (λ rs' y. fell _ y))))
  operate_ended (Put from) rs z = some_ended z.arena.blocks _ _ rs z (λ w. record { blocks = refl })
  operate_ended (Get to) rs z = get_ended z.input to rs z
  operate_ended (Call to callee arguments) rs z =
      with_registers_ended z.arena.blocks arguments _ rs z (λ ws. callee_ended callee _ rs z (λ p.
      called_ended z.arena.blocks _ to rs (count_ended p.counted (enter p ws) z)))

  mutual
    unfolding exec

    pub exec_ended : (code : MidCode) (rs : Registers) (z : MidState) → CodeEnded z.arena.blocks (exec c code rs z)
    exec_ended no_step rs z = fell rs z
    exec_ended (step_and s code) rs z = go_on_ended z.arena.blocks _ _ (step_ended s rs z) (λ rs' y. exec_ended code rs' y)

    pub step_ended : (s : MidStep) (rs : Registers) (z : MidState) → CodeEnded z.arena.blocks (exec_step c s rs z)
    step_ended (perform o) rs z = operate_ended o rs _
    step_ended (choose t first second) rs z =
        test_ended t _ _ rs z (λ rs' y. jumped_ended y.arena.blocks _ (exec_ended first rs' y)) (λ rs' y. jumped_ended y.arena.blocks _ (exec_ended second rs' y))
    step_ended (switch r codes) rs z =
        some_ended z.arena.blocks _ _ rs _ (λ n. jumped_ended z.arena.blocks _ (number_ended codes n rs _))
    step_ended (repeat how head t body) rs z =
        go_on_ended z.arena.blocks _ _ (exec_ended head rs z) (λ rs' y. test_ended t _ _ rs' y
        (λ rs'' x. go_on_ended x.arena.blocks _ _ (jumped_ended x.arena.blocks _ (exec_ended body rs'' x))
        (λ rs''' w. count_ended how (again (repeat how head t body) rs''') w))
        (λ rs'' x. fell rs'' x))
    step_ended (with_block block words word inside landing) rs z =
        with_record_ended block words word (λ rs' y. exec c inside rs' y) (λ rs' y. exec c landing rs' y) rs z (λ rs' y. exec_ended inside rs' y) (λ rs' y. exec_ended landing rs' y)
    step_ended (lend block words inside) rs z =
        some_ended z.arena.blocks _ _ rs _ (λ n. with_lent_ended block n (λ rs' y. exec c inside rs' y) rs _ (λ rs' y. exec_ended inside rs' y))
    step_ended (return_word r) rs z =
        some_ended z.arena.blocks _ _ rs _ (λ w. record { blocks = record { inner = []; parts = refl } })
    step_ended (cut_to block word) rs z =
        some_ended z.arena.blocks _ _ rs _ (λ b. some_ended z.arena.blocks _ _ rs _ (λ w. cut_ended b w rs _))
    step_ended (halt_with r) rs z = some_ended z.arena.blocks _ _ rs _ (λ w. record { blocks = tt })
    step_ended (end_unhandled class site condition) rs z =
        some_ended z.arena.blocks _ _ rs _ (λ a. some_ended z.arena.blocks _ _ rs _ (λ b. some_ended z.arena.blocks _ _ rs _ (λ w. record { blocks = tt })))

    number_ended : (codes : MidCodes) (n : ℕ) (rs : Registers) (z : MidState) → CodeEnded z.arena.blocks (exec_number c codes n rs z)
    number_ended no_code n rs z = stuck_there z.arena.blocks rs z
    number_ended (code_and code codes) zero rs z = exec_ended code rs z
    number_ended (code_and code codes) (suc n) rs z = number_ended codes n rs z

  procedure_ended : (p : MidProcedure) (arguments : List ℕ) (z : MidState) → ProcedureEnded z.arena.blocks (run_procedure c p arguments z)
  procedure_ended p arguments z =
      choose_ended (ProcedureEnded z.arena.blocks) _ _ _ _ _
      (λ t. choose_ended (ProcedureEnded z.arena.blocks) _ _ _ _ _
      (λ u. leaves_ended (record { words = p.frame; kind = activation_frame }) z.arena.blocks _ refl (exec_ended (code_of p.body) _ _))
      (λ u. record { blocks = tt }))
      (λ t. record { blocks = tt })

  task_ended : (task : Task) (z : MidState) → TaskEnded task z.arena.blocks (run_task c task z)
  task_ended (enter p arguments) z = procedure_ended p arguments z
  task_ended (again s rs) z = step_ended s rs z

-- tasks with so many turns and levels

no_turn_ended : (task : Task) (bs : List Block) (z : MidState) → TaskEnded task bs (ends no_turn [] z)
no_turn_ended (enter p arguments) bs z = record { blocks = tt }
no_turn_ended (again s rs) bs z = record { blocks = tt }

no_level_ended : (task : Task) (bs : List Block) (z : MidState) → TaskEnded task bs (ends no_level [] z)
no_level_ended (enter p arguments) bs z = record { blocks = tt }
no_level_ended (again s rs) bs z = record { blocks = tt }

pub turns_end : (procedures : List MidProcedure) (below : Task → MidState → MidOutcome) → TasksEnd below → (n : ℕ) → TasksEnd (turns procedures below n)
unfolding turns
turns_end procedures below g zero = record { at = λ task z. no_turn_ended task z.arena.blocks z }
turns_end procedures below g (suc n) = record {
  at = λ task z. task_ended (context_of procedures below (turns procedures below n)) g (turns_end procedures below g n) task z;
}

pub levels_end : (procedures : List MidProcedure) (turns_each k : ℕ) → TasksEnd (levels procedures turns_each k)
unfolding levels
levels_end procedures turns_each zero = record { at = λ task z. no_level_ended task z.arena.blocks z }
levels_end procedures turns_each (suc k) = turns_end procedures _ (levels_end procedures turns_each k) (suc turns_each)

at_top_ended : (bs : List Block) (r : MidOutcome) → ProcedureEnded bs r → ProcedureEnded bs (at_top r)
unfolding at_top
at_top_ended bs r g = from r.end r.registers r.state g
  where
    from : (e : End) (rs : Registers) (z : MidState) → ProcedureEnded bs (ends e rs z) → ProcedureEnded bs (at_top (ends e rs z))
    from falls rs z g = record { blocks = tt }
    from (cuts n w) rs z g = record { blocks = tt }
    from e rs z g = g

runs_end : (program : MidProgram) (k turns_each entry : ℕ) (arguments : List ℕ) (z : MidState) → ProcedureEnded z.arena.blocks (runs program k turns_each entry arguments z)
unfolding runs
runs_end program k turns_each entry arguments z =
    at_top_ended z.arena.blocks _
    (with_some_ended (ProcedureEnded z.arena.blocks) (slice_get program.procedures entry) _ [] z (record { blocks = tt }) (λ p e.
    (levels_end program.procedures turns_each (suc k)).at (enter p arguments) z))

further_end : (procedures : List MidProcedure) (k turns_each n : ℕ) → TasksEnd (turns procedures (levels procedures turns_each k) n)
further_end procedures k turns_each n = turns_end procedures _ (levels_end procedures turns_each k) n

pub law_of_blocks : LawOfBlocks
law_of_blocks = record {
  of_code = λ procedures k turns_each n code rs z.
      exec_ended (context_in procedures k turns_each n) (levels_end procedures turns_each k) (further_end procedures k turns_each n) code rs z;
  of_steps = λ procedures k turns_each n s rs z.
      step_ended (context_in procedures k turns_each n) (levels_end procedures turns_each k) (further_end procedures k turns_each n) s rs z;
  of_turns = λ procedures k turns_each n task z. (further_end procedures k turns_each n).at task z;
  of_levels = λ procedures k turns_each task z. (levels_end procedures turns_each k).at task z;
  of_runs = runs_end;
}
