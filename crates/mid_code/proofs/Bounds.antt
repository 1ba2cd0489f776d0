-- All words stay below 2 ^ 32: a lemma for each combinator, and a line for each operation and step.
use Rattle.std.proofs.Common.{◌≡◌, ℕ, zero, suc, ◌+◌, ◌-◌, ◌/◌, ◌^◌, ◌<◌, ◌≤◌, length, Bool, true, false, List, [], ◌∷◌, Option, Some, None, refl, sym, ap, ◌∙◌, arith}
use Rattle.std.specs.Prelude.{if◌then◌else◌, ◌==◌, ◌&&◌, nat_le, slice_get, slice_set}
use Rattle.std.specs.List.{list_all}
use Rattle.std.proofs.lemmas.Bool.{ltb-true, leb-true}
use Rattle.std.proofs.lemmas.Bool.Decides.{nat_tests}
use Rattle.std.proofs.Math.ListN.{length-set}
use Rattle.mid_code.specs.declared.operation.Counted.{Counted}
use Rattle.mid_code.specs.declared.operation.Counted.TheVariants.{Level, Turn}
use Rattle.mid_code.specs.declared.operation.Callee.{Callee}
use Rattle.mid_code.specs.declared.operation.Callee.TheVariants.{Procedure, Word}
use Rattle.mid_code.specs.declared.operation.Operation.{Operation}
use Rattle.mid_code.specs.declared.operation.Operation.TheVariants.{Move, Constant, Compute, Load, Store, Request, Draw, Put, Get, Call}
use Rattle.mid_code.specs.declared.operation.Test.{Test}
use Rattle.mid_code.specs.declared.program.MidProcedure.{MidProcedure}
use Rattle.mid_code.specs.MidCode.{MidStep, perform, choose, switch, repeat, with_block, lend, return_word, cut_to, halt_with, end_unhandled, MidCode, no_step, step_and, MidCodes, no_code, code_and, code_of}
use Rattle.mid_code.specs.Arena.{Arena, Block, activation_frame, header_words, record_of, lent_block, begin_of, lent_from, left, is_lent, word_at, emptied, with_word, with_heap, with_new_block, with_blocks}
use Rattle.mid_code.specs.State.{Registers, MidState, End, falls, returns, cuts, stuck, MidOutcome, Next, ends, charged, gives, go_on, go_on_from, with_some, choose_by, with_arena, with_register, with_registers, jumped, landed, landed_from}
use Rattle.mid_code.specs.Checked.{is_register, is_block_size, operation_fits, test_fits, step_fits, code_fits, codes_fit, is_checked, is_sound_in}
use Rattle.mid_code.specs.Meaning.{store, where_left, lay, request, draw, cut, give_back, run_inside, run_landing, with_record, run_lent, with_lent, get_from, test, Task, enter, again, Context, context_of, called, called_from, left_from, leaves, count, with_callee, operate, exec, exec_step, exec_number, run_procedure, run_task, turns, levels, at_top, at_top_from, runs}
use Rattle.mid_code.specs.Bounds.{IsWord, AreWords, AreWordsOrNone, BoundedArena, BoundedState, BoundedEnd, BoundedPoint, BoundedOutcome}
use Rattle.mid_code.specs.Law.{LawOfWords}
use Rattle.mid_code.proofs.Growth.{length-emptied}
use Rattle.mid_code.proofs.WordBounds.{computed_bounded, word_in_bounded, set_bounded, emptied_bounded, first_bounded, first_true, second_true}

-- arenas and states

word_arena : (a w : ℕ) (arena : Arena) → BoundedArena arena → IsWord w → BoundedArena (with_word a w arena)
word_arena a w arena b h =
    let same : length (slice_set arena.memory (a / 4) (Some w)) ≡ length arena.memory = length-set arena.memory (a / 4) (Some w) in
    record { memory = set_bounded arena.memory (a / 4) w b.memory h; size = omega (arith, same, b.size); heap_to = omega (arith, same, b.heap_to) }

heap_arena : (words : ℕ) (arena : Arena) → BoundedArena arena → words ≤ left arena → BoundedArena (with_heap words arena)
heap_arena words arena b h =
    let same : length (emptied (arena.heap_to / 4) words arena.memory) ≡ length arena.memory = length-emptied (arena.heap_to / 4) words arena.memory in
    record { memory = emptied_bounded _ words arena.memory b.memory; size = omega (arith, same, b.size); heap_to = omega (arith, same, b.heap_to, h) }

block_arena : (block : Block) (arena : Arena) → BoundedArena arena → BoundedArena (with_new_block block arena)
block_arena block arena b =
    let same : length (emptied (begin_of (length arena.memory) (block ∷ arena.blocks) / 4) block.words arena.memory) ≡ length arena.memory = length-emptied _ block.words arena.memory in
    record { memory = emptied_bounded _ block.words arena.memory b.memory; size = omega (arith, same, b.size); heap_to = omega (arith, same, b.heap_to) }

blocks_arena : (bs : List Block) (arena : Arena) → BoundedArena arena → BoundedArena (with_blocks bs arena)
blocks_arena bs arena b = record { memory = b.memory; size = b.size; heap_to = b.heap_to }

left_bounded : (arena : Arena) → BoundedArena arena → IsWord (left arena)
left_bounded arena b = omega (arith, b.size)

with_arena_bounded : (a : Arena) (rs : Registers) (z : MidState) → BoundedPoint rs z → BoundedArena a → BoundedPoint rs (with_arena a z)
with_arena_bounded a rs z b h = record { registers = b.registers; state = record { arena = h; input = b.state.input } }

charged_bounded : (n : ℕ) (rs : Registers) (z : MidState) → BoundedPoint rs z → BoundedPoint rs (charged n z)
charged_bounded n rs z b = record { registers = b.registers; state = record { arena = b.state.arena; input = b.state.input } }

set_point : (rs : Registers) (z : MidState) (to w : ℕ) → BoundedPoint rs z → IsWord w → BoundedPoint (slice_set rs to (Some w)) z
set_point rs z to w b h = record { registers = set_bounded rs to w b.registers h; state = b.state }

-- combinators

gives_bounded : (to w : ℕ) (rs : Registers) (z : MidState) → BoundedPoint rs z → IsWord w → BoundedOutcome (gives to w rs z)
gives_bounded to w rs z b h = record { end = tt; point = set_point rs z to w b h }

stuck_bounded : (rs : Registers) (z : MidState) → BoundedPoint rs z → BoundedOutcome (ends stuck rs z)
stuck_bounded rs z b = record { end = tt; point = b }

falls_bounded : (rs : Registers) (z : MidState) → BoundedPoint rs z → BoundedOutcome (ends falls rs z)
falls_bounded rs z b = record { end = tt; point = b }

go_on_bounded : (r : MidOutcome) (next : Next) → BoundedOutcome r → ((rs : Registers) (y : MidState) → BoundedPoint rs y → BoundedOutcome (next rs y)) → BoundedOutcome (go_on r next)
unfolding go_on
go_on_bounded r next b h = from r.end
  where
    from : (e : End) → BoundedOutcome (go_on_from e r next)
    from falls = h r.registers r.state b.point
    from e = b

with_some_bounded :
    {X : Type 0} (o : Option X) (next : X → Next) (rs : Registers) (z : MidState) → BoundedPoint rs z → ((x : X) → o ≡ Some x → BoundedOutcome (next x rs z))
    → BoundedOutcome (with_some o next rs z)
unfolding with_some
with_some_bounded None next rs z b h = stuck_bounded rs z b
with_some_bounded (Some x) next rs z b h = h x refl

choose_bounded :
    (t : Bool) (first second : Next) (rs : Registers) (z : MidState) → (t ≡ true → BoundedOutcome (first rs z)) → (t ≡ false → BoundedOutcome (second rs z))
    → BoundedOutcome (choose_by t first second rs z)
unfolding choose_by
choose_bounded true first second rs z g h = g refl
choose_bounded false first second rs z g h = h refl

-- a word that is in a register
with_register_bounded :
    (r : ℕ) (next : ℕ → Next) (rs : Registers) (z : MidState) → BoundedPoint rs z → ((w : ℕ) → IsWord w → BoundedOutcome (next w rs z))
    → BoundedOutcome (with_register r next rs z)
with_register_bounded r next rs z b h = with_some_bounded _ next rs z b (λ w e. h w (word_in_bounded rs r w b.registers e))

with_registers_bounded :
    (list : List ℕ) (next : List ℕ → Next) (rs : Registers) (z : MidState) → BoundedPoint rs z → ((ws : List ℕ) → AreWords ws → BoundedOutcome (next ws rs z))
    → BoundedOutcome (with_registers list next rs z)
unfolding with_registers
with_registers_bounded [] next rs z b h = h [] tt
with_registers_bounded (r ∷ more) next rs z b h =
    with_register_bounded r _ rs z b (λ w e. with_registers_bounded more (λ ws. next (w ∷ ws)) rs z b (λ ws f. h (w ∷ ws) (e, f)))

jumped_bounded : (r : MidOutcome) → BoundedOutcome r → BoundedOutcome (jumped r)
jumped_bounded r b = go_on_bounded r _ b (λ rs y c. falls_bounded rs _ (charged_bounded _ rs y c))

landed_bounded :
    (outside : ℕ) (catch : ℕ → Next) (r : MidOutcome) → BoundedOutcome r
    → ((w : ℕ) (rs : Registers) (y : MidState) → IsWord w → BoundedPoint rs y → BoundedOutcome (catch w rs y)) → BoundedOutcome (landed outside catch r)
unfolding landed
landed_bounded outside catch r b h = from r.end b.end
  where
    from : (e : End) → BoundedEnd e → BoundedOutcome (landed_from e outside catch r)
    from (cuts n w) g =
        choose_bounded _ (catch w) (ends (cuts n w)) r.registers r.state (λ t. h w r.registers r.state g b.point) (λ t. record { end = g; point = b.point })
    from e g = b

called_bounded : (r : MidOutcome) (to : ℕ) (rs : Registers) → BoundedOutcome r → AreWordsOrNone rs → BoundedOutcome (called r to rs)
unfolding called
called_bounded r to rs b h = from r.end b.end
  where
    own : BoundedPoint rs r.state
    own = record { registers = h; state = b.point.state }

    from : (e : End) → BoundedEnd e → BoundedOutcome (called_from e to rs r.state)
    from (returns w) g = gives_bounded to w rs r.state own g
    from falls g = stuck_bounded rs r.state own
    from e g = record { end = g; point = own }

leaves_bounded : (bs : List Block) (r : MidOutcome) → BoundedOutcome r → BoundedOutcome (leaves bs r)
unfolding leaves
leaves_bounded bs r b = from r.end b.end
  where
    from : (e : End) → BoundedEnd e → BoundedOutcome (left_from e bs r)
    from (returns w) g = record { end = g; point = with_arena_bounded _ r.registers r.state b.point (blocks_arena bs r.state.arena b.point.state.arena) }
    from falls g = stuck_bounded r.registers r.state b.point
    from e g = b

at_top_bounded : (r : MidOutcome) → BoundedOutcome r → BoundedOutcome (at_top r)
unfolding at_top
at_top_bounded r b = from r.end
  where
    from : (e : End) → BoundedOutcome (at_top_from e r)
    from falls = stuck_bounded r.registers r.state b.point
    from (cuts n w) = stuck_bounded r.registers r.state b.point
    from e = b

-- operations on the arena

lent_word : (t : Bool) (o : Option ℕ) (w : ℕ) → (if t then o else None) ≡ Some w → o ≡ Some w
lent_word true o w e = e
lent_word false o w e = absurd (cc e)

with_word_bounded :
    (a : ℕ) (next : ℕ → Next) (rs : Registers) (z : MidState) → BoundedPoint rs z → ((w : ℕ) → IsWord w → BoundedOutcome (next w rs z))
    → BoundedOutcome (with_some (word_at z.arena a) next rs z)
with_word_bounded a next rs z b h =
    with_some_bounded _ next rs z b (λ w e.
    h w (word_in_bounded z.arena.memory (a / 4) w b.state.arena.memory (lent_word (is_lent z.arena a) _ w e)))

store_bounded :
    (a w : ℕ) (next : Next) (rs : Registers) (z : MidState) → BoundedPoint rs z → IsWord w → ((y : MidState) → BoundedPoint rs y → BoundedOutcome (next rs y))
    → BoundedOutcome (store a w next rs z)
store_bounded a w next rs z b h k =
    choose_bounded _ _ _ rs z (λ t. k _ (with_arena_bounded _ rs z b (word_arena a w z.arena b.state.arena h))) (λ t. stuck_bounded rs z b)

where_left_bounded :
    (words : ℕ) (next : Next) (rs : Registers) (z : MidState) → BoundedPoint rs z → IsWord words → (words ≤ left z.arena → BoundedOutcome (next rs z))
    → BoundedOutcome (where_left words next rs z)
where_left_bounded words next rs z b h k =
    choose_bounded _ next _ rs z (λ t. k (leb-true words (left z.arena) t)) (λ t. record { end = (h, left_bounded z.arena b.state.arena); point = b })

lay_bounded :
    (block : Block) (next : Next) (rs : Registers) (z : MidState) → BoundedPoint rs z → IsWord block.words
    → (block.words ≤ left z.arena → BoundedPoint rs (with_arena (with_new_block block z.arena) z) → BoundedOutcome (next rs (with_arena (with_new_block block z.arena) z)))
    → BoundedOutcome (lay block next rs z)
lay_bounded block next rs z b h k =
    where_left_bounded block.words _ rs z b h (λ t. k t (with_arena_bounded _ rs z b (block_arena block z.arena b.state.arena)))

request_bounded : (to words : ℕ) (rs : Registers) (z : MidState) → BoundedPoint rs z → IsWord words → BoundedOutcome (request to words rs z)
request_bounded to words rs z b h =
    where_left_bounded words _ rs z b h (λ t.
    gives_bounded to z.arena.heap_to rs _ (with_arena_bounded _ rs z b (heap_arena words z.arena b.state.arena t)) (omega (arith, b.state.arena.size, b.state.arena.heap_to)))

draw_bounded : (to a : ℕ) (rs : Registers) (z : MidState) → BoundedPoint rs z → BoundedOutcome (draw to a rs z)
draw_bounded to a rs z b =
    with_word_bounded a _ rs z b (λ w h. choose_bounded (w == 2 ^ 32 - 1) _ _ rs z (λ t. record { end = tt; point = b })
    (λ t. let more : IsWord (w + 1) = grind (arith, nat_tests) in
    store_bounded a (w + 1) (gives to (w + 1)) rs z b more (λ y c. gives_bounded to (w + 1) rs y c more)))

cut_bounded : (block word : ℕ) (rs : Registers) (z : MidState) → BoundedPoint rs z → IsWord word → BoundedOutcome (cut block word rs z)
cut_bounded block word rs z b h =
    with_some_bounded _ _ rs z b (λ bs e. record { end = h; point = with_arena_bounded _ rs z b (blocks_arena bs z.arena b.state.arena) })

get_bounded : (bytes : List ℕ) (to : ℕ) (rs : Registers) (z : MidState) → BoundedPoint rs z → AreWords bytes → BoundedOutcome (get_from bytes to rs z)
get_bounded [] to rs z b h = gives_bounded to _ rs z b (omega arith)
get_bounded (byte ∷ bytes) to rs z b h =
    gives_bounded to byte rs _ (record { registers = b.registers; state = record { arena = b.state.arena; input = h.1 } }) h.0

-- control records

give_back_bounded : (outside : ℕ) (rs : Registers) (z : MidState) → BoundedPoint rs z → BoundedOutcome (give_back outside rs z)
give_back_bounded outside rs z b =
    with_some_bounded _ _ rs _ (charged_bounded _ rs z b) (λ bs e.
    falls_bounded rs _ (with_arena_bounded _ rs _ (charged_bounded _ rs z b) (blocks_arena bs z.arena b.state.arena)))

run_inside_bounded :
    (outside block : ℕ) (inside : Next) (rs : Registers) (z : MidState) → BoundedPoint rs z → IsWord (lent_from (length z.arena.memory) z.arena.blocks)
    → ((rs : Registers) (y : MidState) → BoundedPoint rs y → BoundedOutcome (inside rs y)) → BoundedOutcome (run_inside outside block inside rs z)
run_inside_bounded outside block inside rs z b h k =
    go_on_bounded _ _ (k _ z (set_point rs z block _ b h)) (λ rs' y c. jumped_bounded _ (give_back_bounded outside rs' y c))

run_landing_bounded :
    (outside word : ℕ) (landing : Next) (w : ℕ) (rs : Registers) (z : MidState) → BoundedPoint rs z → IsWord w
    → ((rs : Registers) (y : MidState) → BoundedPoint rs y → BoundedOutcome (landing rs y)) → BoundedOutcome (run_landing outside word landing w rs z)
run_landing_bounded outside word landing w rs z b h k =
    with_some_bounded _ _ rs z b (λ bs e.
    go_on_bounded _ (give_back outside)
    (k _ _ (set_point rs _ word w (with_arena_bounded _ rs z b (blocks_arena bs z.arena b.state.arena)) h))
    (λ rs' y c. give_back_bounded outside rs' y c))

-- the address of the words that a new block lends, where there was room
address_bounded :
    (block : Block) (arena : Arena) → BoundedArena arena → header_words ≤ block.words → block.words ≤ left arena
    → IsWord (lent_from (length (with_new_block block arena).memory) (with_new_block block arena).blocks)
address_bounded block arena b some h =
    let same : length (with_new_block block arena).memory ≡ length arena.memory = length-emptied _ block.words arena.memory in
    omega (arith, same, b.size, some, h)

with_record_bounded :
    (block words word : ℕ) (inside landing : Next) (rs : Registers) (z : MidState) → BoundedPoint rs z → words < 2 ^ 24
    → ((rs : Registers) (y : MidState) → BoundedPoint rs y → BoundedOutcome (inside rs y))
    → ((rs : Registers) (y : MidState) → BoundedPoint rs y → BoundedOutcome (landing rs y)) → BoundedOutcome (with_record block words word inside landing rs z)
with_record_bounded block words word inside landing rs z b h k l =
    lay_bounded (record_of words)
    (λ rs' y. landed (length z.arena.blocks) (run_landing (length z.arena.blocks) word landing) (run_inside (length z.arena.blocks) block inside rs' y)) rs _
    (charged_bounded _ rs z b) (omega (arith, h))
    (λ t c. landed_bounded (length z.arena.blocks) _ _
    (run_inside_bounded _ block inside rs _ c (address_bounded (record_of words) z.arena b.state.arena (omega arith) t) k)
    (λ w rs'' x g d. run_landing_bounded _ word landing w rs'' x d g l))

run_lent_bounded :
    (outside block : ℕ) (inside : Next) (rs : Registers) (z : MidState) → BoundedPoint rs z → IsWord (lent_from (length z.arena.memory) z.arena.blocks)
    → ((rs : Registers) (y : MidState) → BoundedPoint rs y → BoundedOutcome (inside rs y)) → BoundedOutcome (run_lent outside block inside rs z)
run_lent_bounded outside block inside rs z b h k =
    go_on_bounded _ (give_back outside) (k _ z (set_point rs z block _ b h)) (λ rs' y c. give_back_bounded outside rs' y c)

with_lent_bounded :
    (block words : ℕ) (inside : Next) (rs : Registers) (z : MidState) → BoundedPoint rs z
    → ((rs : Registers) (y : MidState) → BoundedPoint rs y → BoundedOutcome (inside rs y)) → BoundedOutcome (with_lent block words inside rs z)
with_lent_bounded block words inside rs z b k =
    choose_bounded (is_block_size words) _ (ends stuck) rs z
    (λ t. let small : words < 2 ^ 24 = ltb-true words (2 ^ 24) t in
    lay_bounded (lent_block words) (run_lent (length z.arena.blocks) block inside) rs z b (omega (arith, small))
    (λ room c. run_lent_bounded _ block inside rs _ c (address_bounded (lent_block words) z.arena b.state.arena (omega arith) room) k))
    (λ t. stuck_bounded rs z b)

test_bounded :
    (t : Test) (first second : Next) (rs : Registers) (z : MidState) → BoundedPoint rs z → ((y : MidState) → BoundedPoint rs y → BoundedOutcome (first rs y))
    → ((y : MidState) → BoundedPoint rs y → BoundedOutcome (second rs y)) → BoundedOutcome (test t first second rs z)
test_bounded t first second rs z b g h =
    let c = charged_bounded _ rs z b in
    with_register_bounded t.first _ rs _ c (λ m e. with_register_bounded t.second _ rs _ c (λ n f.
    choose_bounded _ first second rs _ (λ p. g _ c) (λ p. h _ c)))

-- tasks with words, of procedures in form

abbrev BoundedTask : Task → Type 0
BoundedTask (enter p arguments) = (is_checked p ≡ true) × AreWords arguments
BoundedTask (again s rs) = (n : ℕ) × ((step_fits n s ≡ true) × AreWordsOrNone rs)

record TasksBounded (f : Task → MidState → MidOutcome) : Type 0 where
  at : (task : Task) (z : MidState) → BoundedTask task → BoundedState z → BoundedOutcome (f task z)

record AreChecked (procedures : List MidProcedure) : Type 0 where
  at : (n : ℕ) (p : MidProcedure) → slice_get procedures n ≡ Some p → is_checked p ≡ true

module _ (c : Context) (checked : AreChecked c.procedures) (below : TasksBounded c.below) (further : TasksBounded c.further) where
  count_bounded : (how : Counted) (task : Task) (z : MidState) → BoundedTask task → BoundedState z → BoundedOutcome (count c how task z)
  count_bounded Level task z h b = below.at task z h b
  count_bounded Turn task z h b = further.at task z h b

  callee_bounded :
      (callee : Callee) (next : MidProcedure → Next) (rs : Registers) (z : MidState) → BoundedPoint rs z
      → ((p : MidProcedure) → is_checked p ≡ true → BoundedOutcome (next p rs z)) → BoundedOutcome (with_callee c callee next rs z)
  callee_bounded (Procedure n) next rs z b h = with_some_bounded _ next rs z b (λ p e. h p (checked.at n p e))
  callee_bounded (Word r) next rs z b h =
      with_register_bounded r _ rs z b (λ n f. with_some_bounded _ next rs z b (λ p e. h p (checked.at n p e)))

  operate_bounded : (n : ℕ) (o : Operation) (rs : Registers) (z : MidState) → operation_fits n o ≡ true → BoundedPoint rs z → BoundedOutcome (operate c o rs z)
  operate_bounded n (Move to from) rs z h b = with_register_bounded from (gives to) rs z b (λ w e. gives_bounded to w rs z b e)
  operate_bounded n (Constant to word) rs z h b = gives_bounded to word rs z b (ltb-true word (2 ^ 32) (second_true (is_register n to) _ h))
  operate_bounded n (Compute to which first second) rs z h b =
      with_register_bounded first _ rs z b (λ m e. with_register_bounded second _ rs z b (λ w f.
      gives_bounded to _ rs z b (computed_bounded which m w e f)))
  operate_bounded n (Load to base offset) rs z h b =
      with_register_bounded base _ rs z b (λ a e. with_word_bounded _ (gives to) rs z b (λ w f. gives_bounded to w rs z b f))
  operate_bounded n (Store from base offset) rs z h b =
      with_register_bounded from _ rs z b (λ w e. with_register_bounded base _ rs z b (λ a f.
      store_bounded _ w (ends falls) rs z b e (λ y d. falls_bounded rs y d)))
  operate_bounded n (Request to words) rs z h b = with_register_bounded words _ rs z b (λ w e. request_bounded to w rs z b e)
  operate_bounded n (Draw to base offset) rs z h b = with_register_bounded base _ rs z b (λ a e. draw_bounded to _ rs z b)
  operate_bounded n (Put from) rs z h b =
      with_register_bounded from _ rs z b (λ w e.
      falls_bounded rs _ (record { registers = b.registers; state = record { arena = b.state.arena; input = b.state.input } }))
  operate_bounded n (Get to) rs z h b = get_bounded z.input to rs z b b.state.input
  operate_bounded n (Call to callee arguments) rs z h b =
      with_registers_bounded arguments _ rs z b (λ ws e. callee_bounded callee _ rs z b (λ p f.
      called_bounded _ to rs (count_bounded p.counted (enter p ws) z (f, e) b.state) b.registers))

  mutual
    unfolding exec

    exec_bounded : (n : ℕ) (code : MidCode) (rs : Registers) (z : MidState) → code_fits n code ≡ true → BoundedPoint rs z → BoundedOutcome (exec c code rs z)
    exec_bounded n no_step rs z h b = falls_bounded rs z b
    exec_bounded n (step_and s code) rs z h b =
        go_on_bounded _ _ (step_bounded n s rs z (first_true _ (code_fits n code) h) b)
        (λ rs' y d. exec_bounded n code rs' y (second_true (step_fits n s) _ h) d)

    step_bounded : (n : ℕ) (s : MidStep) (rs : Registers) (z : MidState) → step_fits n s ≡ true → BoundedPoint rs z → BoundedOutcome (exec_step c s rs z)
    step_bounded n (perform o) rs z h b = operate_bounded n o rs _ h (charged_bounded _ rs z b)
    step_bounded n (choose t first second) rs z h b =
        let two : (test_fits n t && code_fits n first) ≡ true = first_true _ (code_fits n second) h in
        test_bounded t _ _ rs z b
        (λ y d. jumped_bounded _ (exec_bounded n first rs y (second_true (test_fits n t) _ two) d))
        (λ y d. jumped_bounded _ (exec_bounded n second rs y (second_true (test_fits n t && code_fits n first) _ h) d))
    step_bounded n (switch r codes) rs z h b =
        let d = charged_bounded _ rs z b in
        with_register_bounded r _ rs _ d (λ m e. jumped_bounded _ (number_bounded n codes m rs _ (second_true (is_register n r) _ h) d))
    step_bounded n (repeat how head t body) rs z h b =
        let two : (code_fits n head && test_fits n t) ≡ true = first_true _ (code_fits n body) h in
        go_on_bounded _ _ (exec_bounded n head rs z (first_true _ (test_fits n t) two) b)
        (λ rs' y d. test_bounded t _ _ rs' y d
        (λ x e. go_on_bounded _ _ (jumped_bounded _ (exec_bounded n body rs' x (second_true (code_fits n head && test_fits n t) _ h) e))
        (λ rs'' v f. count_bounded how _ v (n, (h, f.registers)) f.state))
        (λ x e. falls_bounded rs' x e))
    step_bounded n (with_block block words word inside landing) rs z h b =
        let four : (is_register n block && is_block_size words && is_register n word && code_fits n inside) ≡ true = first_true _ (code_fits n landing) h in
        let three : (is_register n block && is_block_size words && is_register n word) ≡ true = first_true _ (code_fits n inside) four in
        let two : (is_register n block && is_block_size words) ≡ true = first_true _ (is_register n word) three in
        with_record_bounded block words word (λ rs' y. exec c inside rs' y) (λ rs' y. exec c landing rs' y) rs z b
        (ltb-true words (2 ^ 24) (second_true (is_register n block) _ two))
        (λ rs' y d. exec_bounded n inside rs' y (second_true (is_register n block && is_block_size words && is_register n word) _ four) d)
        (λ rs' y d.
        exec_bounded n landing rs' y (second_true (is_register n block && is_block_size words && is_register n word && code_fits n inside) _ h) d)
    step_bounded n (lend block words inside) rs z h b =
        let d = charged_bounded _ rs z b in
        with_register_bounded words _ rs _ d (λ m e. with_lent_bounded block m (λ rs' y. exec c inside rs' y) rs _ d
        (λ rs' y f. exec_bounded n inside rs' y (second_true (is_register n block && is_register n words) _ h) f))
    step_bounded n (return_word r) rs z h b =
        with_register_bounded r _ rs _ (charged_bounded _ rs z b) (λ w e. record { end = e; point = charged_bounded _ rs z b })
    step_bounded n (cut_to block word) rs z h b =
        let d = charged_bounded _ rs z b in
        with_register_bounded block _ rs _ d (λ a e. with_register_bounded word _ rs _ d (λ w f. cut_bounded a w rs _ d f))
    step_bounded n (halt_with r) rs z h b =
        with_register_bounded r _ rs _ (charged_bounded _ rs z b) (λ w e. record { end = e; point = charged_bounded _ rs z b })
    step_bounded n (end_unhandled class site condition) rs z h b =
        let d = charged_bounded _ rs z b in
        with_register_bounded class _ rs _ d (λ a e. with_register_bounded site _ rs _ d (λ w f.
        with_register_bounded condition _ rs _ d (λ v g. record { end = (e, f, g); point = d })))

    number_bounded :
        (n : ℕ) (codes : MidCodes) (m : ℕ) (rs : Registers) (z : MidState) → codes_fit n codes ≡ true → BoundedPoint rs z
        → BoundedOutcome (exec_number c codes m rs z)
    number_bounded n no_code m rs z h b = stuck_bounded rs z b
    number_bounded n (code_and code codes) zero rs z h b = exec_bounded n code rs z (first_true _ (codes_fit n codes) h) b
    number_bounded n (code_and code codes) (suc m) rs z h b = number_bounded n codes m rs z (second_true (code_fits n code) _ h) b

  enter_bounded : (p : MidProcedure) (arguments : List ℕ) (z : MidState) → is_checked p ≡ true → AreWords arguments → BoundedState z → BoundedOutcome (run_procedure c p arguments z)
  enter_bounded p arguments z h g b =
      let two : (nat_le p.parameters p.registers && is_block_size p.frame) ≡ true = first_true _ (code_fits p.registers (code_of p.body)) h in
      let small : p.frame < 2 ^ 24 = ltb-true p.frame (2 ^ 24) (second_true (nat_le p.parameters p.registers) _ two) in
      let start : BoundedPoint _ (charged _ z) = record { registers = first_bounded _ arguments g; state = record { arena = b.arena; input = b.input } } in
      choose_bounded _ _ _ _ _
      (λ t. lay_bounded (record { words = p.frame; kind = activation_frame }) (λ rs y. leaves z.arena.blocks (exec c (code_of p.body) rs y)) _ _ start (omega (arith, small))
      (λ e d. leaves_bounded z.arena.blocks _ (exec_bounded p.registers (code_of p.body) _ _ (second_true (nat_le p.parameters p.registers && is_block_size p.frame) _ h) d)))
      (λ t. stuck_bounded _ _ start)

  task_bounded : (task : Task) (z : MidState) → BoundedTask task → BoundedState z → BoundedOutcome (run_task c task z)
  task_bounded (enter p arguments) z h b = enter_bounded p arguments z h.0 h.1 b
  task_bounded (again s rs) z h b = step_bounded h.0 s rs z h.1.0 (record { registers = h.1.1; state = b })

-- tasks with so many turns and levels

turns_bounded : (procedures : List MidProcedure) (below : Task → MidState → MidOutcome) → AreChecked procedures → TasksBounded below → (n : ℕ) → TasksBounded (turns procedures below n)
unfolding turns
turns_bounded procedures below checked g zero = record { at = λ task z h b. record { end = tt; point = record { registers = tt; state = b } } }
turns_bounded procedures below checked g (suc n) = record {
  at = λ task z h b. task_bounded (context_of procedures below (turns procedures below n)) checked g (turns_bounded procedures below checked g n) task z h b;
}

levels_bounded : (procedures : List MidProcedure) (turns_each : ℕ) → AreChecked procedures → (k : ℕ) → TasksBounded (levels procedures turns_each k)
unfolding levels
levels_bounded procedures turns_each checked zero = record { at = λ task z h b. record { end = tt; point = record { registers = tt; state = b } } }
levels_bounded procedures turns_each checked (suc k) = turns_bounded procedures _ checked (levels_bounded procedures turns_each checked k) (suc turns_each)

-- procedures of a list that are in form
one_checked :
    (all procedures : List MidProcedure) (n : ℕ) (p : MidProcedure) → list_all (is_sound_in all) procedures ≡ true → slice_get procedures n ≡ Some p
    → is_checked p ≡ true
one_checked all [] n p h e = absurd (cc e)
one_checked all (q ∷ qs) zero p h e =
    let same : q ≡ p = cc e in
    ap is_checked (sym same) ∙ first_true (is_checked q) _ (first_true (is_sound_in all q) _ h)
one_checked all (q ∷ qs) (suc n) p h e = one_checked all qs n p (second_true (is_sound_in all q) _ h) e

pub law_of_words : LawOfWords
unfolding runs
law_of_words program k turns_each entry arguments z h g b =
    let checked : AreChecked program.procedures = record { at = λ n p e. one_checked program.procedures program.procedures n p h e } in
    at_top_bounded _ (with_some_bounded _ _ [] z (record { registers = tt; state = b }) (λ p e.
    (levels_bounded program.procedures turns_each checked (suc k)).at (enter p arguments) z (checked.at entry p e, g) b))
