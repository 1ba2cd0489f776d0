-- What middle code means: a row for each operation and each step, with levels and turns.
use Rattle.std.specs.Prelude.{ℕ, zero, suc, ℤ, ◌+◌, ◌-◌, ◌%◌, ◌^◌, ◌==◌, nat_le, List, [], ◌∷◌, ◌++◌, length, slice_get, slice_set, Some}
use Rattle.mid_code.specs.declared.operation.Counted.{Counted}
use Rattle.mid_code.specs.declared.operation.Counted.TheVariants.{Level, Turn}
use Rattle.mid_code.specs.declared.operation.Callee.{Callee}
use Rattle.mid_code.specs.declared.operation.Callee.TheVariants.{Procedure, Word}
use Rattle.mid_code.specs.declared.operation.Operation.{Operation}
use Rattle.mid_code.specs.declared.operation.Operation.TheVariants.{Move, Constant, Compute, Load, Store, Request, Draw, Put, Get, Call}
use Rattle.mid_code.specs.declared.operation.Test.{Test}
use Rattle.mid_code.specs.declared.program.MidProcedure.{MidProcedure}
use Rattle.mid_code.specs.declared.program.MidProgram.{MidProgram}
use Rattle.mid_code.specs.MidCode.{MidStep, perform, choose, switch, repeat, with_block, lend, return_word, cut_to, halt_with, end_unhandled, MidCode, no_step, step_and, MidCodes, no_code, code_and, code_of}
use Rattle.mid_code.specs.Words.{computed, compares, address}
use Rattle.mid_code.specs.Arena.{Block, activation_frame, record_of, lent_block, lent_from, left, is_lent, word_at, with_word, with_heap, with_blocks, with_new_block, blocks_from, outside_of, blocks_outside, blocks_closed}
use Rattle.mid_code.specs.Costs.{operation_cost, test_cost, record_cost, give_back_cost, return_cost, cut_cost, halt_cost, unhandled_cost, entry_cost}
use Rattle.mid_code.specs.Checked.{is_block_size}
use Rattle.mid_code.specs.State.{Registers, first_registers, MidState, End, falls, returns, cuts, no_room, no_level, no_turn, halts, unhandled, exhausted, stuck, MidOutcome, Next, ends, charged, with_arena, gives, go_on, with_some, choose_by, where_true, with_register, with_registers, jumped, landed}

-- operations on the arena

-- with the address at an offset from the word in a register
abbrev pub with_address : ℕ → ℤ → (ℕ → Next) → Next
with_address base offset next rs z = with_register base (λ a. next (address a offset)) rs z

abbrev pub load : ℕ → ℕ → Next
load to a rs z = with_some (word_at z.arena a) (gives to) rs z

-- a word is stored where the address is lent, and then it goes on
abbrev pub store : ℕ → ℕ → Next → Next
store a word next rs z =
    where_true (is_lent z.arena a) (λ rs' y. next rs' (with_arena (with_word a word y.arena) y)) rs z

-- so many words are left, or there is no room
abbrev pub where_left : ℕ → Next → Next
where_left words next rs z =
    choose_by (nat_le words (left z.arena)) next (λ rs' y. ends (no_room words (left y.arena)) rs' y) rs z

-- the address of the first word is where the heap ended
abbrev pub request : ℕ → ℕ → Next
request to words rs z =
    where_left words (λ rs' y. gives to y.arena.heap_to rs' (with_arena (with_heap words y.arena) y)) rs z

-- a new block of the stack, and it goes on
abbrev pub lay : Block → Next → Next
lay b next rs z = where_left b.words (λ rs' y. next rs' (with_arena (with_new_block b y.arena) y)) rs z

-- a serial number is one more than the word there
abbrev pub draw : ℕ → ℕ → Next
draw to a rs z =
    with_some (word_at z.arena a) (λ word.
    choose_by (word == 2 ^ 32 - 1) (ends exhausted) (store a (word + 1) (gives to (word + 1)))) rs z

-- the blocks above an open record end, and its landing is sought
abbrev pub cut : ℕ → ℕ → Next
cut block word rs z =
    with_some (blocks_from (length z.arena.memory) z.arena.blocks block) (λ bs rs' y.
    ends (cuts (outside_of bs) word) rs' (with_arena (with_blocks bs y.arena) y)) rs z

-- the innermost block, a control record with so many blocks outside, is given back
abbrev pub give_back : (outside : ℕ) → Next
give_back outside rs z =
    with_some (blocks_outside outside z.arena.blocks) (λ bs rs' y.
    ends falls rs' (with_arena (with_blocks bs y.arena) y)) rs (charged give_back_cost z)

-- the innermost block, an open record with so many blocks outside, is closed, and it goes on
abbrev pub close : (outside : ℕ) → Next → Next
close outside next rs z =
    with_some (blocks_closed outside z.arena.blocks) (λ bs rs' y. next rs' (with_arena (with_blocks bs y.arena) y)) rs z

-- The inside of a control record that was laid, with so many blocks outside, with the address in a register. Where it falls out, the
-- record is given back, and the landing is jumped over.
abbrev pub run_inside : (outside block : ℕ) → Next → Next
run_inside outside block inside rs z =
    go_on (inside (slice_set rs block (Some (lent_from (length z.arena.memory) z.arena.blocks))) z)
    (λ rs' y. jumped (give_back outside rs' y))

-- The landing of a control record with so many blocks outside, with the word of a cut in a register. The record is closed, and where
-- the landing falls out, it is given back.
abbrev pub run_landing : (outside word : ℕ) → Next → ℕ → Next
run_landing outside word landing w rs z =
    close outside (λ rs' y. go_on (landing (slice_set rs' word (Some w)) y) (give_back outside)) rs z

-- A control record with so many words is laid, with its address in one register, and the inside runs; a cut to it is caught by the
-- landing, with its word in another register.
abbrev pub with_record : (block words word : ℕ) → (inside landing : Next) → Next
with_record block words word inside landing rs z =
    lay (record_of words)
    (λ rs' y. landed (length z.arena.blocks) (run_landing (length z.arena.blocks) word landing)
    (run_inside (length z.arena.blocks) block inside rs' y)) rs (charged record_cost z)

-- The inside of a block that was lent, with so many blocks outside, with the address in a register. Where it falls out, the block is
-- given back.
abbrev pub run_lent : (outside block : ℕ) → Next → Next
run_lent outside block inside rs z =
    go_on (inside (slice_set rs block (Some (lent_from (length z.arena.memory) z.arena.blocks))) z) (give_back outside)

-- A block of so many words is lent, with its address in a register, and the inside runs. No cut goes to it. It is stuck where a block
-- may not have so many words.
abbrev pub with_lent : (block words : ℕ) → (inside : Next) → Next
with_lent block words inside rs z =
    where_true (is_block_size words) (lay (lent_block words) (run_lent (length z.arena.blocks) block inside)) rs z

-- operations on what is outside

abbrev pub put : ℕ → Next
put word rs z = ends falls rs (record z { printed = z.printed ++ word % 256 ∷ [] })

abbrev pub get_from : List ℕ → ℕ → Next
get_from [] to rs z = gives to (2 ^ 32 - 1) rs z
get_from (byte ∷ bytes) to rs z = gives to byte rs (record z { input = bytes })

abbrev pub get : ℕ → Next
get to rs z = get_from z.input to rs z

-- tests
abbrev pub test : Test → Next → Next → Next
test t first second rs z =
    with_register t.first (λ a. with_register t.second (λ b. choose_by (compares t.comparison a b) first second)) rs (charged test_cost z)

-- what is done one level or one turn further: a procedure is entered with arguments, or a loop goes on with the registers
pub data Task : Type 0 where
  enter : MidProcedure → List ℕ → Task
  again : MidStep → Registers → Task

-- the procedures of the program, what a task does one level below, and what it does with one turn less
pub record Context : Type 0 where
  pub procedures : List MidProcedure
  pub below : Task → MidState → MidOutcome
  pub further : Task → MidState → MidOutcome

-- a call ended: the caller goes on with its own registers where it returned; every other end passes
abbrev pub called_from : End → ℕ → Next
called_from (returns w) to rs z = gives to w rs z
called_from falls to rs z = ends stuck rs z
called_from (cuts n w) to rs z = ends (cuts n w) rs z
called_from (no_room asked left) to rs z = ends (no_room asked left) rs z
called_from no_level to rs z = ends no_level rs z
called_from no_turn to rs z = ends no_turn rs z
called_from (halts w) to rs z = ends (halts w) rs z
called_from (unhandled class site condition) to rs z = ends (unhandled class site condition) rs z
called_from exhausted to rs z = ends exhausted rs z
called_from stuck to rs z = ends stuck rs z

unfoldable pub called : MidOutcome → ℕ → Registers → MidOutcome
called r to rs = called_from r.end to rs r.state

-- The body of a procedure ended. Where it returned, the blocks are those of the caller again; out of its end no code falls.
abbrev pub left_from : End → List Block → MidOutcome → MidOutcome
left_from (returns w) bs r = ends (returns w) r.registers (with_arena (with_blocks bs r.state.arena) r.state)
left_from falls bs r = ends stuck r.registers r.state
left_from (cuts n w) bs r = r
left_from (no_room asked left) bs r = r
left_from no_level bs r = r
left_from no_turn bs r = r
left_from (halts w) bs r = r
left_from (unhandled class site condition) bs r = r
left_from exhausted bs r = r
left_from stuck bs r = r

unfoldable pub leaves : List Block → MidOutcome → MidOutcome
leaves bs r = left_from r.end bs r

-- operations, code and tasks, in a context
module _ (context : Context) where
  -- a task by what it takes
  abbrev pub count : Counted → Task → MidState → MidOutcome
  count Level task z = context.below task z
  count Turn task z = context.further task z

  -- with the procedure that is called
  abbrev pub with_callee : Callee → (MidProcedure → Next) → Next
  with_callee (Procedure n) next rs z = with_some (slice_get context.procedures n) next rs z
  with_callee (Word r) next rs z = with_register r (λ n. with_some (slice_get context.procedures n) next) rs z

  -- an operation
  abbrev pub operate : Operation → Next
  operate (Move to from) rs z = with_register from (gives to) rs z
  operate (Constant to word) rs z = gives to word rs z
  operate (Compute to which first second) rs z =
      with_register first (λ a. with_register second (λ b. gives to (computed which a b))) rs z
  operate (Load to base offset) rs z = with_address base offset (load to) rs z
  operate (Store from base offset) rs z =
      with_register from (λ w. with_address base offset (λ a. store a w (ends falls))) rs z
  operate (Request to words) rs z = with_register words (request to) rs z
  operate (Draw to base offset) rs z = with_address base offset (draw to) rs z
  operate (Put from) rs z = with_register from put rs z
  operate (Get to) rs z = get to rs z
  operate (Call to callee arguments) rs z =
      with_registers arguments (λ ws. with_callee callee (λ p rs' y. called (count p.counted (enter p ws) y) to rs')) rs z

  unfoldable mutual
    -- code: its steps in order
    pub exec : MidCode → Next
    exec no_step rs z = ends falls rs z
    exec (step_and s c) rs z = go_on (exec_step s rs z) (λ rs' y. exec c rs' y)

    -- a step
    pub exec_step : MidStep → Next
    exec_step (perform o) rs z = operate o rs (charged (operation_cost o) z)
    exec_step (choose t first second) rs z =
        test t (λ rs' y. jumped (exec first rs' y)) (λ rs' y. jumped (exec second rs' y)) rs z
    exec_step (switch r codes) rs z =
        with_register r (λ n rs' y. jumped (exec_number codes n rs' y)) rs (charged test_cost z)
    exec_step (repeat counted head t body) rs z =
        go_on (exec head rs z) (test t
        (λ rs' y. go_on (jumped (exec body rs' y)) (λ rs'' x. count counted (again (repeat counted head t body) rs'') x))
        (ends falls))
    exec_step (with_block block words word inside landing) rs z =
        with_record block words word (λ rs' y. exec inside rs' y) (λ rs' y. exec landing rs' y) rs z
    exec_step (lend block words inside) rs z =
        with_register words (λ n. with_lent block n (λ rs' y. exec inside rs' y)) rs (charged record_cost z)
    exec_step (return_word r) rs z = with_register r (λ w. ends (returns w)) rs (charged return_cost z)
    exec_step (cut_to block word) rs z =
        with_register block (λ b. with_register word (λ w. cut b w)) rs (charged cut_cost z)
    exec_step (halt_with r) rs z = with_register r (λ w. ends (halts w)) rs (charged halt_cost z)
    exec_step (end_unhandled class site condition) rs z =
        with_register class (λ c. with_register site (λ s. with_register condition (λ w. ends (unhandled c s w)))) rs (charged unhandled_cost z)

    -- the code of a number; it is stuck past the last one
    pub exec_number : MidCodes → ℕ → Next
    exec_number no_code n rs z = ends stuck rs z
    exec_number (code_and c codes) zero rs z = exec c rs z
    exec_number (code_and c codes) (suc n) rs z = exec_number codes n rs z

  -- a procedure is entered with arguments: its frame is laid, and the body runs
  abbrev pub run_procedure : MidProcedure → List ℕ → MidState → MidOutcome
  run_procedure p arguments z =
      where_true (length arguments == p.parameters) (lay (record { words = p.frame; kind = activation_frame })
      (λ rs y. leaves z.arena.blocks (exec (code_of p.body) rs y)))
      (first_registers p.registers arguments) (charged (entry_cost p.parameters) z)

  -- a task with a level and a turn for it
  abbrev pub run_task : Task → MidState → MidOutcome
  run_task (enter p arguments) z = run_procedure p arguments z
  run_task (again s rs) z = exec_step s rs z

abbrev pub context_of : List MidProcedure → (below further : Task → MidState → MidOutcome) → Context
context_of procedures below further = record { procedures = procedures; below = below; further = further }

-- a task with so many turns, where what is one level below is given; with none there is no turn
unfoldable pub turns : List MidProcedure → (below : Task → MidState → MidOutcome) → ℕ → Task → MidState → MidOutcome
turns procedures below zero task z = ends no_turn [] z
turns procedures below (suc n) task z = run_task (context_of procedures below (turns procedures below n)) task z

-- A task with so many levels, and so many turns at each of them. A level is entered by one turn more, so that takes none of them. With
-- no levels the task ends for want of one.
unfoldable pub levels : List MidProcedure → (turns_each : ℕ) → ℕ → Task → MidState → MidOutcome
levels procedures turns_each zero task z = ends no_level [] z
levels procedures turns_each (suc k) task z = turns procedures (levels procedures turns_each k) (suc turns_each) task z

-- the end of a program: a cut that was not caught is stuck, and so is code that fell out
abbrev pub at_top_from : End → MidOutcome → MidOutcome
at_top_from (cuts n w) r = ends stuck r.registers r.state
at_top_from falls r = ends stuck r.registers r.state
at_top_from (returns w) r = r
at_top_from (no_room asked left) r = r
at_top_from no_level r = r
at_top_from no_turn r = r
at_top_from (halts w) r = r
at_top_from (unhandled class site condition) r = r
at_top_from exhausted r = r
at_top_from stuck r = r

unfoldable pub at_top : MidOutcome → MidOutcome
at_top r = at_top_from r.end r

-- A run of a program with so many levels, and so many turns at each: its procedure of a number is entered with arguments, at a level
-- that is one more.
unfoldable pub runs : MidProgram → (k turns_each : ℕ) → (entry : ℕ) → List ℕ → MidState → MidOutcome
runs program k turns_each entry arguments z =
    at_top (with_some (slice_get program.procedures entry)
    (λ p rs y. levels program.procedures turns_each (suc k) (enter p arguments) y) [] z)
