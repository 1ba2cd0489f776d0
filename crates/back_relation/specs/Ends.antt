-- **The relation of what the meaning comes to and how code ends.** There are five cases, whatever the code is of: it is done, a transfer is under
-- way, the meaning has no words left, the code stopped before its end, or there were few turns. What is said in the first two depends on the code.
use Rattle.std.specs.Prelude.{◌≡◌, ⊤, ℕ, ◌+◌, ◌*◌, ◌^◌, ◌<◌, ◌≤◌, true, List, ◌∷◌, Some, length, slice_get}
use Rattle.lang_meaning.specs.Counts.{unit_cost}
use Rattle.lang_meaning.specs.Prefixes.{IsPrefix}
use Rattle.lang_meaning.specs.State.{DynamicContext, Landing, at_segment, at_site, Outcome, value, exit, full, more, Limit, words, unlimited}
use Rattle.lang_meaning.specs.Values.{Value}
use Rattle.flat_language.specs.FlatState.{FlatEnvironment, FlatState, FlatEvaluated, charged}
use Rattle.mid_code.specs.Arena.{left, stack_from, blocks_from}
use Rattle.mid_code.specs.State.{Registers, register, End, falls, returns, cuts, no_room, no_level, no_turn, halts, unhandled, exhausted, stuck, MidState, MidOutcome}
use Rattle.mid_arena.specs.Places.{word_of}
use Rattle.back_lowering.specs.ControlWords.{current_address, link_address, target_address, landing_address, handlers_address, bindings_address, end_address}
use Rattle.back_relation.specs.Setting.{Setting}
use Rattle.back_relation.specs.Worlds.{World, Later, LandsIn, Standing, is_cleanup, record_of_exit, first_stop}
use Rattle.back_relation.specs.StackWords.{StackKept, HasWordAt}
use Rattle.back_relation.specs.Things.{Things, SiteIs}
use Rattle.back_relation.specs.Activation.{FormScope, RegistersKept, ActivationStands}

-- the walk of a transfer costs at most that much for each record that it passes, which was put aside when the record was laid
abbrev pub walk_cost : ℕ
walk_cost = 48

-- what was done cost no more than the units that were charged pay, and what was paid before
abbrev pub PaidFrom : (credit : ℕ) → FlatState → MidState → FlatState → MidState → Type 0
PaidFrom credit z y z' y' = y'.cost + unit_cost * z.state.units ≤ y.cost + unit_cost * z'.state.units + credit

-- The same where records ended too, which put their walks aside; and so much is put aside for what comes where the transfer lands.
abbrev pub PaidPassing : (credit aside : ℕ) → (before after : List Standing) → FlatState → MidState → FlatState → MidState → Type 0
PaidPassing credit aside before after z y z' y' =
    y'.cost + aside + walk_cost * length after + unit_cost * z.state.units
    ≤ y.cost + walk_cost * length before + unit_cost * z'.state.units + credit

-- a transfer to a segment puts aside what its landing costs: where that is a tagbody's, another turn of it begins
abbrev pub landing_cost : Landing → ℕ
landing_cost (at_segment i) = 250
landing_cost (at_site place) = 0

-- A form leaves so much of the first unit that it is charged for what is around it, and its own code and what routines are paid before is
-- within the rest.
abbrev pub form_spare : ℕ
form_spare = 700

abbrev pub form_credit : ℕ
form_credit = 600

-- the words that were taken were charged
abbrev pub ChargedFrom : FlatState → MidState → FlatState → MidState → Type 0
ChargedFrom z y z' y' = left y.arena + z.state.heap + z.state.stack ≤ left y'.arena + z'.state.heap + z'.state.stack

-- The same where blocks may have ended: so many would be left at least, if all blocks still stood where the heap ends now.
abbrev pub TakenCharged : FlatState → MidState → FlatState → MidState → Type 0
TakenCharged z y z' y' = 4 * (left y.arena + z.state.heap + z.state.stack) + y'.arena.heap_to ≤ stack_from y.arena + 4 * (z'.state.heap + z'.state.stack)

-- so many turns are few for what was done: each unit takes at most 16, and each word of the arena one
abbrev pub AreFew : (turns : ℕ) → FlatState → MidState → FlatState → Type 0
AreFew turns z y z' = turns + 16 * z.state.units ≤ 16 * z'.state.units + length y.arena.memory

-- ---- what is kept

-- the four control words that say what is around are as before
pub record ControlBack (y y' : MidState) : Type 0 where
  pub current : (n : ℕ) → HasWordAt y current_address n → HasWordAt y' current_address n
  pub link : (n : ℕ) → HasWordAt y link_address n → HasWordAt y' link_address n
  pub handlers : (n : ℕ) → HasWordAt y handlers_address n → HasWordAt y' handlers_address n
  pub bindings : (n : ℕ) → HasWordAt y bindings_address n → HasWordAt y' bindings_address n

module _ (setting : Setting) where
  -- what holds wherever code goes on, in its own activation or in one outside
  pub record WorldKept (w w' : World) (z z' : FlatState) (y y' : MidState) : Type 0 where
    pub later : Later w w'
    pub things : Things setting w' z' y'
    pub stack : StackKept w w' y y'
    pub end : (n : ℕ) → HasWordAt y end_address n → HasWordAt y' end_address n
    pub more_exits : z.state.exits ≤ z'.state.exits
    pub same_size : length y'.arena.memory ≡ length y.arena.memory

  -- and in its own activation
  pub record Kept (s : FormScope) (d : ℕ) (rs valid : List Standing) (w w' : World) (env : FlatEnvironment) (around : DynamicContext) (z z' : FlatState) (regs regs' : Registers) (y y' : MidState) : Type 0 where
    pub world : WorldKept w w' z z' y y'
    pub activation : ActivationStands setting s rs valid w' env around z' regs' y'
    pub registers : RegistersKept s.code d regs regs'

  -- what is as before where a part of code is done: what is around, and the blocks; and the words that were taken were charged
  pub record Around (credit : ℕ) (z z' : FlatState) (y y' : MidState) : Type 0 where
    pub control : ControlBack y y'
    pub blocks : y'.arena.blocks ≡ y.arena.blocks
    pub charged : ChargedFrom z y z' y'
    pub paid : PaidFrom credit z y z' y'

  -- code came from one point to another where it goes on
  pub record Reached (credit : ℕ) (s : FormScope) (d : ℕ) (rs valid : List Standing) (w w' : World) (env : FlatEnvironment) (around : DynamicContext) (z z' : FlatState) (regs regs' : Registers) (y y' : MidState) : Type 0 where
    pub kept : Kept s d rs valid w w' env around z z' regs regs' y y'
    pub back : Around credit z z' y y'

  -- ---- transfers

  abbrev pub LandingIs : ℕ → Landing → Type 0
  LandingIs n (at_segment i) = n ≡ i
  LandingIs n (at_site place) = SiteIs setting n place

  -- code cut to the record where the transfer goes first, with the word of its value; where that is a cleanup's, the record of the exit is kept
  pub record Transfers (credit : ℕ) (rs valid : List Standing) (w : World) (around : DynamicContext) (z : FlatState) (y : MidState) (r : FlatEvaluated) (q : MidOutcome) : Type 0 where
    pub exit_number : ℕ
    pub result : Value
    pub landing : Landing
    pub outcome : r.outcome ≡ exit exit_number result landing
    pub target : Standing
    pub valid_target : record_of_exit exit_number around.exits valid ≡ Some target
    pub to : Standing
    pub outer : List Standing
    pub stop : first_stop target.address rs ≡ to ∷ outer
    pub word : ℕ
    pub end : q.end ≡ cuts to.outside word
    pub blocks : blocks_from (length y.arena.memory) y.arena.blocks to.address ≡ Some q.state.arena.blocks
    pub w' : World
    pub of_value : word_of w'.places result ≡ Some word
    pub world : WorldKept w w' z r.state y q.state
    pub charged : TakenCharged z y r.state q.state
    pub paid : PaidPassing credit (landing_cost landing) rs (to ∷ outer) z y r.state q.state
    pub pending : is_cleanup to.role ≡ true → HasWordAt q.state target_address target.address
    pub landing_word : ℕ
    pub landing_stands : HasWordAt q.state landing_address landing_word
    pub landing_is : LandingIs landing_word landing
    pub lands : LandsIn (slice_get w'.exit_forms exit_number) landing

  -- ---- ends without a result

  -- all words of the meaning were asked for: nothing more is said, but of what was printed
  pub record FullThere (r : FlatEvaluated) (q : MidOutcome) : Type 0 where
    pub asked : ℕ
    pub left_then : ℕ
    pub outcome : r.outcome ≡ full asked left_then
    pub printed : IsPrefix r.state.state.printed q.state.printed

  abbrev pub IsFull : Outcome → Type 0
  IsFull (value v) = ⊥
  IsFull (exit e v landing) = ⊥
  IsFull (full asked left_then) = ⊤
  IsFull more = ⊥

  -- with a limit there is no room only where the meaning has no room: code asks for words only where there is a level for what they are for
  abbrev pub RoomEnded : Limit → Outcome → Type 0
  RoomEnded unlimited o = ⊤
  RoomEnded (words n) o = IsFull o

  -- why code stops before its end: there is no room, or no level, or the meaning has more exits than there are serial numbers
  abbrev pub Because : FlatEvaluated → End → Type 0
  Because r (no_room asked left_then) = RoomEnded setting.limit r.outcome × (left_then < asked)
  Because r no_level = r.outcome ≡ more
  Because r exhausted = 2 ^ 32 < r.state.state.exits
  Because r falls = ⊥
  Because r (returns word) = ⊥
  Because r (cuts n word) = ⊥
  Because r no_turn = ⊥
  Because r (halts word) = ⊥
  Because r (unhandled class site condition) = ⊥
  Because r stuck = ⊥

  -- The units of the meaning, which may have gone on, and what was paid before pay for all that was done until code stopped; nothing is said where
  -- the meaning has no level for what comes.
  pub record Stopped (credit : ℕ) (z : FlatState) (y : MidState) (r : FlatEvaluated) (q : MidOutcome) : Type 0 where
    pub because : Because r q.end
    pub printed : IsPrefix q.state.printed r.state.state.printed
    pub paid : (r.outcome ≡ more → ⊥) → PaidFrom credit z y r.state q.state

  -- ---- the five cases

  -- So much was paid before for what was done until code stopped. For forms and calls that is a unit more than where they are done: the first unit of
  -- a body pays for its frame, and the code has no room for the frame before the unit is charged.
  pub data Ends (credit : ℕ) (Done Left : Type 0) (turns : ℕ) (z : FlatState) (y : MidState) (r : FlatEvaluated) (q : MidOutcome) : Type 0 where
    done : Done → Ends credit Done Left turns z y r q
    left_by : Left → Ends credit Done Left turns z y r q
    full_there : FullThere r q → Ends credit Done Left turns z y r q
    stopped : Stopped credit z y r q → Ends credit Done Left turns z y r q
    few_turns : AreFew turns z y r.state → Ends credit Done Left turns z y r q

  -- ---- forms

  -- code fell out with the word of the value in d
  pub record Fell (credit : ℕ) (rs valid : List Standing) (s : FormScope) (d : ℕ) (w : World) (env : FlatEnvironment) (around : DynamicContext) (z : FlatState) (regs : Registers) (y : MidState)
      (r : FlatEvaluated) (q : MidOutcome) : Type 0 where
    pub result : Value
    pub outcome : r.outcome ≡ value result
    pub end : q.end ≡ falls
    pub w' : World
    pub reached : Reached credit s d rs valid w w' env around z r.state regs q.registers y q.state
    pub word : ℕ
    pub in_register : register d q.registers ≡ Some word
    pub of_value : word_of w'.places result ≡ Some word

  -- a transfer leaves the activation as it is
  pub record Left (credit : ℕ) (rs valid : List Standing) (s : FormScope) (d : ℕ) (w : World) (env : FlatEnvironment) (around : DynamicContext) (z : FlatState) (regs : Registers) (y : MidState)
      (r : FlatEvaluated) (q : MidOutcome) : Type 0 where
    pub transfer : Transfers credit rs valid w around z y r q
    pub activation : ActivationStands setting s rs valid transfer.w' env around r.state q.registers q.state
    pub registers : RegistersKept s.code d regs q.registers

  -- ---- calls

  -- a procedure returned the word of the value
  pub record Returned (credit : ℕ) (w : World) (z : FlatState) (y : MidState) (r : FlatEvaluated) (q : MidOutcome) : Type 0 where
    pub result : Value
    pub outcome : r.outcome ≡ value result
    pub word : ℕ
    pub end : q.end ≡ returns word
    pub w' : World
    pub world : WorldKept w w' z r.state y q.state
    pub back : Around credit z r.state y q.state
    pub of_value : word_of w'.places result ≡ Some word
    pub frame : r.state.frame ≡ z.frame

  pub record LeftCall (credit : ℕ) (rs valid : List Standing) (w : World) (around : DynamicContext) (z : FlatState) (y : MidState) (r : FlatEvaluated) (q : MidOutcome) : Type 0 where
    pub transfer : Transfers credit rs valid w around z y r q
    pub frame : r.state.frame ≡ z.frame

  -- **what a call comes to**
  abbrev pub CallEnds : (credit turns : ℕ) → (rs valid : List Standing) → World → DynamicContext → FlatState → MidState → FlatEvaluated → MidOutcome → Type 0
  CallEnds credit turns rs valid w around z y r q =
      Ends (credit + unit_cost) (Returned credit w z y r q) (LeftCall credit rs valid w around z y r q) turns z y r q

  -- and what the call of a function's body comes to, whose form leaves something of its first unit: so much is paid before, and that unit
  abbrev pub SparingCall : (credit turns : ℕ) → (rs valid : List Standing) → World → DynamicContext → FlatState → MidState → FlatEvaluated → MidOutcome → Type 0
  SparingCall credit turns rs valid w around z y r q = CallEnds credit turns rs valid w around (charged 1 z) y r q
