-- What code changes and comes to: the registers of an activation, the state, and the ends of code, with the combinators of the
-- meaning over them.
use Rattle.std.specs.Prelude.{ℕ, ◌+◌, ◌-◌, Bool, true, false, ◌==◌, List, [], ◌∷◌, ◌++◌, length, map, replicate, slice_get, slice_set, Option, Some, None}
use Rattle.mid_code.specs.Costs.{jump_cost}
use Rattle.mid_code.specs.Arena.{Arena, word_in}

-- the words in the registers of an activation; none in one that was not set
abbrev pub Registers : Type 0
Registers = List (Option ℕ)

-- the registers at the start of an activation with so many, the arguments in the first ones
abbrev pub first_registers : ℕ → List ℕ → Registers
first_registers count arguments = map (λ w. Some w) arguments ++ replicate {A = Option ℕ} (count - length arguments) None

-- the arena, the bytes printed, the input that is left, and the cost so far
pub record MidState : Type 0 where
  pub arena : Arena
  pub printed : List ℕ
  pub input : List ℕ
  pub cost : ℕ

-- How code ends. It falls out at its end, returns with a word, or cuts with a word to the block that has so many outside; or all ends: words were asked for that
-- were not left, levels or turns were too few, the program halts with a word, a condition is not handled, the serial numbers are
-- exhausted, or the code does what it must not do.
pub data End : Type 0 where
  falls : End
  returns : (word : ℕ) → End
  cuts : (outside word : ℕ) → End
  no_room : (asked left : ℕ) → End
  no_level : End
  no_turn : End
  halts : (word : ℕ) → End
  unhandled : (class site condition : ℕ) → End
  exhausted : End
  stuck : End

-- an end, with the registers and the state there
pub record MidOutcome : Type 0 where
  pub end : End
  pub registers : Registers
  pub state : MidState

-- what comes after in an activation
abbrev pub Next : Type 0
Next = Registers → MidState → MidOutcome

abbrev pub ends : End → Next
ends e rs z = record { end = e; registers = rs; state = z }

abbrev pub charged : ℕ → MidState → MidState
charged n z = record z { cost = z.cost + n }

abbrev pub with_arena : Arena → MidState → MidState
with_arena a z = record z { arena = a }

-- it goes on with a word in a register
abbrev pub gives : ℕ → ℕ → Next
gives to word rs z = ends falls (slice_set rs to (Some word)) z

-- code that fell out goes on; every other end passes
abbrev pub go_on_from : End → MidOutcome → Next → MidOutcome
go_on_from falls r next = next r.registers r.state
go_on_from (returns w) r next = r
go_on_from (cuts n w) r next = r
go_on_from (no_room asked left) r next = r
go_on_from no_level r next = r
go_on_from no_turn r next = r
go_on_from (halts w) r next = r
go_on_from (unhandled class site condition) r next = r
go_on_from exhausted r next = r
go_on_from stuck r next = r

unfoldable pub go_on : MidOutcome → Next → MidOutcome
go_on r next = go_on_from r.end r next

-- with what is there; it is stuck where nothing is
unfoldable pub with_some : {X : Type 0} → Option X → (X → Next) → Next
with_some None next rs z = ends stuck rs z
with_some (Some x) next rs z = next x rs z

-- one or the other
unfoldable pub choose_by : Bool → Next → Next → Next
choose_by true first second rs z = first rs z
choose_by false first second rs z = second rs z

-- only where a test holds; else it is stuck
abbrev pub where_true : Bool → Next → Next
where_true b next rs z = choose_by b next (ends stuck) rs z

-- the word in a register; none where it was not set or is not there
abbrev pub register : ℕ → Registers → Option ℕ
register r rs = word_in (slice_get rs r)

abbrev pub with_register : ℕ → (ℕ → Next) → Next
with_register r next rs z = with_some (register r rs) next rs z

-- the words in registers
unfoldable pub with_registers : List ℕ → (List ℕ → Next) → Next
with_registers [] next rs z = next [] rs z
with_registers (r ∷ more) next rs z =
    with_register r (λ w. with_registers more (λ ws. next (w ∷ ws))) rs z

-- code that fell out jumps
abbrev pub jumped : MidOutcome → MidOutcome
jumped r = go_on r (λ rs z. ends falls rs (charged jump_cost z))

-- a cut to the block that has so many outside is caught; every other end passes
abbrev pub landed_from : End → (outside : ℕ) → (ℕ → Next) → MidOutcome → MidOutcome
landed_from (cuts n w) outside catch r = choose_by (n == outside) (catch w) (ends (cuts n w)) r.registers r.state
landed_from falls outside catch r = r
landed_from (returns w) outside catch r = r
landed_from (no_room asked left) outside catch r = r
landed_from no_level outside catch r = r
landed_from no_turn outside catch r = r
landed_from (halts w) outside catch r = r
landed_from (unhandled class site condition) outside catch r = r
landed_from exhausted outside catch r = r
landed_from stuck outside catch r = r

unfoldable pub landed : (outside : ℕ) → (ℕ → Next) → MidOutcome → MidOutcome
landed outside catch r = landed_from r.end outside catch r
