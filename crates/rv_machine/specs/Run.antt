-- A run of at most n instructions, with the environment calls.
use Rattle.std.specs.Prelude.{◌≡◌, ◌<◌, ◌⊎◌, ℕ, zero, suc, ◌+◌, ◌%◌, List, [], ◌∷◌, ◌++◌, length, drop, Option, Some, None, IfSome}
use Rattle.rv_machine.specs.declared.ending.TrapKind.TheVariants.{BadCall}
use Rattle.rv_machine.specs.declared.ending.Ending.{Ending}
use Rattle.rv_machine.specs.declared.ending.Ending.TheVariants.{Halt, Unhandled, Full, Budget, Trap, ReadFault, WriteFault}
use Rattle.rv_machine.specs.State.{State, Counted, register, put, start}
use Rattle.rv_machine.specs.Step.{Result, next, environment_call, trapped, behind, step_of}

-- a moment of a run: the state, the input left, the bytes put so far, the instructions executed so far,
-- and how many of them were get-bytes
pub record Moment : Type 0 where
  pub state : State
  pub input : List ℕ
  pub printed : List ℕ
  pub executed : ℕ
  pub gets : ℕ

-- how a run ended, and where it stood then
pub record Ended : Type 0 where
  pub ending : Ending
  pub at : Moment

-- the environment call that ends a run is counted
abbrev pub ends : Ending → Moment → Ended
ends ending m = record { ending = ending; at = record m { executed = m.executed + 1 } }

-- put-byte: the low byte of register 10
abbrev pub after_put : Moment → Moment
after_put m = record m {
  state = behind m.state;
  printed = m.printed ++ register m.state 10 % 256 ∷ [];
  executed = m.executed + 1;
}

-- what get-byte puts in register 10: the next byte of the input, all ones at its end
abbrev pub got : List ℕ → ℕ
got [] = 4294967295
got (byte ∷ rest) = byte

-- get-byte
abbrev pub after_get : Moment → Moment
after_get m = record m {
  state = behind (put 10 (got m.input) m.state);
  input = drop 1 m.input;
  executed = m.executed + 1;
  gets = m.gets + 1;
}

-- what a step comes to in a run. The calls are: 0 halt with register 10; 1 put a byte; 2 get a byte;
-- 3 a condition of class register 10 that no handler took; 4 more words were asked for, register 10,
-- than were left, register 11. After 1 and 2 the run goes on behind the call.
abbrev pub act : (Moment → Ended) → Result → Moment → Ended
act go_on (next s) m = go_on (record m { state = s; executed = m.executed + 1 })
act go_on (environment_call zero) m = ends (Halt (register m.state 10)) m
act go_on (environment_call (suc zero)) m = go_on (after_put m)
act go_on (environment_call (suc (suc zero))) m = go_on (after_get m)
act go_on (environment_call (suc (suc (suc zero)))) m = ends (Unhandled (register m.state 10)) m
act go_on (environment_call (suc (suc (suc (suc zero))))) m =
    ends (Full (register m.state 10) (register m.state 11)) m
act go_on (environment_call (suc (suc (suc (suc (suc _)))))) m =
    record { ending = Trap BadCall m.state.pc; at = m }
act go_on (trapped kind address) m = record { ending = Trap kind address; at = m }

-- no further instruction
abbrev pub stop : Moment → Ended
stop m = record { ending = Budget; at = m }

-- a run of at most n instructions from a moment on; it ends Budget where n were executed without an
-- end
unfoldable pub run_from : ℕ → Moment → Ended
run_from zero m = stop m
run_from (suc n) m = act (run_from n) (step_of m.state) m

-- the moment in which nothing was put and nothing executed
abbrev pub first : State → List ℕ → Moment
first s input = record { state = s; input = input; printed = []; executed = 0; gets = 0 }

-- the run of an image's words in an arena of so many words with this input
abbrev pub run_of : List ℕ → ℕ → ℕ → List ℕ → ℕ → Ended
run_of words entry arena input n = run_from n (first (start words entry arena) input)

-- a run of one instruction
abbrev pub turn_of : State → List ℕ → Ended
turn_of s input = act stop (step_of s) (first s input)

-- the input of a run is what the source tells, or the run reads nothing
abbrev pub Feeds : Option (List ℕ) → List ℕ → Ended → Type 0
Feeds told input e = (told ≡ Some input) ⊎ (e.at.gets ≡ 0)

-- what source and sink tell: what is left to read, what was given, and in how many writes
pub record Outside : Type 0 where
  pub left : Option (List ℕ)
  pub given : Option (List ℕ)
  pub writes : ℕ

abbrev pub outside : Option (List ℕ) → Option (List ℕ) → ℕ → Outside
outside left given writes = record { left = left; given = given; writes = writes }

-- a sink that tells now what it was given told it before, and was given these bytes since, each by a
-- write of its own
pub record Gave
    (told : Option (List ℕ)) (writes : ℕ) (bytes : List ℕ) (after : List ℕ) (writes' : ℕ) : Type 0 where
  pub before : List ℕ
  pub was : told ≡ Some before
  pub appended : after ≡ before ++ bytes
  pub counted : writes' ≡ writes + length bytes

-- a machine that stood at the first moment of a run with this input stands at this one, a source that
-- told the input tells what is left, and the sink was given what was put since
pub record StandsAt (m : Moment) (input : List ℕ) (old new : Counted) (o o' : Outside) : Type 0 where
  pub state : new.state ≡ m.state
  pub count : new.count ≡ old.count + m.executed
  pub left : o.left ≡ Some input → o'.left ≡ Some m.input
  pub given : IfSome o'.given (λ after. Gave o.given o.writes m.printed after o'.writes)

-- a run of n instructions that a fault has cut off: it stands before this environment call, fewer than
-- n instructions were executed, and the bytes before it were taken and given
pub record CutOff (call n : ℕ) (old new : Counted) (o o' : Outside) (Other : Moment → Type 0) : Type 0 where
  pub turns : ℕ
  pub below : turns < n
  pub count : new.count ≡ old.count + turns
  pub before : step_of new.state ≡ environment_call call
  pub stands :
      (input : List ℕ) → Feeds o.left input (run_from turns (first old.state input))
      → ((run_from turns (first old.state input)).ending ≡ Budget)
      × StandsAt (run_from turns (first old.state input)).at input old new o o'
      × Other (run_from turns (first old.state input)).at

-- what one instruction of a run tells: nothing where the run goes on, else how it ended
abbrev pub Tells : Option Ending → Ended → Type 0
Tells None e = e.ending ≡ Budget
Tells (Some ending) e = (e.ending ≡ ending) × (ending ≡ Budget → ⊥)

-- an ending that is no fault
abbrev pub IsNoFault : Ending → Type 0
IsNoFault (Halt code) = Unit {0}
IsNoFault (Unhandled class) = Unit {0}
IsNoFault (Full asked left) = Unit {0}
IsNoFault Budget = Unit {0}
IsNoFault (Trap kind address) = Unit {0}
IsNoFault ReadFault = ⊥
IsNoFault WriteFault = ⊥
