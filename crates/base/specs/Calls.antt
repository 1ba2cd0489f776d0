-- How the calls of an outside in memory are counted.
use Rattle.std.specs.Prelude.{ℕ, ◌+◌, List, min}
use Rattle.std.specs.List.{Contains}
use Rattle.base.specs.declared.calls.Calls.{Calls}

-- a count raised by one, which stands still at the end of 64 bits
abbrev pub one_more : ℕ → ℕ
one_more n = min (n + 1) 18446744073709551615

-- before the first call
abbrev pub no_calls : List ℕ → Calls
no_calls numbers = record { fails = numbers; made = 0; faults = 0 }

-- the next call is listed among those that fail
abbrev pub NextFails : Calls → Type 0
NextFails calls = Contains calls.fails calls.made

-- after a call that did not fail
abbrev pub passed : Calls → Calls
passed calls = record { fails = calls.fails; made = one_more calls.made; faults = calls.faults }

-- after a call that failed
abbrev pub failed : Calls → Calls
failed calls = record { fails = calls.fails; made = one_more calls.made; faults = one_more calls.faults }
