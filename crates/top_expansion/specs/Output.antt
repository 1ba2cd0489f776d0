-- What is told of what an expander printed.
use Rattle.std.specs.Prelude.{ℕ, List, [], Bool, true, false, Option, Some, None}

-- that it is nothing, until a byte is printed
abbrev pub given_unless : (printed : Bool) → Option (List ℕ)
given_unless true = None
given_unless false = Some []
