-- It is left to see what the rest says.
use Rattle.std.proofs.Common.{◌≡◌, take}
use Rattle.front_profile.specs.Rows.{macro_named}
use Rattle.front_scope.proofs.MacroNames.{from_there}
use Rattle.front_scope.proofs.calls.macro_named.Given as goal

abbrev pub invariant-loop-at : goal.invariant-loop-at
invariant-loop-at l = from_there l.at (take l.count l.macros) l.name ≡ macro_named (take l.count l.macros) l.name
