-- Those behind are bound.
use Rattle.std.proofs.Common.{◌≡◌, drop}
use Rattle.flat_language.specs.Scope.{captured_variables}
use Rattle.flat_conversion.specs.Places.{scope_of}
use Rattle.flat_conversion.proofs.places.Places.captured_variables.Given as goal

abbrev pub invariant-loop-at : goal.invariant-loop-at
invariant-loop-at l = l.made ≡ captured_variables (scope_of l.self) (drop l.at l.parts) l.at
