-- What is passed is made.
use Rattle.std.proofs.Common.{◌≡◌, take}
use Rattle.flat_language.specs.Scope.{flat_parts}
use Rattle.flat_conversion.specs.Places.{scope_of}
use Rattle.flat_conversion.proofs.places.Places.parts.Given as goal

abbrev pub invariant-loop-at : goal.invariant-loop-at
invariant-loop-at l = l.made ≡ flat_parts (scope_of l.self) (take l.at l.parts)
