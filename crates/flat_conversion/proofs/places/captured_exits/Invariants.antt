-- Those behind are bound.
use Rattle.std.proofs.Common.{◌≡◌, drop}
use Rattle.flat_language.specs.Scope.{captured_exits}
use Rattle.flat_conversion.proofs.places.captured_exits.Given as goal

abbrev pub invariant-loop-at : goal.invariant-loop-at
invariant-loop-at l = l.made ≡ captured_exits (drop l.at l.parts) l.at
