-- The method is not among those that are passed.
use Rattle.std.proofs.Common.{◌≡◌, drop}
use Rattle.flat_language.specs.Scope.{captured_method}
use Rattle.flat_conversion.proofs.places.captured_method.Given as goal

abbrev pub invariant-loop-at : goal.invariant-loop-at
invariant-loop-at l = captured_method (drop l.at l.parts) l.at ≡ captured_method l.parts 0
