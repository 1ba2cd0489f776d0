-- What is passed is copied.
use Rattle.std.proofs.Common.{◌≡◌, take}
use Rattle.flat_conversion.proofs.variables.parameters.Given as goal

abbrev pub invariant-loop-var : goal.invariant-loop-var
invariant-loop-var l = l.variables ≡ take l.var-index l.required
