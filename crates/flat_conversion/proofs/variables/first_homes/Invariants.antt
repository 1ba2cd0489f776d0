-- What is passed is made.
use Rattle.std.proofs.Common.{◌≡◌, take}
use Rattle.flat_conversion.specs.NewVariables.{homes_of_new}
use Rattle.flat_conversion.proofs.variables.first_homes.Given as goal

abbrev pub invariant-loop-at : goal.invariant-loop-at
invariant-loop-at l = l.homes ≡ homes_of_new (take l.at l.news)
