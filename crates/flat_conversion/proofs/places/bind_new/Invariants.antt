-- Those behind are bound in the slots behind.
use Rattle.std.proofs.Common.{◌≡◌, ◌+◌, ◌++◌, length, drop}
use Rattle.flat_conversion.specs.NewVariables.{slots_of}
use Rattle.flat_conversion.proofs.places.bind_new.Given as goal

abbrev pub invariant-loop-at : goal.invariant-loop-at
invariant-loop-at l = record {
  slot : l.slot + length l.news ≡ l.end + l.at;
  bound : l.variables ≡ slots_of (drop l.at l.news) l.slot ++ l.initial.variables;
}
