-- The number of the digits so far, before those that are left.
use Rattle.std.proofs.Common.{◌≡◌, ◌≤◌, drop}
use Rattle.front_reader.specs.Tokens as spec
use Rattle.front_reader.proofs.token.magnitude.Given as goal

abbrev pub invariant-loop-b : goal.invariant-loop-b
invariant-loop-b l = record {
  value : spec.digits_value l.base l.sum (drop l.b-index l.digits) ≡ spec.digits_value l.base 0 l.digits;
  bound : l.sum ≤ 536870912;
}
