-- The number of the digits so far, before those that are left.
use Rattle.std.proofs.Common.{◌≡◌, ◌≤◌, drop}
use Rattle.top_command.specs.Command.{decimal_from, up_to}
use Rattle.top_command.proofs.numbers.number_up_to.Given as goal

abbrev pub invariant-loop-digit : goal.invariant-loop-digit
invariant-loop-digit l = record {
  value : up_to l.most (decimal_from l.sum (drop l.digit-index l.digits)) ≡ up_to l.most (decimal_from 0 l.digits);
  bound : l.sum ≤ l.most;
}
